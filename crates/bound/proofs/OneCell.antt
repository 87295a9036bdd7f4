-- A piece within one cell: the entries' values are near the exact shares. The large error of `span` is half of lo + hi,
-- at x near 4096. Assumes nothing.
use native.Mathlib.Nat.{le_of_suc-le-suc, le_refl, lt_of_mul-lt-mul_right}
use mathlib.Core.Path.{◌≡◌, sym, subst}
use mathlib.Core.List.{List, [], ◌∷◌, ◌++◌}
use Prim.Native.Nat.{ℕ, suc, ◌+◌, ◌≤◌}
use native.Mathlib.Decide.{dec_le}
use native.Mathlib.Omega.{arith}
use lib.Dec.{ltb}
use lib.Ieee.{Float, binary32, of_bits, fits}
use Rattle.fraction.specs.Fraction.{Fraction, ◌≤ᶠ◌, ◌<ᶠ◌, ◌≈ᶠ◌, natᶠ, ◌/2^◌, ◌+ᶠ◌, ◌-ᶠ◌, ◌*ᶠ◌, absᶠ, Near, Within}
use Rattle.fraction.proofs.Linear.{at, at_le, at_lt, at_eq, le_at, eq_at, add_at, sub_at, scale_at, over, lit, trans}
use Rattle.fraction.proofs.Order.{of_eq, sym≈, trans≈, mul_cong, mul_comm, mul_one, mul_sub, zero_mul, sub_nonneg, add_mono, refl≤}
use Rattle.fraction.proofs.Near.{near_refl, near_weaken, near_same, near_trans, near_add, near_sub, near_by, within_weaken, within_near, within_self, abs_of_within}
use Rattle.fraction.proofs.Abs.{within_abs, abs_mul, abs_self}
use Rattle.rounding.specs.Value.{val}
use Rattle.rounding.proofs.Round.{near_to}
use Rattle.rounding.proofs.Analyse.{Known, Leaf, E, leaf, op, plus, minus, times, auto, known, given, constant, analyse}
use Rattle.float.specs.Ops.{◌⊕◌, ◌⊖◌, ◌⊗◌, f½, f1}
use Rattle.whole.specs.Whole.{of_whole}
use Rattle.winding.proofs.MeanOf.{G}
use Rattle.winding.proofs.Cells.{G-right, G-left, G-inside}
use Rattle.bound.proofs.Entries.{pick, prefix, total, Rising, pick_in, pick_out, rising_from, rising_once}
use Rattle.bound.proofs.Model.{single_e}
use Rattle.bound.proofs.Adds.{Adds, cut_twice, inside_error, inside_excess}
use Rattle.bound.proofs.Numbers.{Num, whole_is, whole_held}

-- ---- leaves: a whole number, the constants, a number by a bound of its size
abbrev number : (n : ℕ) → n ≤ 4096 → Leaf binary32
number n h = let I = whole_is n (omega (arith, h)) in
    record {
      x = of_whole n;
      X = natᶠ n;
      b = natᶠ 4096;
      e = natᶠ 0;
      is = record {
        fine = I.fine;
        held = whole_held n;
        near = near_same (sym≈ I.eq) (near_refl (natᶠ n));
        within = within_weaken (within_self (record { le = omega arith })) (record { le = omega (arith, h) });
      };
    }

unfoldable pub one : Leaf binary32
unfolding of_bits fits val
one = constant binary32 f1 (natᶠ 1) tt tt tt tt

unfoldable pub half : Leaf binary32
unfolding of_bits fits val
half = constant binary32 f½ (1 /2^ 1) tt tt tt tt

abbrev pub sized : (v : Float) (b : Fraction) → Num v b → Leaf binary32
sized v b h = given binary32 v b h.fine h.held h.within

-- what is near a part of a, in size
pub size_of : {x e : Fraction} (a m : Fraction) → natᶠ 0 ≤ᶠ m → Near x (a *ᶠ m) e → absᶠ x ≤ᶠ absᶠ a *ᶠ m +ᶠ e
size_of {x} {e} a m p h = trans (abs_of_within (within_near h (within_abs (a *ᶠ m))))
    (add_mono (of_eq (trans≈ (abs_mul a m) (mul_cong (absᶠ a) (abs_self p)))) (refl≤ e))

-- the errors of the middle, of an amount, and of both together, where the middle's cancels
abbrev middle_error : Fraction
middle_error = 8196 /2^ 24

abbrev single_error : Fraction
single_error = 8204 /2^ 24

abbrev both_error : Fraction
both_error = 10 /2^ 24

-- a piece from lo to hi in the cell `first`, with the signed height a
pub record InCell (lo hi : Float) (first : ℕ) (a : Float) : Type 0 where
  pub low : Num lo (natᶠ 4096)
  pub high : Num hi (natᶠ 4096)
  pub height : Num a cut_twice
  pub few : first ≤ 4096
  pub from : natᶠ first ≤ᶠ val lo
  pub order : val lo ≤ᶠ val hi
  pub to : val hi ≤ᶠ natᶠ (suc first)
  pub below : val lo <ᶠ natᶠ (suc first)

module _ (lo hi : Float) (first : ℕ) (a : Float) (piece : InCell lo hi first a) where
  abbrev m : Float
  m = f½ ⊗ (lo ⊕ hi) ⊖ of_whole first

  abbrev M : Fraction
  M = 1 /2^ 1 *ᶠ (val lo +ᶠ val hi) -ᶠ natᶠ first

  -- ---- the middle
  in_cell : (natᶠ 0 ≤ᶠ M) × (M ≤ᶠ natᶠ 1)
  in_cell = over (val lo ∷ val hi ∷ natᶠ first ∷ natᶠ (suc first) ∷ 1 /2^ 1 *ᶠ (val lo +ᶠ val hi) ∷ natᶠ 1 ∷ natᶠ 0 ∷ []) (λ N n L H P Q J O Z.
      let s = scale_at N (1 /2^ 1) (add_at N L H) J in (
        le_at N Z (search at) n (omega (arith, O.is, Z.is, P.is, Q.is, s, at_le N P L piece.from, at_le N L H piece.order)),
        le_at N (search at) O n (omega (arith, O.is, P.is, Q.is, s, at_le N L H piece.order, at_le N H Q piece.to)),
      ))

  M-within : Within M (natᶠ 1)
  M-within = within_weaken (within_self in_cell.0) in_cell.1

  abbrev middle : E binary32
  unfolding half
  middle =
      op minus (known (natᶠ 1)) (op times auto (leaf half) (op plus auto (leaf (sized lo (natᶠ 4096) piece.low)) (leaf (sized hi (natᶠ 4096) piece.high))))
      (leaf (number first piece.few))

  middle_known : Known binary32 m M (natᶠ 1) middle_error
  unfolding middle half ◌+ᶠ◌ ◌*ᶠ◌
  middle_known = let d = analyse middle tt (M-within, tt, (tt, tt, tt, (tt, tt, tt, tt)), tt) in record { fine = d.fine; held = d.held; near = near_weaken d.near (lit tt); within = d.within }

  m_num : Num m (natᶠ 2)
  unfolding ◌+ᶠ◌
  m_num = record { fine = middle_known.fine; held = middle_known.held; within = within_weaken (within_near middle_known.near M-within) (lit tt) }

  -- ---- the two amounts, from the middle as it was worked out
  abbrev left_e : E binary32
  unfolding one
  left_e = op times auto (leaf (sized a cut_twice piece.height)) (op minus auto (leaf one) (leaf (sized m (natᶠ 2) m_num)))

  abbrev right_e : E binary32
  right_e = op times auto (leaf (sized a cut_twice piece.height)) (leaf (sized m (natᶠ 2) m_num))

  abbrev left : Float
  left = a ⊗ (f1 ⊖ m)

  abbrev right : Float
  right = a ⊗ m

  left_known : Known binary32 left (val a *ᶠ (natᶠ 1 -ᶠ val m)) (cut_twice *ᶠ (natᶠ 1 +ᶠ natᶠ 2)) (7 /2^ 24)
  unfolding left_e one ◌+ᶠ◌ ◌*ᶠ◌
  left_known = let d = analyse left_e tt (tt, tt, tt, (tt, tt, tt, tt)) in record { fine = d.fine; held = d.held; near = near_weaken d.near (lit tt); within = d.within }

  right_known : Known binary32 right (val a *ᶠ val m) (cut_twice *ᶠ natᶠ 2) (3 /2^ 24)
  unfolding ◌+ᶠ◌ ◌*ᶠ◌
  right_known = let d = analyse right_e tt (tt, tt, tt, tt) in record { fine = d.fine; held = d.held; near = near_weaken d.near (lit tt); within = d.within }

  -- the exact shares
  left_near : Near (val left) (val a *ᶠ (natᶠ 1 -ᶠ M)) single_error
  left_near = near_weaken (near_trans left_known.near (near_by (near_sub (near_refl (natᶠ 1)) middle_known.near) piece.height.within)) (unfold ◌+ᶠ◌ ◌*ᶠ◌ in lit tt)

  right_near : Near (val right) (val a *ᶠ M) single_error
  right_near = near_weaken (near_trans right_known.near (near_by middle_known.near piece.height.within)) (unfold ◌+ᶠ◌ ◌*ᶠ◌ in lit tt)

  both_near : Near (val left +ᶠ val right) (val a) both_error
  both_near = near_weaken (near_to all (near_add left_known.near right_known.near)) (unfold ◌+ᶠ◌ in lit tt)
    where
      all : val a *ᶠ (natᶠ 1 -ᶠ val m) +ᶠ val a *ᶠ val m ≈ᶠ val a
      all = over (val a *ᶠ (natᶠ 1 -ᶠ val m) ∷ val a *ᶠ val m ∷ val a *ᶠ natᶠ 1 ∷ val a ∷ []) (λ N n X Y Z W.
          eq_at N (add_at N X Y) W n (omega (arith, at_eq N X (sub_at N Z Y) (mul_sub (val a) (natᶠ 1) (val m)), at_eq N Z W (mul_one (val a)))))

  -- ---- the sum of the sizes
  sizes : total (single_e first m a) ≤ᶠ absᶠ (val a) +ᶠ inside_excess
  unfolding total
  sizes =
      let B = absᶠ (val a) in
      over (absᶠ (val left) ∷ absᶠ (val right) ∷ B *ᶠ (natᶠ 1 -ᶠ M) ∷ B *ᶠ M ∷ B *ᶠ natᶠ 1 ∷ B ∷ single_error ∷ inside_excess ∷ natᶠ 0 ∷ []) (λ N n l r x y z b k t o.
      le_at N (add_at N l (add_at N r o)) (add_at N b t) n (omega (
        arith,
        o.is,
        k.is,
        t.is,
        at_le N l (add_at N x k) (size_of (val a) (natᶠ 1 -ᶠ M) (sub_nonneg in_cell.1) left_near),
        at_le N r (add_at N y k) (size_of (val a) M in_cell.0 right_near),
        at_eq N x (sub_at N z y) (mul_sub B (natᶠ 1) M),
        at_eq N z b (mul_one B),
      )))

  -- ---- THE CASE
  cells : (c : ℕ) → Near (prefix (single_e first m a) c) (val a *ᶠ G c (val lo) (val hi)) inside_error
  unfolding prefix
  cells c = go (dec_le first c) (dec_le (suc first) c)
    where
      picked : List Fraction
      picked = pick (ltb first (suc c)) (val left) ∷ pick (ltb (first + 1) (suc c)) (val right) ∷ natᶠ 0 ∷ val a *ᶠ G c (val lo) (val hi) ∷ []

      go : Dec (first ≤ c) → Dec (suc first ≤ c)
          → Near (pick (ltb first (suc c)) (val left) +ᶠ (pick (ltb (first + 1) (suc c)) (val right) +ᶠ natᶠ 0)) (val a *ᶠ G c (val lo) (val hi)) inside_error
      go (no f) k =
          let right_of : natᶠ (suc c) ≤ᶠ val lo = trans (record { le = omega (arith, f) }) piece.from in
          let g = trans≈ (mul_cong (val a) (G-right c (val lo) (val hi) right_of (trans right_of piece.order))) (mul_comm (val a) (natᶠ 0)) in
          over (picked ++ (natᶠ 0 *ᶠ val a ∷ inside_error ∷ [])) (λ N n X Y Z W O T.
          let i = at_eq N X Z (pick_out first (suc c) (val left) (omega (arith, f))) in
          let j = at_eq N Y Z (pick_out (first + 1) (suc c) (val right) (omega (arith, f))) in
          let k = at_eq N W O g in
          let l = at_eq N O Z (zero_mul (val a)) in
          record {
            lo = le_at N (search at) (search at) n (omega (arith, i, j, k, l, Z.is, T.is));
            hi = le_at N (search at) (search at) n (omega (arith, i, j, k, l, Z.is, T.is));
          })
      go (yes h) (no f) =
          let e : c ≡ first = omega (arith, h, f) in
          let g : G c (val lo) (val hi) ≈ᶠ natᶠ 1 -ᶠ M = subst (λ (t : ℕ). G t (val lo) (val hi) ≈ᶠ natᶠ 1 -ᶠ M) (sym e) (G-inside first (val lo) (val hi) piece.order piece.from piece.to) in
          over (picked ++ (val a *ᶠ (natᶠ 1 -ᶠ M) ∷ inside_error ∷ val left ∷ single_error ∷ [])) (λ N n X Y Z W O T L Q.
          let i = at_eq N X L (pick_in first (suc c) (val left) (omega (arith, h))) in
          let j = at_eq N Y Z (pick_out (first + 1) (suc c) (val right) (omega (arith, f))) in
          let k = at_eq N W O (mul_cong (val a) g) in
          record {
            lo = le_at N (search at) (search at) n (omega (arith, i, j, k, Z.is, T.is, Q.is, at_le N O (add_at N L Q) left_near.lo));
            hi = le_at N (search at) (search at) n (omega (arith, i, j, k, Z.is, T.is, Q.is, at_le N L (add_at N O Q) left_near.hi));
          })
      go (yes h) (yes f) =
          let left_of : val hi ≤ᶠ natᶠ c = trans piece.to (record { le = omega (arith, f) }) in
          let g : val a *ᶠ G c (val lo) (val hi) ≈ᶠ val a = trans≈ (mul_cong (val a) (G-left c (val lo) (val hi) (trans piece.order left_of) left_of)) (mul_one (val a)) in
          over (picked ++ (val a ∷ inside_error ∷ val left ∷ val right ∷ both_error ∷ [])) (λ N n X Y Z W O T L R Q.
          let i = at_eq N X L (pick_in first (suc c) (val left) (omega (arith, h))) in
          let j = at_eq N Y R (pick_in (first + 1) (suc c) (val right) (omega (arith, f))) in
          let k = at_eq N W O g in
          record {
            lo = le_at N (search at) (search at) n (omega (arith, i, j, k, Z.is, T.is, Q.is, at_le N O (add_at N (add_at N L R) Q) both_near.lo));
            hi = le_at N (search at) (search at) n (omega (arith, i, j, k, Z.is, T.is, Q.is, at_le N (add_at N L R) (add_at N O Q) both_near.hi));
          })

  single_rises : Rising first (single_e first m a)
  single_rises = (le_refl first, (omega arith, tt))

  pub single_adds : (w : ℕ) → Adds w 1 (single_e first m a) (val lo) (val hi) (val a) inside_error inside_excess
  single_adds w = record {
    fine = (left_known.fine, left_known.held, (right_known.fine, right_known.held, tt));
    near = λ c h. cells c;
    size = sizes;
    few = λ i. rising_once i first (single_e first m a) single_rises;
    from = λ k h l. rising_from k first (single_e first m a) (least k h) single_rises;
  }
    where
      least : (k : ℕ) → natᶠ k ≤ᶠ val lo → k ≤ first
      least k h = over (natᶠ k ∷ natᶠ (suc first) ∷ val lo ∷ []) (λ N n K Q L. le_of_suc-le-suc (lt_of_mul-lt-mul_right N (omega (arith, K.is, Q.is, at_le N K L h, at_lt N L Q n piece.below))))

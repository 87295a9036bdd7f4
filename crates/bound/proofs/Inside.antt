-- A piece that lies within the row: in one cell, or across cells. Assumes nothing.
use mathlib.Core.Path.{◌≡◌, refl, ap, ◌∙◌, subst}
use mathlib.Core.List.{List, [], ◌∷◌, ◌++◌}
use mathlib.Core.Bool.{Bool, true, false, not, cond}
use Prim.Native.Nat.{ℕ, zero, suc, ◌+◌, ◌-◌, ◌≤◌, ◌<◌}
use native.Mathlib.Nat.{le_of_suc-le-suc, lt_of_mul-lt-mul_right}
use native.Mathlib.Omega.{arith}
use lib.Dec.{T, leb, eqb, leb→le, nleb→lt, eqb→eq, eqb_refl, not_T}
use lib.Ieee.{Float}
use Rattle.fraction.specs.Fraction.{Fraction, ◌≤ᶠ◌, ◌<ᶠ◌, natᶠ, ◌+ᶠ◌, absᶠ}
use Rattle.fraction.proofs.Linear.{at_le, at_lt, lt_at, add_at, over, lit, lit<ᶠ, trans}
use Rattle.fraction.proofs.Order.{refl≤, add_mono, le_lt}
use Rattle.fraction.proofs.Near.{near_weaken}
use Rattle.rounding.specs.Value.{val}
use Rattle.float.specs.Ops.{◌⊕◌, ◌⊖◌, ◌⊗◌, f1}
use Rattle.whole.specs.Whole.{column_of, of_whole}
use Rattle.row.specs.Row.{ceil_column}
use Rattle.bound.proofs.Entries.{Entry, entry}
use Rattle.bound.proofs.Model.{even_e, single_e, two_e, more_e, across_e, inside_e, halfway, per_of, enters_of, leaves_of, corner_of, second_of}
use Rattle.bound.proofs.Adds.{Adds, cut_twice, across_error, inside_error, inside_excess}
use Rattle.bound.proofs.Numbers.{Num, column_is, ceil_is}
use Rattle.bound.proofs.OneCell.{single_adds}
use Rattle.bound.proofs.Across.{Across, more_adds, two_adds}

pub weaken : {w m : ℕ} {L : List Entry} {x y a e d E D : Fraction} → e ≤ᶠ E → d ≤ᶠ D → Adds w m L x y a e d → Adds w m L x y a E D
weaken {a = a} p q h =
    record { fine = h.fine; near = λ c k. near_weaken (h.near c k) p; size = trans h.size (add_mono (refl≤ (absᶠ a)) q); few = h.few; from = h.from }

-- a choice
chosen : (b : Bool) (x y : List Entry) → T b → x ≡ cond b x y
chosen true x y t = refl
chosen false x y t = absurd t

other : (b : Bool) (x y : List Entry) → T (not b) → y ≡ cond b x y
other true x y t = absurd t
other false x y t = refl

unequal : (m n : ℕ) → n < m → T (not (eqb m n))
unequal m n h = not_T (eqb m n) (λ t. no (eqb→eq m n t))
  where
    no : m ≡ n → ⊥
    no e = omega (arith, h, e)

module _ (w : ℕ) (lo hi a : Float) (Lo : Num lo (natᶠ 4096)) (Hi : Num hi (natᶠ 4096)) (A : Num a cut_twice) where
  abbrev Good : List Entry → Type 0
  Good L = Adds w 1 L (val lo) (val hi) (val a) inside_error inside_excess

  abbrev Near-enough : List Entry → Type 0
  Near-enough L = Adds w 1 L (val lo) (val hi) (val a) across_error across_error

  -- the lists that the engine chooses from, by the last cell
  abbrev head_of : ℕ → Float
  head_of first = corner_of (per_of lo hi) (enters_of lo first)

  abbrev tail_of : ℕ → Float
  tail_of pen = corner_of (per_of lo hi) (leaves_of hi (suc pen))

  abbrev two : ℕ → ℕ → List Entry
  two first pen = two_e first (suc pen) a (head_of first) (tail_of pen)

  abbrev more : ℕ → ℕ → List Entry
  more first pen = more_e first (suc pen) a (per_of lo hi) (enters_of lo first) (head_of first) (tail_of pen)

  across : {first pen : ℕ} (j : ℕ) → Across lo hi first pen j a → Good (across_e lo hi first (suc pen) a)
  across {first} {pen} zero piece =
      let is = chosen (eqb (suc pen) (first + 2)) (two first pen) (more first pen) (subst (λ (t : ℕ). T (eqb (suc pen) t)) (omega (arith, piece.between)) (eqb_refl (suc pen))) in
      weaken (lit tt) (lit tt) (subst (λ (L : List Entry). Near-enough (entry first (a ⊗ head_of first) ∷ L)) is (two_adds lo hi first pen 0 a piece refl w))
  across {first} {pen} (suc k) piece =
      let per = per_of lo hi in
      let enters = enters_of lo first in
      let tail = tail_of pen in
      let second = entry (first + 1) (a ⊗ (second_of per enters ⊖ head_of first)) in
      let last = entry (suc pen) (a ⊗ tail) ∷ [] in
      let fourth : ℕ → Float = λ n. a ⊗ (f1 ⊖ (second_of per enters ⊕ of_whole n ⊗ per) ⊖ tail) in
      let form : ℕ → ℕ → ℕ → List Entry = λ i p n. second ∷ even_e i (first + 2) (a ⊗ per) ++ (entry p (fourth n) ∷ last) in
      let p1 : k ≡ suc pen - 1 - (first + 2) = omega (arith, piece.between) in
      let p2 : pen ≡ suc pen - 1 = omega arith in
      let p3 : k ≡ suc pen - first - 3 = omega (arith, piece.between) in
      let path : form k pen k ≡ form (suc pen - 1 - (first + 2)) (suc pen - 1) (suc pen - first - 3) =
      ap (λ (i : ℕ). form i pen k) p1 ∙ ap (λ (p : ℕ). form (suc pen - 1 - (first + 2)) p k) p2
      ∙ ap (λ (n : ℕ). form (suc pen - 1 - (first + 2)) (suc pen - 1) n) p3 in
      let is = path ∙ other (eqb (suc pen) (first + 2)) (two first pen) (more first pen) (unequal (suc pen) (first + 2) (omega (arith, piece.between))) in
      weaken (lit tt) (lit tt) (subst (λ (L : List Entry). Near-enough (entry first (a ⊗ head_of first) ∷ L)) is (more_adds lo hi first pen (suc k) a piece k refl w))

  across_last : (first last : ℕ) → suc first < last → last ≤ 4096 → natᶠ first ≤ᶠ val lo → val lo <ᶠ natᶠ (suc first) → natᶠ last <ᶠ val hi +ᶠ natᶠ 1 → val hi ≤ᶠ natᶠ last
      → Good (across_e lo hi first last a)
  across_last first zero l P from below beyond to = absurd (no l)
    where
      no : suc first < 0 → ⊥
      no l = omega arith
  across_last first (suc pen) l P from below beyond to = across (pen - suc first) (record {
    low = Lo;
    high = Hi;
    height = A;
    few = P;
    between = omega (arith, l);
    from = from;
    below = below;
    beyond = over (natᶠ (suc pen) ∷ natᶠ pen ∷ val hi ∷ natᶠ 1 ∷ []) (λ N n X Y H O.
        lt_at N Y H (omega (arith, X.is, Y.is, O.is, at_lt N X (add_at N H O) n beyond)));
    to = to;
  })

  -- ---- THE CASE
  pub inside_adds : natᶠ 0 ≤ᶠ val lo → val lo ≤ᶠ val hi → Good (inside_e lo hi a)
  unfolding inside_e
  inside_adds z order = go (leb (ceil_column hi) (column_of lo + 1)) (leb→le (ceil_column hi) (column_of lo + 1)) (nleb→lt (ceil_column hi) (column_of lo + 1))
    where
      F : (natᶠ (column_of lo) ≤ᶠ val lo) × (val lo <ᶠ natᶠ (suc (column_of lo)))
      F = column_is lo Lo.fine z (le_lt Lo.within.hi (lit<ᶠ tt))

      C : (val hi ≤ᶠ natᶠ (ceil_column hi)) × (natᶠ (ceil_column hi) <ᶠ val hi +ᶠ natᶠ 1)
      C = ceil_is hi Hi.fine Hi.held (trans z order) Hi.within.hi

      first_le : column_of lo ≤ 4096
      first_le = le_nat (column_of lo) (trans F.0 Lo.within.hi)
        where
          le_nat : (n : ℕ) → natᶠ n ≤ᶠ natᶠ 4096 → n ≤ 4096
          le_nat n h = omega (arith, h.le)

      last_le : ceil_column hi ≤ 4096
      last_le = over (natᶠ (ceil_column hi) ∷ val hi ∷ natᶠ 1 ∷ natᶠ 4096 ∷ []) (λ N n X H O Q.
          le_of_suc-le-suc (lt_of_mul-lt-mul_right N (omega (arith, X.is, O.is, Q.is, at_lt N X (add_at N H O) n C.1, at_le N H Q Hi.within.hi))))

      go : (b : Bool) → (T b → ceil_column hi ≤ column_of lo + 1) → (T (not b) → column_of lo + 1 < ceil_column hi)
          → Good (cond b (single_e (column_of lo) (halfway lo hi) a) (across_e lo hi (column_of lo) (ceil_column hi) a))
      go true f g = single_adds lo hi (column_of lo) a (record {
        low = Lo;
        high = Hi;
        height = A;
        few = first_le;
        from = F.0;
        order = order;
        to = trans C.0 (record { le = omega (arith, f tt) });
        below = F.1;
      }) w
      go false f g = across_last (column_of lo) (ceil_column hi) (omega (arith, g tt)) last_le F.0 F.1 C.1 C.0

-- A piece across cells: what is worked out of it, how far each number is off, and the sums of the entries against G. e
-- and l are how far it reaches into its first and its last cell, r is 1 / (hi - lo). Assumes nothing.
use mathlib.Core.Path.{◌≡◌, refl, ap, subst}
use mathlib.Core.List.{List, [], ◌∷◌, ◌++◌}
use mathlib.Core.Bool.{Bool, true, false, not}
use Prim.Native.Nat.{ℕ, zero, suc, ◌+◌, ◌-◌, ◌*◌, ◌^◌, ◌≤◌, ◌<◌, min}
use native.Mathlib.Decide.{dec_le}
use native.Mathlib.Nat.{le_refl, le_antisymm, le_of_suc-le-suc, lt_of_mul-lt-mul_right, zero-min}
use native.Mathlib.Omega.{arith}
use lib.Dec.{T, ltb, lit≤, ltb→lt, nltb→le}
use lib.Ieee.{Float, binary32, fits}
use lib.Ieee.Fits.{sub-fits, mul-fits}
use lib.Ieee.Scale.{finite}
use Rattle.fraction.specs.Whole.{natʷ, sizeʷ, ◌-ʷ◌}
use Rattle.fraction.specs.Fraction.{Fraction, ◌≤ᶠ◌, ◌<ᶠ◌, ◌≈ᶠ◌, natᶠ, ◌/2^◌, ◌+ᶠ◌, ◌-ᶠ◌, ◌*ᶠ◌, absᶠ, invᶠ, Near, Within}
use Rattle.fraction.proofs.Linear.{at, at_le, at_lt, at_eq, at_same, le_at, lt_at, eq_at, add_at, sub_at, scale_at, over, lit, trans}
use Rattle.fraction.proofs.Order.{of_eq, of_lt, sym≈, trans≈, refl≤, refl≈, add_mono, above_not, nat_le, one_more}
use Rattle.fraction.proofs.Order.{mul_comm, mul_cong, mul_assoc, mul_one, mul_mono, mul_mono_right, mul_add, mul_nonneg, inv_mul, inv_nonneg, zero_mul}
use Rattle.fraction.proofs.Near.{near_refl, near_weaken, near_same, near_add, near_by, within_weaken, within_self, within_mul, within_same, within_sub}
use Rattle.fraction.proofs.Abs.{abs_mul, abs_self}
use Rattle.fraction.proofs.Relative.{rel_near}
use Rattle.fraction.proofs.Ring.{rep, reps, ring, cong_add, cong_sub, cong_mul}
use Rattle.rounding.specs.Value.{val, roundoff}
use Rattle.rounding.specs.Rounding.{Rounds, Is}
use Rattle.rounding.proofs.Round.{rounds_same, near_to}
use Rattle.rounding.proofs.Ops.{sub_rounds}
use Rattle.rounding.proofs.Exactly.{is_same, sub_exact}
use Rattle.rounding.proofs.Relative.{Approx, approx_self, add_approx, div_approx}
use Rattle.rounding.proofs.Analyse.{Known, Leaf, leaf, op, plus, minus, times, auto, analyse}
use Rattle.float.specs.Ops.{◌⊕◌, ◌⊖◌, ◌⊗◌, f½, f1}
use Rattle.whole.specs.Whole.{of_whole}
use Rattle.winding.proofs.MeanOf.{G}
use Rattle.winding.proofs.Cells.{G-right, G-left, G-first, G-between, G-last}
use Rattle.bound.proofs.Entries.{Entry, entry, pick, tally, worth, size, before, anywhere, prefix, total, Fine, Rising, plus_none}
use Rattle.bound.proofs.Entries.{prefix_in, prefix_none, prefix_one, prefix_append, tally_append, fine_append, rising_weaken, rising_from, rising_once}
use Rattle.bound.proofs.Model.{even_e, per_of, enters_of, leaves_of, corner_of, second_of}
use Rattle.bound.proofs.Adds.{Adds, cut_twice, across_error}
use Rattle.bound.proofs.Numbers.{Num, whole_is, half_is, one_is}
use Rattle.bound.proofs.Floor.{floor_sub, apart}
use Rattle.bound.proofs.OneCell.{one, sized, size_of}
use Rattle.bound.proofs.Products.{approx_weaken, approx_same, approx_exact, approx_rounds, approx_known, leaf_of, Fit, product}

-- the errors of the first and the last amount, of one between them, of all the even ones together, and of all but the
-- last
abbrev end_error : Fraction
end_error = 1 /2^ 17

abbrev middle_error : Fraction
middle_error = 1 /2^ 16

abbrev even_error : Fraction
even_error = 1 /2^ 19

abbrev rest_error : Fraction
rest_error = 11 /2^ 18

-- ---- entries of one amount in n cells from i on
prefix_even : (n i : ℕ) (f : Float) (c : ℕ) → prefix (even_e n i f) c ≈ᶠ natᶠ (min n (c + 1 - i)) *ᶠ val f
unfolding even_e prefix
prefix_even zero i f c = rw (zero-min (c + 1 - i)) (sym≈ (zero_mul (val f)))
prefix_even (suc n) i f c = go (ltb i (suc c)) (ltb→lt i (suc c)) (nltb→le i (suc c)) (prefix_even n (i + 1) f c)
  where
    go : (b : Bool) → (T b → i < suc c) → (T (not b) → suc c ≤ i) → tally worth (before (suc c)) (even_e n (i + 1) f) ≈ᶠ natᶠ (min n (c + 1 - (i + 1))) *ᶠ val f
        → pick b (val f) +ᶠ tally worth (before (suc c)) (even_e n (i + 1) f) ≈ᶠ natᶠ (min (suc n) (c + 1 - i)) *ᶠ val f
    go true g h ih =
        let j = min n (c + 1 - (i + 1)) in
        let e : min (suc n) (c + 1 - i) ≡ suc j = omega (arith, g tt) in
        rw e (over (val f ∷ tally worth (before (suc c)) (even_e n (i + 1) f) ∷ natᶠ j *ᶠ val f ∷ natᶠ (suc j) *ᶠ val f ∷ []) (λ N n A P J K.
        eq_at N (add_at N A P) K n (omega (arith, at_eq N P J ih, at_eq N K (add_at N J A) (one_more j (val f))))))
    go false g h ih =
        let e : min n (c + 1 - (i + 1)) ≡ 0 = omega (arith, h tt) in
        let d : min (suc n) (c + 1 - i) ≡ 0 = omega (arith, h tt) in
        let k = subst (λ (t : ℕ). tally worth (before (suc c)) (even_e n (i + 1) f) ≈ᶠ natᶠ t *ᶠ val f) e ih in
        rw d (over (natᶠ 0 ∷ tally worth (before (suc c)) (even_e n (i + 1) f) ∷ natᶠ 0 *ᶠ val f ∷ []) (λ N n O P K.
        eq_at N (add_at N O P) K n (omega (arith, at_eq N P K k, O.is))))

total_even : (n i : ℕ) (f : Float) → tally size anywhere (even_e n i f) ≈ᶠ natᶠ n *ᶠ absᶠ (val f)
unfolding even_e
total_even zero i f = sym≈ (zero_mul (absᶠ (val f)))
total_even (suc n) i f = let ih = total_even n (i + 1) f in
    over (absᶠ (val f) ∷ tally size anywhere (even_e n (i + 1) f) ∷ natᶠ n *ᶠ absᶠ (val f) ∷ natᶠ (suc n) *ᶠ absᶠ (val f) ∷ []) (λ N p A P J K.
    eq_at N (add_at N A P) K p (omega (arith, at_eq N P J ih, at_eq N K (add_at N J A) (one_more n (absᶠ (val f))))))

fine_even : (n i : ℕ) (f : Float) → T (finite f) → T (fits binary32 f) → Fine (even_e n i f)
unfolding even_e
fine_even zero i f p q = tt
fine_even (suc n) i f p q = (p, q, fine_even n (i + 1) f p q)

rising_even : (n i : ℕ) (f : Float) (m : List Entry) → Rising (i + n) m → Rising i (even_e n i f ++ m)
unfolding even_e
rising_even zero i f m h = rising_weaken i (i + 0) m (omega arith) h
rising_even (suc n) i f m h = (le_refl i, rising_weaken (suc i) (i + 1) (even_e n (i + 1) f ++ m) (omega arith) (rising_even n (i + 1) f m (rising_weaken (i + 1 + n) (i + suc n) m (omega arith) h)))

-- a piece from lo in the cell `first` to hi in the cell `pen`, or at its right, with j whole cells between them, and
-- with the signed height a
pub record Across (lo hi : Float) (first pen j : ℕ) (a : Float) : Type 0 where
  pub low : Num lo (natᶠ 4096)
  pub high : Num hi (natᶠ 4096)
  pub height : Num a cut_twice
  pub few : suc pen ≤ 4096
  pub between : pen ≡ suc (first + j)
  pub from : natᶠ first ≤ᶠ val lo
  pub below : val lo <ᶠ natᶠ (suc first)
  pub beyond : natᶠ pen <ᶠ val hi
  pub to : val hi ≤ᶠ natᶠ (suc pen)

module _ (lo hi : Float) (first pen j : ℕ) (a : Float) (piece : Across lo hi first pen j a) where
  -- ---- the exact numbers
  abbrev pub W : Fraction
  W = val hi -ᶠ val lo

  abbrev pub r : Fraction
  r = invᶠ W

  abbrev pub e : Fraction
  e = natᶠ (suc first) -ᶠ val lo

  abbrev pub l : Fraction
  l = val hi -ᶠ natᶠ pen

  inside : natᶠ (suc first) <ᶠ val hi
  inside = over (natᶠ (suc first) ∷ natᶠ pen ∷ val hi ∷ []) (λ N n F Q H. lt_at N F H (omega (arith, F.is, Q.is, ap (λ (t : ℕ). t * N) piece.between, at_lt N Q H n piece.beyond)))

  lo_nonneg : natᶠ 0 ≤ᶠ val lo
  lo_nonneg = trans (record { le = omega arith }) piece.from

  W-ge : 1 /2^ 24 ≤ᶠ W
  W-ge = apart lo hi first piece.low piece.high lo_nonneg piece.below inside

  W-pos : natᶠ 0 <ᶠ W
  W-pos = over (W ∷ natᶠ 0 ∷ 1 /2^ 24 ∷ []) (λ N n A O B. lt_at N O A (omega (arith, n, O.is, B.is, at_le N B A W-ge)))

  pub r_w : r *ᶠ W ≈ᶠ natᶠ 1
  r_w = inv_mul W (above_not W-pos)

  pub e_nonneg : natᶠ 0 ≤ᶠ e
  e_nonneg = over (natᶠ 0 ∷ natᶠ (suc first) ∷ val lo ∷ []) (λ N n O F L. le_at N O (sub_at N F L) n (omega (arith, O.is, at_lt N L F n piece.below)))

  pub e_le : e ≤ᶠ natᶠ 1
  e_le = over (natᶠ 1 ∷ natᶠ (suc first) ∷ natᶠ first ∷ val lo ∷ []) (λ N n O F Q L. le_at N (sub_at N F L) O n (omega (arith, O.is, F.is, Q.is, at_le N Q L piece.from)))

  pub l_nonneg : natᶠ 0 ≤ᶠ l
  l_nonneg = over (natᶠ 0 ∷ natᶠ pen ∷ val hi ∷ []) (λ N n O F L. le_at N O (sub_at N L F) n (omega (arith, O.is, at_lt N F L n piece.beyond)))

  pub l_le : l ≤ᶠ natᶠ 1
  l_le = over (natᶠ 1 ∷ natᶠ (suc pen) ∷ natᶠ pen ∷ val hi ∷ []) (λ N n O F Q H. le_at N (sub_at N H Q) O n (omega (arith, O.is, F.is, Q.is, at_le N H F piece.to)))

  -- hi - lo is e, the cells between, and l
  W-is : W ≈ᶠ e +ᶠ natᶠ j +ᶠ l
  W-is = over (val lo ∷ val hi ∷ natᶠ (suc first) ∷ natᶠ pen ∷ natᶠ j ∷ []) (λ N n L H F Q K.
      eq_at N (search at) (search at) n (omega (arith, F.is, Q.is, K.is, ap (λ (t : ℕ). t * N) piece.between)))

  pub r_nonneg : natᶠ 0 ≤ᶠ r
  r_nonneg = inv_nonneg W W-pos

  pub unity : r *ᶠ e +ᶠ r *ᶠ natᶠ j +ᶠ r *ᶠ l ≈ᶠ natᶠ 1
  unity = let ρ = r ∷ e ∷ natᶠ j ∷ l ∷ [] in let R = reps ρ in
      trans≈ (ring ρ {x = r *ᶠ e +ᶠ r *ᶠ natᶠ j +ᶠ r *ᶠ l} {y = r *ᶠ (e +ᶠ natᶠ j +ᶠ l)} (search rep depth 7) (search rep depth 7) tt) (trans≈ (mul_cong r (sym≈ W-is)) r_w)

  pub re_nonneg : natᶠ 0 ≤ᶠ r *ᶠ e
  re_nonneg = mul_nonneg r_nonneg e_nonneg

  pub rl_nonneg : natᶠ 0 ≤ᶠ r *ᶠ l
  rl_nonneg = mul_nonneg r_nonneg l_nonneg

  pub rj_nonneg : natᶠ 0 ≤ᶠ r *ᶠ natᶠ j
  rj_nonneg = mul_nonneg r_nonneg (record { le = omega arith })

  pub re_le : r *ᶠ e ≤ᶠ natᶠ 1
  re_le = over (r *ᶠ e ∷ r *ᶠ natᶠ j ∷ r *ᶠ l ∷ natᶠ 1 ∷ natᶠ 0 ∷ []) (λ N n X Y Z I O. le_at N X I n (omega (arith, O.is, at_eq N (search at) I unity, at_le N O Y rj_nonneg, at_le N O Z rl_nonneg)))

  pub rl_le : r *ᶠ l ≤ᶠ natᶠ 1
  rl_le = over (r *ᶠ e ∷ r *ᶠ natᶠ j ∷ r *ᶠ l ∷ natᶠ 1 ∷ natᶠ 0 ∷ []) (λ N n X Y Z I O. le_at N Z I n (omega (arith, O.is, at_eq N (search at) I unity, at_le N O Y rj_nonneg, at_le N O X re_nonneg)))

  -- ---- the floats
  abbrev per : Float
  per = per_of lo hi

  abbrev enters : Float
  enters = enters_of lo first

  abbrev leaves : Float
  leaves = leaves_of hi (suc pen)

  r_le : r ≤ᶠ natᶠ (2 ^ 24)
  r_le = over (r ∷ 1 /2^ 24 *ᶠ r ∷ natᶠ 1 ∷ natᶠ (2 ^ 24) ∷ []) (λ N n I J O K. le_at N I K n
      (omega (arith, O.is, K.is, scale_at N (1 /2^ 24) I J, at_le N J O (trans (mul_mono_right r_nonneg W-ge) (trans (of_eq (mul_comm W r)) (of_eq r_w))))))

  r_within : Within r (natᶠ (2 ^ 24))
  r_within = within_weaken (within_self r_nonneg) r_le

  wide : Rounds binary32 (natᶠ 0) W (hi ⊖ lo)
  wide =
      sub_rounds binary32 hi lo piece.high.fine piece.low.fine piece.high.held piece.low.held
      (within_weaken (within_sub piece.high.within piece.low.within) (unfold ◌+ᶠ◌ in lit tt))

  per_ok : Approx binary32 per r (1 /2^ 22) (1 /2^ 149)
  unfolding ◌+ᶠ◌ ◌-ᶠ◌ ◌*ᶠ◌
  per_ok = approx_weaken (lit tt) (lit tt) (approx_same (trans≈ (mul_comm (natᶠ 1) r) (mul_one r))
      (div_approx binary32 f1 (hi ⊖ lo) (natᶠ 1) W (natᶠ 0) (natᶠ 0) (natᶠ 1) (roundoff binary32) (17 /2^ 28) (natᶠ (2 ^ 24))
      (approx_exact one_is) (approx_rounds wide (sub-fits binary32 hi lo)) (above_not W-pos) (lit tt) (lit tt)
      (record { r0 = lit tt; s0 = lit tt; t0 = lit tt; v0 = lit tt; both0 = lit tt }) (within_self (lit tt)) r_within (lit tt)))

  first_le : first ≤ 4096
  first_le = omega (arith, piece.few, piece.between)

  enters_ok : Approx binary32 enters e (roundoff binary32) (natᶠ 0)
  enters_ok =
      let I = floor_sub lo first piece.low first_le piece.from piece.below in
      let q : val f1 -ᶠ val (lo ⊖ of_whole first) ≈ᶠ e = over (val f1 ∷ natᶠ 1 ∷ val (lo ⊖ of_whole first) ∷ val lo ∷ natᶠ first ∷ natᶠ (suc first) ∷ []) (λ N n X O Y L F G.
      eq_at N (sub_at N X Y) (sub_at N G L) n (omega (arith, O.is, F.is, G.is, at_eq N X O one_is.eq, at_eq N Y (sub_at N L F) I.eq))) in
      approx_rounds (rounds_same q (sub_rounds binary32 f1 (lo ⊖ of_whole first) one_is.fine I.fine one_is.held (sub-fits binary32 lo (of_whole first))
      (within_same (sym≈ q) (within_weaken (within_self e_nonneg) (trans e_le (lit tt)))))) (sub-fits binary32 f1 (lo ⊖ of_whole first))

  last_is : Is (natᶠ pen) (of_whole (suc pen) ⊖ f1)
  last_is =
      let F = whole_is (suc pen) (omega (arith, piece.few)) in
      let X = at_same 1 (sym≈ F.eq) (record { z = natʷ (suc pen); is = omega arith }) in
      let Y = at_same 1 (sym≈ one_is.eq) (record { z = natʷ 1; is = refl }) in
      let e = over (val (of_whole (suc pen)) ∷ natᶠ (suc pen) ∷ val f1 ∷ natᶠ 1 ∷ natᶠ pen ∷ []) (λ N n U S T O Q.
      eq_at N (sub_at N U T) Q n (omega (arith, S.is, O.is, Q.is, at_eq N U S F.eq, at_eq N T O one_is.eq))) in
      is_same e
      (sub_exact binary32 0 (of_whole (suc pen)) f1 F.fine one_is.fine (lit≤ tt) X Y (big pen piece.few))
    where
      big : (n : ℕ) → suc n ≤ 4096 → sizeʷ (natʷ (suc n) -ʷ natʷ 1) < 2 ^ 24
      big n h = omega (arith, lit≤ {m = 8193} {n = 2 ^ 24} tt)

  leaves_ok : Approx binary32 leaves l (roundoff binary32) (natᶠ 0)
  leaves_ok =
      let q : val hi -ᶠ val (of_whole (suc pen) ⊖ f1) ≈ᶠ l = cong_sub (refl≈ (val hi)) last_is.eq in
      approx_rounds (rounds_same q (sub_rounds binary32 hi (of_whole (suc pen) ⊖ f1) piece.high.fine last_is.fine piece.high.held (sub-fits binary32 (of_whole (suc pen)) f1)
      (within_same (sym≈ q) (within_weaken (within_self l_nonneg) (trans l_le (lit tt)))))) (sub-fits binary32 hi (of_whole (suc pen) ⊖ f1))

  -- ---- half of per, and the corners: half of r times the square of a side
  half_ok : Approx binary32 (f½ ⊗ per) (1 /2^ 1 *ᶠ r) (1 /2^ 21) (1 /2^ 148)
  half_ok = product (1 /2^ 1) (natᶠ (2 ^ 24)) (1 /2^ 21) (1 /2^ 148) (approx_exact half_is) per_ok (within_self (lit tt)) r_within (unfold Fit in (tt, tt, tt, tt, tt, tt, tt, tt))

  module _ (z : Float) (Z : Fraction) (h : Approx binary32 z Z (roundoff binary32) (natᶠ 0)) (Z0 : natᶠ 0 ≤ᶠ Z) (Z1 : Z ≤ᶠ natᶠ 1) (rZ : r *ᶠ Z ≤ᶠ natᶠ 1) where
    Z-within : Within Z (natᶠ 1)
    Z-within = within_weaken (within_self Z0) Z1

    H-within : Within (1 /2^ 1 *ᶠ r) (natᶠ (2 ^ 24))
    H-within = within_weaken (within_mul (within_self {x = 1 /2^ 1} (lit tt)) r_within) (unfold ◌*ᶠ◌ in lit tt)

    HZ-within : Within (1 /2^ 1 *ᶠ r *ᶠ Z) (natᶠ (2 ^ 24))
    HZ-within = within_weaken (within_mul H-within Z-within) (unfold ◌*ᶠ◌ in lit tt)

    -- not negative, and at most half of r * Z
    corner_small : (natᶠ 0 ≤ᶠ 1 /2^ 1 *ᶠ r *ᶠ Z *ᶠ Z) × (1 /2^ 1 *ᶠ r *ᶠ Z *ᶠ Z ≤ᶠ 1 /2^ 1 *ᶠ (r *ᶠ Z))
    corner_small =
        let g = mul_nonneg (mul_nonneg {x = 1 /2^ 1} (lit tt) r_nonneg) Z0 in
        (mul_nonneg g Z0, trans (mul_mono g Z1) (of_eq (trans≈ (mul_one (1 /2^ 1 *ᶠ r *ᶠ Z)) (mul_assoc (1 /2^ 1) r Z))))

    corner_within : Within (1 /2^ 1 *ᶠ r *ᶠ Z *ᶠ Z) (natᶠ 1)
    corner_within = within_weaken (within_self corner_small.0) (trans corner_small.1 (trans (mul_mono {x = 1 /2^ 1} (lit tt) rZ) (unfold ◌*ᶠ◌ in lit tt)))

    corner : Known binary32 (corner_of per z) (1 /2^ 1 *ᶠ r *ᶠ Z *ᶠ Z) (natᶠ 1) (1 /2^ 18)
    corner =
        let s = product (natᶠ (2 ^ 24)) (natᶠ 1) (1 /2^ 20) (1 /2^ 147) half_ok h H-within Z-within (unfold Fit in (tt, tt, tt, tt, tt, tt, tt, tt)) in
        let c = product (natᶠ (2 ^ 24)) (natᶠ 1) (1 /2^ 19) (1 /2^ 145) s h HZ-within Z-within (unfold Fit in (tt, tt, tt, tt, tt, tt, tt, tt)) in
        approx_known (natᶠ 1) (1 /2^ 18) c (lit tt) corner_within (unfold ◌+ᶠ◌ ◌*ᶠ◌ in lit tt)

  abbrev head : Float
  head = corner_of per enters

  abbrev tail : Float
  tail = corner_of per leaves

  abbrev h : Fraction
  h = 1 /2^ 1 *ᶠ r *ᶠ e *ᶠ e

  abbrev t : Fraction
  t = 1 /2^ 1 *ᶠ r *ᶠ l *ᶠ l

  h_small : (natᶠ 0 ≤ᶠ h) × (h ≤ᶠ 1 /2^ 1 *ᶠ (r *ᶠ e))
  h_small = corner_small enters e enters_ok e_nonneg e_le re_le

  t_small : (natᶠ 0 ≤ᶠ t) × (t ≤ᶠ 1 /2^ 1 *ᶠ (r *ᶠ l))
  t_small = corner_small leaves l leaves_ok l_nonneg l_le rl_le

  abbrev head_l : Leaf binary32
  head_l = leaf_of (corner enters e enters_ok e_nonneg e_le re_le)

  abbrev tail_l : Leaf binary32
  tail_l = leaf_of (corner leaves l leaves_ok l_nonneg l_le rl_le)

  abbrev amount : Leaf binary32
  amount = sized a cut_twice piece.height

  -- ---- the first entry and the last
  x1_ok : T (finite (a ⊗ head)) × Near (val (a ⊗ head)) (val a *ᶠ h) end_error
  unfolding ◌+ᶠ◌ ◌*ᶠ◌
  x1_ok = let d = analyse (op times auto (leaf amount) (leaf head_l)) tt (tt, tt, tt, tt) in (d.fine, near_weaken d.near (lit tt))

  x5_ok : T (finite (a ⊗ tail)) × Near (val (a ⊗ tail)) (val a *ᶠ t) end_error
  unfolding ◌+ᶠ◌ ◌*ᶠ◌
  x5_ok = let d = analyse (op times auto (leaf amount) (leaf tail_l)) tt (tt, tt, tt, tt) in (d.fine, near_weaken d.near (lit tt))

  -- the one in the middle, of two cells
  x2_two : T (finite (a ⊗ (f1 ⊖ head ⊖ tail))) × Near (val (a ⊗ (f1 ⊖ head ⊖ tail))) (val a *ᶠ (natᶠ 1 -ᶠ h -ᶠ t)) middle_error
  unfolding one ◌+ᶠ◌ ◌*ᶠ◌
  x2_two =
      let d = analyse (op times auto (leaf amount) (op minus auto (op minus auto (leaf one) (leaf head_l)) (leaf tail_l))) tt (tt, tt, tt, (tt, tt, (tt, tt, tt, tt), tt)) in
      (d.fine, near_weaken d.near (lit tt))

  order : val lo ≤ᶠ val hi
  order = over (val lo ∷ val hi ∷ natᶠ (suc first) ∷ []) (λ N n L U F. le_at N L U n (omega (arith, at_lt N L F n piece.below, at_lt N F U n inside)))

  least : (i : ℕ) → natᶠ i ≤ᶠ val lo → i ≤ first
  least i m = over (natᶠ i ∷ natᶠ (suc first) ∷ val lo ∷ []) (λ N n X F L. le_of_suc-le-suc (lt_of_mul-lt-mul_right N (omega (arith, X.is, F.is, at_le N X L m, at_lt N L F n piece.below))))

  right_of : (c : ℕ) → c < first → G c (val lo) (val hi) ≈ᶠ natᶠ 0
  right_of c m = let k : natᶠ (suc c) ≤ᶠ val lo = trans (nat_le m) piece.from in G-right c (val lo) (val hi) k (trans k order)

  left_of : (c : ℕ) → suc pen ≤ c → G c (val lo) (val hi) ≈ᶠ natᶠ 1
  left_of c m = let k : val hi ≤ᶠ natᶠ c = trans piece.to (nat_le m) in G-left c (val lo) (val hi) (trans order k) k

  lo_pen : val lo ≤ᶠ natᶠ pen
  lo_pen = over (val lo ∷ natᶠ (suc first) ∷ natᶠ pen ∷ []) (λ N n L B A.
      le_at N L A n (omega (arith, A.is, B.is, ap (λ (d : ℕ). d * N) piece.between, at_lt N L B n piece.below)))

  abbrev x1 : Float
  x1 = a ⊗ head

  abbrev last : List Entry
  last = entry (suc pen) (a ⊗ tail) ∷ []

  -- ---- The cells where every such piece is alike. `rest` is what follows the first entry; but for the last one it
  -- comes to `sum`
  module _ (rest : List Entry) (sum : Fraction) (rises : Rising (suc first) rest) (is : (c : ℕ) → pen ≤ c → prefix rest c ≈ᶠ sum +ᶠ prefix last c)
      (but : Near (val x1 +ᶠ sum) (val a *ᶠ (natᶠ 1 -ᶠ t)) rest_error) where
    abbrev whole : List Entry
    whole = entry first x1 ∷ rest

    abbrev At : ℕ → Type 0
    At c = Near (prefix whole c) (val a *ᶠ G c (val lo) (val hi)) across_error

    -- left of the piece
    at_left : (c : ℕ) → c < first → At c
    at_left c m =
        let g = trans≈ (mul_cong (val a) (right_of c m)) (trans≈ (mul_comm (val a) (natᶠ 0)) (zero_mul (val a))) in
        near_same (sym≈ (prefix_none whole c (m, rises))) (near_to (sym≈ g) (near_weaken (near_refl (natᶠ 0)) (lit tt)))

    -- its first cell
    at_first : At first
    at_first =
        let g = G-first first (val lo) (val hi) r r_w piece.from piece.below inside in
        near_same (sym≈ (prefix_one (entry first x1) rest first (le_refl first) rises)) (near_to (mul_cong (val a) (sym≈ g)) (near_weaken x1_ok.1 (lit tt)))

    all_but : (c : ℕ) → pen ≤ c → prefix whole c ≈ᶠ val x1 +ᶠ sum +ᶠ prefix last c
    all_but c m = trans≈ (prefix_in (entry first x1) rest c (omega (arith, piece.between))) (trans≈ (cong_add (refl≈ (val x1)) (is c m)) (group (val x1) sum (prefix last c)))
      where
        group : (x y z : Fraction) → x +ᶠ (y +ᶠ z) ≈ᶠ x +ᶠ y +ᶠ z
        group x y z = over (x ∷ y ∷ z ∷ []) (λ N n X Y Z. eq_at N (search at) (search at) n (omega arith))

    -- the last cell but one
    at_pen : At pen
    at_pen =
        let g = G-last pen (val lo) (val hi) r r_w lo_pen piece.beyond piece.to in
        let none = prefix_none last pen (le_refl (suc pen), tt) in
        let p = trans≈ (all_but pen (le_refl pen)) (trans≈ (cong_add (refl≈ (val x1 +ᶠ sum)) none) (plus_none (val x1 +ᶠ sum))) in
        near_same (sym≈ p) (near_to (mul_cong (val a) (sym≈ g)) (near_weaken but (lit tt)))

    -- right of the piece
    at_right : (c : ℕ) → suc pen ≤ c → At c
    at_right c m =
        let g = trans≈ (mul_cong (val a) (left_of c m)) (mul_one (val a)) in
        let p = trans≈ (all_but c (omega (arith, m))) (cong_add (refl≈ (val x1 +ᶠ sum)) (prefix_one (entry (suc pen) (a ⊗ tail)) [] c m tt)) in
        let ρ = val a ∷ t ∷ [] in
        let R = reps ρ in
        let one = ring ρ {x = val a *ᶠ (natᶠ 1 -ᶠ t) +ᶠ val a *ᶠ t} {y = val a} (search rep depth 7) (search rep depth 7) tt in
        near_same (sym≈ p) (near_to (trans≈ one (sym≈ g)) (near_weaken (near_add but x5_ok.1) (unfold ◌+ᶠ◌ in lit tt)))

    -- so, with what lies between, in every cell
    at_every : ((c : ℕ) → first < c → c < pen → At c) → (c : ℕ) → At c
    at_every mid c = go (dec_le first c) (dec_le (suc first) c) (dec_le pen c) (dec_le (suc pen) c)
      where
        go : Dec (first ≤ c) → Dec (suc first ≤ c) → Dec (pen ≤ c) → Dec (suc pen ≤ c) → At c
        go (no f) x y z = at_left c (omega (arith, f))
        go (yes m) (no f) y z = subst At (le_antisymm m (omega (arith, f))) at_first
        go (yes m) (yes x) (no f) z = mid c x (omega (arith, f))
        go (yes m) (yes x) (yes y) (no f) = subst At (le_antisymm y (omega (arith, f))) at_pen
        go (yes m) (yes x) (yes y) (yes z) = at_right c z

    pub adds : Fine whole → total whole ≤ᶠ absᶠ (val a) +ᶠ across_error → ((c : ℕ) → first < c → c < pen → At c) → (w : ℕ)
        → Adds w 1 whole (val lo) (val hi) (val a) across_error across_error
    adds fine size mid w = record {
      fine = fine;
      near = λ c m. at_every mid c;
      size = size;
      few = λ i. rising_once i first whole (le_refl first, rises);
      from = λ i m n. rising_from i first whole (least i m) (le_refl first, rises);
    }

  -- ---- more than two cells: k whole ones between the second and the last but one
  module _ (k : ℕ) (K : j ≡ suc k) where
    abbrev pub s : Fraction
    s = r *ᶠ (e +ᶠ 1 /2^ 1)

    abbrev pub q : Fraction
    q = r *ᶠ natᶠ k

    pub rj_is : r *ᶠ natᶠ j ≈ᶠ q +ᶠ r
    rj_is = rw K (let ρ = r ∷ natᶠ k ∷ [] in let R = reps ρ in trans≈ (mul_cong r one_more) (ring ρ {x = r *ᶠ (natᶠ k +ᶠ natᶠ 1)} {y = q +ᶠ r} (search rep depth 7) (search rep depth 7) tt))
      where
        one_more : natᶠ (suc k) ≈ᶠ natᶠ k +ᶠ natᶠ 1
        one_more = over (natᶠ (suc k) ∷ natᶠ k ∷ natᶠ 1 ∷ []) (λ N n A B C. eq_at N A (add_at N B C) n (omega (arith, A.is, B.is, C.is)))

    pub s_is : s ≈ᶠ r *ᶠ e +ᶠ 1 /2^ 1 *ᶠ r
    s_is = trans≈ (mul_add r e (1 /2^ 1)) (cong_add (record { eq = refl }) (mul_comm r (1 /2^ 1)))

    pub q_nonneg : natᶠ 0 ≤ᶠ q
    q_nonneg = mul_nonneg r_nonneg (record { le = omega arith })

    pub s_nonneg : natᶠ 0 ≤ᶠ s
    s_nonneg = over (s ∷ r *ᶠ e ∷ r ∷ 1 /2^ 1 *ᶠ r ∷ natᶠ 0 ∷ []) (λ N n S X Y Z O.
        le_at N O S n (omega (arith, O.is, at_eq N S (add_at N X Z) s_is, scale_at N (1 /2^ 1) Y Z, at_le N O X re_nonneg, at_le N O Y r_nonneg)))

    pub s_le : s ≤ᶠ natᶠ 1
    s_le = over (s ∷ r *ᶠ e ∷ r ∷ 1 /2^ 1 *ᶠ r ∷ natᶠ 0 ∷ natᶠ 1 ∷ r *ᶠ natᶠ j ∷ r *ᶠ l ∷ q ∷ []) (λ N n S X Y Z O I M L Q. le_at N S I n (omega (
      arith,
      O.is,
      I.is,
      at_eq N S (add_at N X Z) s_is,
      scale_at N (1 /2^ 1) Y Z,
      at_le N O Y r_nonneg,
      at_eq N (add_at N (add_at N X M) L) I unity,
      at_le N O L rl_nonneg,
      at_eq N M (add_at N Q Y) rj_is,
      at_le N O Q q_nonneg,
    )))

    pub q_le : q ≤ᶠ natᶠ 1
    q_le = over (r *ᶠ e ∷ r ∷ natᶠ 0 ∷ natᶠ 1 ∷ r *ᶠ natᶠ j ∷ r *ᶠ l ∷ q ∷ []) (λ N n X Y O I M L Q. le_at N Q I n (omega (
      arith,
      O.is,
      I.is,
      at_le N O Y r_nonneg,
      at_eq N (add_at N (add_at N X M) L) I unity,
      at_le N O L rl_nonneg,
      at_eq N M (add_at N Q Y) rj_is,
      at_le N O X re_nonneg,
    )))

    -- ---- what is worked out
    reach_nonneg : natᶠ 0 ≤ᶠ e +ᶠ 1 /2^ 1
    reach_nonneg = over (e ∷ 1 /2^ 1 ∷ natᶠ 0 ∷ []) (λ N n X Y O. le_at N O (add_at N X Y) n (omega (arith, O.is, Y.is, at_le N O X e_nonneg)))

    reach_within : Within (e +ᶠ 1 /2^ 1) (natᶠ 2)
    reach_within = within_weaken (within_self reach_nonneg) (trans (add_mono e_le (lit {y = natᶠ 1} tt)) (unfold ◌+ᶠ◌ in lit tt))

    reaches : Approx binary32 (enters ⊕ f½) (e +ᶠ 1 /2^ 1) (1 /2^ 22) (natᶠ 0)
    unfolding ◌+ᶠ◌ ◌*ᶠ◌
    reaches = approx_weaken (lit tt) (lit tt)
        (add_approx binary32 enters f½ e (1 /2^ 1) (roundoff binary32) (natᶠ 0) (natᶠ 0) (natᶠ 2)
        enters_ok (approx_weaken (lit tt) (lit tt) (approx_exact half_is)) (lit tt) e_nonneg (lit tt) reach_within (lit tt))

    second_ok : Known binary32 (second_of per enters) s (natᶠ 1) (1 /2^ 19)
    second_ok =
        let p = product (natᶠ (2 ^ 24)) (natᶠ 2) (1 /2^ 20) (1 /2^ 146) per_ok reaches r_within reach_within (unfold Fit in (tt, tt, tt, tt, tt, tt, tt, tt)) in
        approx_known (natᶠ 1) (1 /2^ 19) p (lit tt) (within_weaken (within_self s_nonneg) s_le) (unfold ◌+ᶠ◌ ◌*ᶠ◌ in lit tt)

    k_le : k ≤ 4096
    k_le = omega (arith, piece.few, piece.between, K)

    between_ok : Known binary32 (of_whole k ⊗ per) q (natᶠ 1) (1 /2^ 19)
    between_ok =
        let w = within_weaken (within_self (nat_le {m = 0} {n = k} (omega arith))) (nat_le k_le) in
        let p = product (natᶠ 4096) (natᶠ (2 ^ 24)) (1 /2^ 21) (1 /2^ 136) (approx_exact (whole_is k (omega (arith, k_le)))) per_ok w r_within (unfold Fit in (tt, tt, tt, tt, tt, tt, tt, tt)) in
        approx_known (natᶠ 1) (1 /2^ 19) (approx_same (mul_comm (natᶠ k) r) p) (lit tt) (within_weaken (within_self q_nonneg) q_le) (unfold ◌+ᶠ◌ ◌*ᶠ◌ in lit tt)

    -- ---- the entries between
    abbrev x2 : Float
    x2 = a ⊗ (second_of per enters ⊖ head)

    x2_ok : T (finite x2) × Near (val x2) (val a *ᶠ (s -ᶠ h)) middle_error
    unfolding ◌+ᶠ◌ ◌*ᶠ◌
    x2_ok = let d = analyse (op times auto (leaf amount) (op minus auto (leaf (leaf_of second_ok)) (leaf head_l))) tt (tt, tt, tt, (tt, tt, tt, tt)) in (d.fine, near_weaken d.near (lit tt))

    abbrev x4 : Float
    x4 = a ⊗ (f1 ⊖ (second_of per enters ⊕ of_whole k ⊗ per) ⊖ tail)

    x4_ok : T (finite x4) × Near (val x4) (val a *ᶠ (natᶠ 1 -ᶠ (s +ᶠ q) -ᶠ t)) middle_error
    unfolding one ◌+ᶠ◌ ◌*ᶠ◌
    x4_ok =
        let d = analyse (op times auto (leaf amount) (op minus auto (op minus auto (leaf one) (op plus auto (leaf (leaf_of second_ok)) (leaf (leaf_of between_ok)))) (leaf tail_l))) tt
        (tt, tt, tt, (tt, tt, (tt, tt, tt, (tt, tt, tt, tt)), tt)) in
        (d.fine, near_weaken d.near (lit tt))

    abbrev x3 : Float
    x3 = a ⊗ per

    x3_ok : Approx binary32 x3 (val a *ᶠ r) (1 /2^ 21) (1 /2^ 147)
    x3_ok = product cut_twice (natᶠ (2 ^ 24)) (1 /2^ 21) (1 /2^ 147)
        (approx_self binary32 a piece.height.fine piece.height.held) per_ok piece.height.within r_within (unfold Fit in (tt, tt, tt, tt, tt, tt, tt, tt))

    -- i of them
    x3_times : (i : ℕ) → i ≤ k → Near (natᶠ i *ᶠ val x3) (val a *ᶠ (r *ᶠ natᶠ i)) even_error
    x3_times i m =
        let z : natᶠ 0 ≤ᶠ natᶠ i = record { le = omega arith } in
        let b : r *ᶠ natᶠ i ≤ᶠ natᶠ 1 = trans (mul_mono r_nonneg (record { le = omega (arith, m) })) q_le in
        let Q = 1 /2^ 21 in
        let T = 1 /2^ 147 in
        let C = cut_twice in
        let ρ = natᶠ i ∷ val a ∷ r ∷ Q ∷ T ∷ C ∷ [] in
        let R = reps ρ in
        near_to (ring ρ {x = natᶠ i *ᶠ (val a *ᶠ r)} {y = val a *ᶠ (r *ᶠ natᶠ i)} (search rep depth 7) (search rep depth 7) tt)
        (near_weaken (near_by (rel_near (lit tt) x3_ok.rel (within_mul piece.height.within (within_self r_nonneg))) (within_self z))
        (trans (of_eq (ring ρ {x = natᶠ i *ᶠ (Q *ᶠ (C *ᶠ r) +ᶠ T)} {y = Q *ᶠ C *ᶠ (r *ᶠ natᶠ i) +ᶠ T *ᶠ natᶠ i} (search rep depth 9) (search rep depth 9) tt))
        (trans (add_mono (mul_mono (unfold ◌*ᶠ◌ in lit tt) b) (mul_mono (lit tt) (record { le = omega (arith, m, k_le) }))) small)))
      where
        small : 1 /2^ 21 *ᶠ cut_twice *ᶠ natᶠ 1 +ᶠ 1 /2^ 147 *ᶠ natᶠ 4096 ≤ᶠ even_error
        small = unfold ◌+ᶠ◌ ◌*ᶠ◌ in lit tt

    -- ---- the list
    abbrev ends : List Entry
    ends = entry pen x4 ∷ last

    abbrev more_rest : List Entry
    more_rest = entry (first + 1) x2 ∷ even_e k (first + 2) x3 ++ ends

    abbrev more_sum : Fraction
    more_sum = val x2 +ᶠ (natᶠ k *ᶠ val x3 +ᶠ val x4)

    -- i of the even ones lie in cells up to c
    even_is : (c i : ℕ) → min k (c + 1 - (first + 2)) ≡ i → prefix (even_e k (first + 2) x3) c ≈ᶠ natᶠ i *ᶠ val x3
    even_is c i z = subst (λ (d : ℕ). prefix (even_e k (first + 2) x3) c ≈ᶠ natᶠ d *ᶠ val x3) z (prefix_even k (first + 2) x3 c)

    up_to : (c i : ℕ) → first < c → min k (c + 1 - (first + 2)) ≡ i → prefix more_rest c ≈ᶠ val x2 +ᶠ (natᶠ i *ᶠ val x3 +ᶠ prefix ends c)
    up_to c i m z =
        trans≈ (prefix_in (entry (first + 1) x2) (even_e k (first + 2) x3 ++ ends) c (omega (arith, m)))
        (cong_add (refl≈ (val x2)) (trans≈ (prefix_append (even_e k (first + 2) x3) ends c) (cong_add (even_is c i z) (refl≈ (prefix ends c)))))

    more_is : (c : ℕ) → pen ≤ c → prefix more_rest c ≈ᶠ more_sum +ᶠ prefix last c
    more_is c m =
        let p = up_to c k (omega (arith, piece.between, K, m)) (omega (arith, piece.between, K, m)) in
        let q = cong_add (refl≈ (val x2)) (cong_add (refl≈ (natᶠ k *ᶠ val x3)) (prefix_in (entry pen x4) last c m)) in
        trans≈ p (trans≈ q (group (val x2) (natᶠ k *ᶠ val x3) (val x4) (prefix last c)))
      where
        group : (x y z v : Fraction) → x +ᶠ (y +ᶠ (z +ᶠ v)) ≈ᶠ x +ᶠ (y +ᶠ z) +ᶠ v
        group x y z v = over (x ∷ y ∷ z ∷ v ∷ []) (λ N n X Y Z W. eq_at N (search at) (search at) n (omega arith))

    total_is : total (entry first x1 ∷ more_rest) ≈ᶠ absᶠ (val x1) +ᶠ (absᶠ (val x2) +ᶠ (absᶠ (natᶠ k *ᶠ val x3) +ᶠ (absᶠ (val x4) +ᶠ absᶠ (val (a ⊗ tail)))))
    unfolding total
    total_is =
        let even = even_e k (first + 2) x3 in
        let sizes = absᶠ (val x1) ∷ absᶠ (val x2) ∷ tally size anywhere (even ++ ends) ∷ tally size anywhere even ∷ [] in
        let amounts = natᶠ k *ᶠ absᶠ (val x3) ∷ absᶠ (natᶠ k *ᶠ val x3) ∷ absᶠ (val x4) ∷ absᶠ (val (a ⊗ tail)) ∷ natᶠ 0 ∷ absᶠ (natᶠ k) *ᶠ absᶠ (val x3) ∷ [] in
        over (sizes ++ amounts) (λ N n s1 s2 p pe m m' s4 s5 o w.
        eq_at N (search at) (search at) n (omega (
          arith,
          o.is,
          at_eq N p (add_at N pe (add_at N s4 (add_at N s5 o))) (tally_append size anywhere even ends),
          at_eq N pe m (total_even k (first + 2) x3),
          at_eq N m' w (abs_mul (natᶠ k) (val x3)),
          at_eq N w m (cong_mul (abs_self (nat_le {m = 0} {n = k} (omega arith))) (record { eq = refl })),
        )))

    -- ---- the steps are not negative
    step2 : natᶠ 0 ≤ᶠ s -ᶠ h
    step2 = over (s ∷ h ∷ r *ᶠ e ∷ 1 /2^ 1 *ᶠ (r *ᶠ e) ∷ r ∷ 1 /2^ 1 *ᶠ r ∷ natᶠ 0 ∷ []) (λ N n S B X Y U T O. le_at N O (sub_at N S B) n (omega (
      arith,
      O.is,
      at_eq N S (add_at N X T) s_is,
      scale_at N (1 /2^ 1) U T,
      at_le N B Y h_small.1,
      scale_at N (1 /2^ 1) X Y,
      at_le N O X re_nonneg,
      at_le N O U r_nonneg,
    )))

    step4 : natᶠ 0 ≤ᶠ natᶠ 1 -ᶠ (s +ᶠ q) -ᶠ t
    step4 = over (s ∷ q ∷ t ∷ r *ᶠ e ∷ r *ᶠ l ∷ 1 /2^ 1 *ᶠ (r *ᶠ l) ∷ r ∷ 1 /2^ 1 *ᶠ r ∷ r *ᶠ natᶠ j ∷ natᶠ 1 ∷ natᶠ 0 ∷ []) (λ N n S Q B X L Y U T M I O. le_at N O (search at) n (omega (
      arith,
      O.is,
      I.is,
      at_eq N S (add_at N X T) s_is,
      scale_at N (1 /2^ 1) U T,
      at_le N B Y t_small.1,
      scale_at N (1 /2^ 1) L Y,
      at_le N O L rl_nonneg,
      at_le N O U r_nonneg,
      at_eq N (add_at N (add_at N X M) L) I unity,
      at_eq N M (add_at N Q U) rj_is,
    )))

    abbrev fourth : Fraction
    fourth = natᶠ 1 -ᶠ (s +ᶠ q) -ᶠ t

    more_size : total (entry first x1 ∷ more_rest) ≤ᶠ absᶠ (val a) +ᶠ across_error
    more_size =
        let B = absᶠ (val a) in
        let ρ = B ∷ h ∷ s ∷ q ∷ t ∷ [] in
        let R = reps ρ in
        let sum = ring ρ {x = B *ᶠ h +ᶠ (B *ᶠ (s -ᶠ h) +ᶠ (B *ᶠ q +ᶠ (B *ᶠ fourth +ᶠ B *ᶠ t)))} {y = B} (search rep depth 9) (search rep depth 9) tt in
        let last-two = add_mono (size_of (val a) fourth step4 x4_ok.1) (size_of (val a) t t_small.0 x5_ok.1) in
        let from-third = add_mono (size_of (val a) q q_nonneg (x3_times k (le_refl k))) last-two in
        let w = add_mono (size_of (val a) h h_small.0 x1_ok.1) (add_mono (size_of (val a) (s -ᶠ h) step2 x2_ok.1) from-third) in
        let parts = B ∷ B *ᶠ h ∷ B *ᶠ (s -ᶠ h) ∷ B *ᶠ q ∷ B *ᶠ fourth ∷ B *ᶠ t ∷ end_error ∷ middle_error ∷ even_error ∷ across_error ∷ [] in
        trans (of_eq total_is) (trans w (over parts (λ N n b y1 y2 y3 y4 y5 e17 e16 e19 e14.
        le_at N (search at depth 9) (search at depth 9) n (omega (arith, e17.is, e16.is, e19.is, e14.is, at_eq N (add_at N y1 (add_at N y2 (add_at N y3 (add_at N y4 y5)))) b sum)))))

    more_rises : Rising (suc first) more_rest
    more_rises = (
      omega arith,
      rising_weaken (suc (first + 1)) (first + 2) (even_e k (first + 2) x3 ++ ends) (omega arith)
          (rising_even k (first + 2) x3 ends (omega (arith, piece.between, K), (le_refl (suc pen), tt))),
    )

    more_fine : Fine (entry first x1 ∷ more_rest)
    more_fine =
        let last-two : Fine ends = (x4_ok.0, mul-fits binary32 a (f1 ⊖ (second_of per enters ⊕ of_whole k ⊗ per) ⊖ tail), (x5_ok.0, mul-fits binary32 a tail, tt)) in (
          x1_ok.0,
          mul-fits binary32 a head,
          (
            x2_ok.0,
            mul-fits binary32 a (second_of per enters ⊖ head),
            fine_append (even_e k (first + 2) x3) ends (fine_even k (first + 2) x3 x3_ok.fine x3_ok.held) last-two,
          ),
        )

    -- in a cell between
    between_sum : (i : ℕ) → val a *ᶠ h +ᶠ (val a *ᶠ (s -ᶠ h) +ᶠ val a *ᶠ (r *ᶠ natᶠ i)) ≈ᶠ val a *ᶠ (r *ᶠ (natᶠ (suc first) +ᶠ natᶠ i +ᶠ 1 /2^ 1 -ᶠ val lo))
    between_sum i =
        let F = natᶠ (suc first) in
        let v = 1 /2^ 1 in
        let ρ = val a ∷ h ∷ r ∷ F ∷ val lo ∷ v ∷ natᶠ i ∷ [] in
        let R = reps ρ in
        ring ρ {x = val a *ᶠ h +ᶠ (val a *ᶠ (r *ᶠ (F -ᶠ val lo +ᶠ v) -ᶠ h) +ᶠ val a *ᶠ (r *ᶠ natᶠ i))} {y = val a *ᶠ (r *ᶠ (F +ᶠ natᶠ i +ᶠ v -ᶠ val lo))}
        (search rep depth 9) (search rep depth 9) tt

    between-G : (c i : ℕ) → c ≡ suc first + i → i ≤ k → G c (val lo) (val hi) ≈ᶠ r *ᶠ (natᶠ (suc first) +ᶠ natᶠ i +ᶠ 1 /2^ 1 -ᶠ val lo)
    between-G c i z m =
        let F = natᶠ (suc first) in
        let cell : natᶠ c ≈ᶠ F +ᶠ natᶠ i = over (natᶠ c ∷ F ∷ natᶠ i ∷ []) (λ N n A B D.
        eq_at N A (add_at N B D) n (omega (arith, A.is, B.is, D.is, ap (λ (d : ℕ). d * N) z))) in
        let left : val lo ≤ᶠ natᶠ c = over (val lo ∷ F ∷ natᶠ c ∷ []) (λ N n L B A.
        le_at N L A n (omega (arith, A.is, B.is, ap (λ (d : ℕ). d * N) z, at_lt N L B n piece.below))) in
        let g = G-between c (val lo) (val hi) r r_w left (trans (record { le = omega (arith, piece.between, K, z, m) }) (of_lt piece.beyond)) in
        trans≈ g (mul_cong r (cong_sub (cong_add cell (record { eq = refl })) (record { eq = refl })))

    at_between : (c i : ℕ) → c ≡ suc first + i → i ≤ k → Near (prefix (entry first x1 ∷ more_rest) c) (val a *ᶠ G c (val lo) (val hi)) across_error
    at_between c i z m =
        let p = up_to c i (omega (arith, z)) (omega (arith, z, m)) in
        let none = prefix_none ends c (omega (arith, piece.between, K, z, m), (le_refl (suc pen), tt)) in
        let q = cong_add (refl≈ (val x2)) (trans≈ (cong_add (refl≈ (natᶠ i *ᶠ val x3)) none) (plus_none (natᶠ i *ᶠ val x3))) in
        let all = trans≈ (prefix_in (entry first x1) more_rest c (omega (arith, z))) (cong_add (refl≈ (val x1)) (trans≈ p q)) in
        near_same (sym≈ all) (near_to (trans≈ (between_sum i) (mul_cong (val a) (sym≈ (between-G c i z m))))
        (near_weaken (near_add x1_ok.1 (near_add x2_ok.1 (x3_times i m))) (unfold ◌+ᶠ◌ in lit tt)))

    -- the sum of all but the last entry
    more_but : Near (val x1 +ᶠ more_sum) (val a *ᶠ (natᶠ 1 -ᶠ t)) rest_error
    more_but =
        let ρ = val a ∷ h ∷ s ∷ q ∷ t ∷ [] in
        let R = reps ρ in
        let sum = ring ρ {x = val a *ᶠ h +ᶠ (val a *ᶠ (s -ᶠ h) +ᶠ (val a *ᶠ q +ᶠ val a *ᶠ fourth))} {y = val a *ᶠ (natᶠ 1 -ᶠ t)} (search rep depth 9) (search rep depth 9) tt in
        near_to sum (near_weaken (near_add x1_ok.1 (near_add x2_ok.1 (near_add (x3_times k (le_refl k)) x4_ok.1))) (unfold ◌+ᶠ◌ in lit tt))

    pub more_adds : (w : ℕ) → Adds w 1 (entry first x1 ∷ more_rest) (val lo) (val hi) (val a) across_error across_error
    more_adds = adds more_rest more_sum more_rises more_is more_but more_fine more_size
        (λ c m n. at_between c (c - suc first) (omega (arith, m)) (omega (arith, m, n, piece.between, K)))

  -- ---- two cells
  module _ (Z : j ≡ 0) where
    abbrev y2 : Float
    y2 = a ⊗ (f1 ⊖ head ⊖ tail)

    abbrev two_rest : List Entry
    two_rest = entry (first + 1) y2 ∷ last

    two_rises : Rising (suc first) two_rest
    two_rises = (omega arith, (omega (arith, piece.between, Z), tt))

    two_fine : Fine (entry first x1 ∷ two_rest)
    two_fine = (x1_ok.0, mul-fits binary32 a head, (x2_two.0, mul-fits binary32 a (f1 ⊖ head ⊖ tail), (x5_ok.0, mul-fits binary32 a tail, tt)))

    two_step : natᶠ 0 ≤ᶠ natᶠ 1 -ᶠ h -ᶠ t
    two_step = over (h ∷ t ∷ r *ᶠ e ∷ r *ᶠ l ∷ 1 /2^ 1 *ᶠ (r *ᶠ e) ∷ 1 /2^ 1 *ᶠ (r *ᶠ l) ∷ r *ᶠ natᶠ j ∷ natᶠ 1 ∷ natᶠ 0 ∷ []) (λ N n B T X L Y U M I O. le_at N O (search at) n (omega (
      arith,
      O.is,
      I.is,
      at_le N B Y h_small.1,
      scale_at N (1 /2^ 1) X Y,
      at_le N T U t_small.1,
      scale_at N (1 /2^ 1) L U,
      at_le N O X re_nonneg,
      at_le N O L rl_nonneg,
      at_eq N (add_at N (add_at N X M) L) I unity,
      at_eq N M O (rw Z (trans≈ (mul_comm r (natᶠ 0)) (zero_mul r))),
    )))

    two_size : total (entry first x1 ∷ two_rest) ≤ᶠ absᶠ (val a) +ᶠ across_error
    unfolding total
    two_size =
        let B = absᶠ (val a) in
        let middle = natᶠ 1 -ᶠ h -ᶠ t in
        let ρ = B ∷ h ∷ t ∷ [] in
        let R = reps ρ in
        let sum = ring ρ {x = B *ᶠ h +ᶠ (B *ᶠ (natᶠ 1 -ᶠ h -ᶠ t) +ᶠ B *ᶠ t)} {y = B} (search rep depth 9) (search rep depth 9) tt in
        let last_one = add_mono (size_of (val a) t t_small.0 x5_ok.1) (refl≤ (natᶠ 0)) in
        let w = add_mono (size_of (val a) h h_small.0 x1_ok.1) (add_mono (size_of (val a) middle two_step x2_two.1) last_one) in
        trans w (over (B ∷ B *ᶠ h ∷ B *ᶠ middle ∷ B *ᶠ t ∷ end_error ∷ middle_error ∷ across_error ∷ natᶠ 0 ∷ []) (λ N n b y1 y2 y5 e17 e16 e14 o.
        le_at N (search at depth 9) (search at depth 9) n (omega (arith, o.is, e17.is, e16.is, e14.is, at_eq N (add_at N y1 (add_at N y2 y5)) b sum))))

    two_but : Near (val x1 +ᶠ val y2) (val a *ᶠ (natᶠ 1 -ᶠ t)) rest_error
    two_but =
        let ρ = val a ∷ h ∷ t ∷ [] in
        let R = reps ρ in
        let sum = ring ρ {x = val a *ᶠ h +ᶠ val a *ᶠ (natᶠ 1 -ᶠ h -ᶠ t)} {y = val a *ᶠ (natᶠ 1 -ᶠ t)} (search rep depth 9) (search rep depth 9) tt in
        near_to sum (near_weaken (near_add x1_ok.1 x2_two.1) (unfold ◌+ᶠ◌ in lit tt))

    pub two_adds : (w : ℕ) → Adds w 1 (entry first x1 ∷ two_rest) (val lo) (val hi) (val a) across_error across_error
    two_adds = adds two_rest (val y2) two_rises (λ c m. prefix_in (entry (first + 1) y2) last c (omega (arith, piece.between, m))) two_but two_fine two_size
        (λ c m n. absurd (omega (arith, m, n, piece.between, Z)))

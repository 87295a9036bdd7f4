-- The two shares of a winding: neither changes by more than the winding does, and both are from 0 to 1. The even-odd
-- share is the distance to the nearest even number. Assumes nothing.
use mathlib.Core.Path.{◌≡◌}
use mathlib.Core.Logic.{◌⊎◌, inl, inr}
use mathlib.Core.List.{[], ◌∷◌}
use mathlib.Core.Bool.{cond}
use Prim.Native.Nat.{ℕ, suc, ◌+◌, ◌*◌, ◌/◌, ◌%◌, ◌≤◌, ◌<◌}
use native.Mathlib.Nat.{mul-pos, mul-le-mul_right, mod-lt, div-add-mod', zero-lt-suc}
use native.Mathlib.Decide.{dec_le}
use native.Mathlib.Omega.{arith}
use Rattle.fraction.specs.Whole.{natʷ, sizeʷ}
use Rattle.fraction.specs.Fraction.{Fraction, ◌≤ᶠ◌, ◌<ᶠ◌, ◌≈ᶠ◌, ltᵇ, natᶠ, ◌+ᶠ◌, ◌-ᶠ◌, absᶠ, minᶠ, Near}
use Rattle.fraction.proofs.Linear.{At, at_le, at_lt, at_eq, le_at, eq_at, add_at, sub_at, abs_at, self, over, trans}
use Rattle.fraction.proofs.Order.{of_eq, of_lt, le_or_lt, sym≈, trans≈}
use Rattle.fraction.proofs.Abs.{abs_nonneg}
use Rattle.fraction.proofs.Clamp.{min_at, min_left, min_right, min_le_left, min_le_right, near_min, if_less, if_not_less}
use Rattle.winding.specs.Winding.{non_zero_share, modulo2, even_odd_share}

-- ---- sizes and minima
pub near_abs : {x y e : Fraction} → Near x y e → Near (absᶠ x) (absᶠ y) e
near_abs {x} {y} {e} h = over (x ∷ y ∷ e ∷ []) (λ N n X Y E. record {
  lo = le_at N (abs_at N n Y) (add_at N (abs_at N n X) E) n (omega (arith, at_le N Y (add_at N X E) h.lo, at_le N X (add_at N Y E) h.hi));
  hi = le_at N (abs_at N n X) (add_at N (abs_at N n Y) E) n (omega (arith, at_le N Y (add_at N X E) h.lo, at_le N X (add_at N Y E) h.hi));
})

-- ---- non-zero
pub nonzero_near : {w W e : Fraction} → natᶠ 0 ≤ᶠ e → Near w W e → Near (non_zero_share w) (non_zero_share W) e
unfolding non_zero_share
nonzero_near p h = near_min (natᶠ 1) p (near_abs h)

pub nonzero_range : (w : Fraction) → (natᶠ 0 ≤ᶠ non_zero_share w) × (non_zero_share w ≤ᶠ natᶠ 1)
unfolding non_zero_share
nonzero_range w =
    (over (absᶠ w ∷ natᶠ 0 ∷ natᶠ 1 ∷ []) (λ N n A O I. le_at N O (min_at N n A I) n (omega (arith, O.is, I.is, at_le N O A (abs_nonneg w)))), min_le_right (absᶠ w) (natᶠ 1))

-- ---- even-odd: |w| modulo 2, and |w| over 2 rounded down
abbrev turns : Fraction → ℕ
turns w = sizeʷ w.num / (2 * w.den)

-- the distance to the even number 2 k
abbrev pub off : Fraction → ℕ → Fraction
off w k = absᶠ (absᶠ w -ᶠ natᶠ (2 * k))

module _ (w : Fraction) where
  -- over w's own denominator
  even_at : (k : ℕ) → At w.den (natᶠ (2 * k))
  even_at k = record { z = natʷ (2 * k * w.den); is = omega arith }

  abbrev off_at : (k : ℕ) → At w.den (off w k)
  off_at k = abs_at w.den w.pos (sub_at w.den (abs_at w.den w.pos (self w)) (even_at k))

  split : turns w * (2 * w.den) + sizeʷ w.num % (2 * w.den) ≡ sizeʷ w.num
  split = div-add-mod' (sizeʷ w.num) (2 * w.den)

  small : sizeʷ w.num % (2 * w.den) < 2 * w.den
  small = mod-lt (sizeʷ w.num) (mul-pos (zero-lt-suc 1) w.pos)

  -- the rest is the distance to the even number below, 2 less the rest that to the one above
  rest_is : modulo2 w ≈ᶠ off w (turns w)
  unfolding even_at modulo2
  rest_is = eq_at w.den (self (modulo2 w)) (off_at (turns w)) w.pos (omega (arith, split))

  over_is : natᶠ 2 -ᶠ modulo2 w ≈ᶠ off w (suc (turns w))
  unfolding even_at modulo2
  over_is = eq_at w.den (sub_at w.den (even_at 1) (self (modulo2 w))) (off_at (suc (turns w))) w.pos (omega (arith, split, small))

  -- up to 2 k below |w|, the rest is no more than the distance
  rest_le : (k : ℕ) → k ≤ turns w → modulo2 w ≤ᶠ off w k
  unfolding even_at modulo2
  rest_le k l = le_at w.den (self (modulo2 w)) (off_at k) w.pos (omega (arith, split, mul-le-mul_right w.den l))

  -- above it, 2 less the rest
  over_le : (k : ℕ) → turns w < k → natᶠ 2 -ᶠ modulo2 w ≤ᶠ off w k
  unfolding even_at modulo2
  over_le k l = le_at w.den (sub_at w.den (even_at 1) (self (modulo2 w))) (off_at k) w.pos (omega (arith, split, small, mul-le-mul_right w.den l))

  -- ---- the share is the smaller of the two
  evenodd_min : even_odd_share w ≈ᶠ minᶠ (modulo2 w) (natᶠ 2 -ᶠ modulo2 w)
  unfolding even_odd_share
  evenodd_min = go (le_or_lt (modulo2 w) (natᶠ 1))
    where
      go : (modulo2 w ≤ᶠ natᶠ 1) ⊎ (natᶠ 1 <ᶠ modulo2 w) → cond (ltᵇ (natᶠ 1) (modulo2 w)) (natᶠ 2 -ᶠ modulo2 w) (modulo2 w) ≈ᶠ minᶠ (modulo2 w) (natᶠ 2 -ᶠ modulo2 w)
      go (inl h) = rw (if_not_less (natᶠ 1) (modulo2 w) (natᶠ 2 -ᶠ modulo2 w) (modulo2 w) h)
          (over (modulo2 w ∷ natᶠ 1 ∷ natᶠ 2 ∷ []) (λ N n R I D. eq_at N R (min_at N n R (sub_at N D R)) n (omega (arith, I.is, D.is, at_le N R I h))))
      go (inr h) = rw (if_less (natᶠ 1) (modulo2 w) (natᶠ 2 -ᶠ modulo2 w) (modulo2 w) h)
          (over (modulo2 w ∷ natᶠ 1 ∷ natᶠ 2 ∷ []) (λ N n R I D. eq_at N (sub_at N D R) (min_at N n R (sub_at N D R)) n (omega (arith, I.is, D.is, at_lt N I R n h))))

  -- ---- no even number is nearer
  pub evenodd_le : (k : ℕ) → even_odd_share w ≤ᶠ off w k
  evenodd_le k = trans (of_eq evenodd_min) (go (dec_le k (turns w)))
    where
      go : Dec (k ≤ turns w) → minᶠ (modulo2 w) (natᶠ 2 -ᶠ modulo2 w) ≤ᶠ off w k
      go (yes l) = trans (min_le_left (modulo2 w) (natᶠ 2 -ᶠ modulo2 w)) (rest_le k l)
      go (no l) = trans (min_le_right (modulo2 w) (natᶠ 2 -ᶠ modulo2 w)) (over_le k (omega arith))

  -- ---- and one is as near
  pub record Nearest : Type 0 where
    pub k : ℕ
    pub is : even_odd_share w ≈ᶠ off w k

  pub evenodd_is : Nearest
  evenodd_is = go (le_or_lt (modulo2 w) (natᶠ 2 -ᶠ modulo2 w))
    where
      go : (modulo2 w ≤ᶠ natᶠ 2 -ᶠ modulo2 w) ⊎ (natᶠ 2 -ᶠ modulo2 w <ᶠ modulo2 w) → Nearest
      go (inl h) = record { k = turns w; is = trans≈ evenodd_min (trans≈ (min_left (modulo2 w) (natᶠ 2 -ᶠ modulo2 w) h) rest_is) }
      go (inr h) = record { k = suc (turns w); is = trans≈ evenodd_min (trans≈ (min_right (modulo2 w) (natᶠ 2 -ᶠ modulo2 w) (of_lt h)) over_is) }

  evenodd_le_one : even_odd_share w ≤ᶠ natᶠ 1
  evenodd_le_one = trans (of_eq evenodd_min)
      (over (modulo2 w ∷ natᶠ 2 ∷ natᶠ 1 ∷ []) (λ N n R D I. le_at N (min_at N n R (sub_at N D R)) I n (omega (arith, D.is, I.is))))

  pub evenodd_range : (natᶠ 0 ≤ᶠ even_odd_share w) × (even_odd_share w ≤ᶠ natᶠ 1)
  evenodd_range = (trans (abs_nonneg (absᶠ w -ᶠ natᶠ (2 * evenodd_is.k))) (of_eq (sym≈ evenodd_is.is)), evenodd_le_one)

-- ---- so it changes by no more than w
evenodd_step : {w W e : Fraction} → Near w W e → even_odd_share w ≤ᶠ even_odd_share W +ᶠ e
evenodd_step {w} {W} {e} h =
    let K = evenodd_is W in
    let a = evenodd_le w K.k in
    let b = K.is in
    let d = near_abs h in
    over (even_odd_share w ∷ even_odd_share W ∷ absᶠ w ∷ absᶠ W ∷ e ∷ natᶠ (2 * K.k) ∷ []) (λ N n X Y A B E C.
    le_at N X (add_at N Y E) n (omega (arith, at_le N X (abs_at N n (sub_at N A C)) a, at_eq N Y (abs_at N n (sub_at N B C)) b, at_le N A (add_at N B E) d.hi, at_le N B (add_at N A E) d.lo)))

pub evenodd_near : {w W e : Fraction} → Near w W e → Near (even_odd_share w) (even_odd_share W) e
evenodd_near h = record { lo = evenodd_step (record { lo = h.hi; hi = h.lo }); hi = evenodd_step h }

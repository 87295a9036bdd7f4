-- The error of a quotient, where the divisor's size is known from below. Assumes nothing.
use mathlib.Core.List.{[], ◌∷◌}
use native.Mathlib.Omega.{arith}
use Rattle.fraction.specs.Fraction.{Fraction, ◌≤ᶠ◌, ◌<ᶠ◌, ◌≈ᶠ◌, natᶠ, ◌+ᶠ◌, ◌-ᶠ◌, ◌*ᶠ◌, ◌/ᶠ◌, absᶠ, Near, Within}
use Rattle.fraction.proofs.Linear.{at_le, at_lt, at_eq, le_at, lt_at, add_at, sub_at, abs_at, over, trans}
use Rattle.fraction.proofs.Order.{of_eq, sym≈, trans≈, mul_mono, div_mul, le_div}
use Rattle.fraction.proofs.Near.{near_sym, near_of_within, within_of_near, within_of_abs, abs_of_within, within_near, within_add, within_mul, within_same}
use Rattle.fraction.proofs.Ring.{rep, reps, ring, cong_add, cong_sub}
use Rattle.fraction.proofs.Abs.{within_abs, abs_nonneg, abs_mul}

-- y is within e of a Y whose size is at least l, which is above e
module _ (y Y e l : Fraction) (k : Near y Y e) (low : l ≤ᶠ absᶠ Y) (room : e <ᶠ l) where
  pub divisor_large : l -ᶠ e ≤ᶠ absᶠ y
  divisor_large =
      let h = abs_of_within (within_near (near_sym k) (within_abs y)) in
      over (l ∷ e ∷ absᶠ y ∷ absᶠ Y ∷ []) (λ N n L E A B. le_at N (sub_at N L E) A n (omega (arith, at_le N L B low, at_le N B (add_at N A E) h)))

  pub room_above : natᶠ 0 <ᶠ l -ᶠ e
  room_above = over (natᶠ 0 ∷ l ∷ e ∷ []) (λ N n O L E. lt_at N O (sub_at N L E) (omega (arith, O.is, at_lt N E L n room)))

  pub divisor_not : ¬ (y ≈ᶠ natᶠ 0)
  divisor_not z =
      over (l ∷ e ∷ y ∷ natᶠ 0 ∷ []) (λ N n L E A O.
      omega (arith, O.is, at_lt N O (sub_at N L E) n room_above, at_le N (sub_at N L E) (abs_at N n A) divisor_large, at_eq N A O z))

  pub true_divisor_not : ¬ (Y ≈ᶠ natᶠ 0)
  true_divisor_not z =
      over (l ∷ e ∷ y ∷ Y ∷ natᶠ 0 ∷ []) (λ N n L E A B O.
      omega (arith, O.is, at_lt N E L n room, at_le N L (abs_at N n B) low, at_eq N B O z, at_le N B (add_at N A E) k.lo, at_le N A (add_at N B E) k.hi))

  -- x / y - X / Y is ((x - X) + X / Y * (Y - y)) / y
  module _ (x X d q : Fraction) (h : Near x X d) (w : Within (X /ᶠ Y) q) where
    abbrev Q : Fraction
    Q = X /ᶠ Y

    abbrev R : Fraction
    R = x /ᶠ y

    apart : (x -ᶠ X) +ᶠ Q *ᶠ (Y -ᶠ y) ≈ᶠ (R -ᶠ Q) *ᶠ y
    apart =
        let ρ = R ∷ Q ∷ y ∷ Y ∷ [] in
        let P = reps ρ in
        trans≈ (cong_add (cong_sub (sym≈ (div_mul x y divisor_not)) (sym≈ (div_mul X Y true_divisor_not))) (record { eq = mathlib.Core.Path.refl }))
        (ring ρ {x = (R *ᶠ y -ᶠ Q *ᶠ Y) +ᶠ Q *ᶠ (Y -ᶠ y)} {y = (R -ᶠ Q) *ᶠ y} (search rep depth 7) (search rep depth 7) tt)

    scaled : absᶠ (R -ᶠ Q) *ᶠ (l -ᶠ e) ≤ᶠ d +ᶠ q *ᶠ e
    scaled =
        trans (mul_mono (abs_nonneg (R -ᶠ Q)) divisor_large)
        (trans (of_eq (sym≈ (abs_mul (R -ᶠ Q) y)))
        (abs_of_within (within_same apart (within_add (within_of_near h) (within_mul w (within_of_near (near_sym k)))))))

    pub near_div : Near R Q ((d +ᶠ q *ᶠ e) /ᶠ (l -ᶠ e))
    near_div = near_of_within (within_of_abs (le_div room_above scaled))

-- the size of a quotient, for a dividend of size at most b and a divisor of size at least l
pub within_div : (Y : Fraction) {X b l : Fraction} → natᶠ 0 <ᶠ l → l ≤ᶠ absᶠ Y → Within X b → Within (X /ᶠ Y) (b /ᶠ l)
within_div Y {X} {b} {l} p low w =
    within_of_abs (le_div p (trans (mul_mono (abs_nonneg (X /ᶠ Y)) low) (trans (of_eq (sym≈ (abs_mul (X /ᶠ Y) Y))) (abs_of_within (within_same (sym≈ (div_mul X Y some)) w)))))
  where
    some : ¬ (Y ≈ᶠ natᶠ 0)
    some z = over (l ∷ Y ∷ natᶠ 0 ∷ []) (λ N n L B O. omega (arith, O.is, at_lt N O L n p, at_le N L (abs_at N n B) low, at_eq N B O z))

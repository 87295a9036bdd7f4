-- What `floor_of` and `ceil_of` are (`IntegralBeliefs` of specs/Beliefs.antt), in exact fractions, for every finite
-- value of binary32: the whole number at x or next to it, below or above. Assumes nothing.
use mathlib.Core.Path.{◌≡◌, refl, sym, ap, ◌∙◌, subst}
use mathlib.Core.List.{[], ◌∷◌}
use mathlib.Core.Bool.{Bool, true, false, cond}
use Prim.Native.Nat.{ℕ, zero, suc, ◌+◌, ◌*◌, ◌/◌, ◌%◌, ◌^◌, ◌≤◌, ◌<◌}
use native.Mathlib.Nat.{le_trans, mul-one, zero-lt-suc, mod-lt, div-le_self, div-mul-le_self, lt-div-mul-add, div-add-mod'}
use native.Mathlib.Omega.{arith}
use lib.IntN.{ℤ, pos, negsuc}
use lib.Dec.{T, eqb}
use borrow.Author.Tests.{eqb-true, eqb-false}
use lib.Ieee.{Float, nan, inf, fin, binary32, up, down, unlike, round, fits}
use lib.Ieee.Back.{round_whole}
use lib.Ieee.Exact.{HasValue}
use lib.Ieee.Fits.{down_pos}
use lib.Ieee.Scale.{finite}
use Rattle.fraction.specs.Whole.{Whole}
use Rattle.fraction.specs.Fraction.{Fraction, ◌≤ᶠ◌, ◌<ᶠ◌, ◌≈ᶠ◌, wholeᶠ, natᶠ, ◌+ᶠ◌}
use Rattle.fraction.proofs.Linear.{at_eq, at_lt, lt_at, add_at, over, trans}
use Rattle.fraction.proofs.Order.{of_eq, sym≈}
use Rattle.rounding.specs.Value.{signed, signedᶠ, val}
use Rattle.rounding.specs.Rounding.{Is}
use Rattle.rounding.proofs.Base.{value_is, fits_parts, own_rounding}
use Rattle.whole.specs.Whole.{whole_div, integral_of}
use Rattle.whole.specs.Beliefs.{IntegralBeliefs}
use Rattle.whole.proofs.Whole.{whole_exact, step_le}

-- Y is at X or less than 1 below it, or (`true`) above it
abbrev Beside : Bool → Fraction → Fraction → Type 0
Beside false X Y = (Y ≤ᶠ X) × (X <ᶠ Y +ᶠ natᶠ 1)
Beside true X Y = (X ≤ᶠ Y) × (Y <ᶠ X +ᶠ natᶠ 1)

beside_same : (u : Bool) (X : Fraction) {Y Z : Fraction} → Y ≈ᶠ Z → Beside u X Y → Beside u X Z
beside_same false X {Y} {Z} q h = (
  trans (of_eq (sym≈ q)) h.0,
  over (X ∷ Y ∷ Z ∷ natᶠ 1 ∷ []) (λ N n A B C O. lt_at N A (add_at N C O) (omega (arith, at_lt N A (add_at N B O) n h.1, at_eq N B C q))),
)
beside_same true X {Y} {Z} q h = (
  trans h.0 (of_eq q),
  over (X ∷ Y ∷ Z ∷ natᶠ 1 ∷ []) (λ N n A B C O. lt_at N C (add_at N A O) (omega (arith, at_lt N B (add_at N A O) n h.1, at_eq N B C q))),
)

-- ---- in naturals: w is a / b cut, or the next one up
abbrev Cut : Bool → ℕ → ℕ → ℕ → Type 0
Cut false w a b = (w * b ≤ a) × (a < w * b + b)
Cut true w a b = (a ≤ w * b) × (w * b < a + b)

whole_cut : (t : Bool) (a b : ℕ) → 0 < b → Cut t (whole_div t a b) a b
whole_cut false a b B = (div-mul-le_self a b, lt-div-mul-add B)
whole_cut true a b B = go (eqb (a % b) 0) refl (div-add-mod' a b) (mod-lt a B)
  where
    go : (t : Bool) → eqb (a % b) 0 ≡ t → a / b * b + a % b ≡ a → a % b < b → (a ≤ cond t (a / b) (a / b + 1) * b) × (cond t (a / b) (a / b + 1) * b < a + b)
    go true h e l = let z = eqb-true (a % b) 0 h in (omega arith, omega arith)
    go false h e l = let z = eqb-false (a % b) 0 h in (omega arith, omega arith)

-- a negative value's size grows as the value goes down
beside : (u s : Bool) (w a b : ℕ) (B : 0 < b) → Cut (unlike s u) w a b → Beside u (signedᶠ s a b B) (signedᶠ s w 1 (zero-lt-suc 0))
unfolding ◌+ᶠ◌
beside false false w a b B h = (record { le = omega (arith, h.0) }, record { lt = omega (arith, h.1) })
beside false true w a b B h = (record { le = omega (arith, h.0) }, record { lt = omega (arith, h.1) })
beside true false w a b B h = (record { le = omega (arith, h.0) }, record { lt = omega (arith, h.1) })
beside true true w a b B h = (record { le = omega (arith, h.0) }, record { lt = omega (arith, h.1) })

-- ---- the format holds the whole number: a value from 2 ^ 23 on is whole, and below that every whole number up to 2
-- ^ 24 is a value
exact : (t s : Bool) (m : ℕ) (e : ℤ) → T (fits binary32 (fin s m e)) → HasValue (round binary32 s (whole_div t (m * up e) (down e)) 1) s (whole_div t (m * up e) (down e)) 1
exact t s m (pos k) h =
    let n = m * 2 ^ k in
    let q : n ≡ whole_div t n 1 = sym (ap (λ (x : ℕ). whole_div t x 1) (sym (mul-one n)) ∙ whole_exact t n 1 (zero-lt-suc 0)) in
    subst (λ (w : ℕ). HasValue (round binary32 s w 1) s w 1) q (own_rounding binary32 s s m (pos k) h)
exact t s m (negsuc k) h = round_whole binary32 s _ (le_trans (step_le t (m * 1 / 2 ^ suc k) (m * 1 % 2 ^ suc k)) (below m h))
  where
    below : (m : ℕ) → T (fits binary32 (fin s m (negsuc k))) → m * 1 / 2 ^ suc k + 1 ≤ 2 ^ 24
    below zero h = omega (arith, div-le_self (0 * 1) (2 ^ suc k))
    below (suc m) h = let p = (fits_parts binary32 s m (negsuc k) h).0 in omega (arith, div-le_self (suc m * 1) (2 ^ suc k))

-- ONE LAW for both directions: finite and a whole number, at x or less than 1 away on the side of the direction
integral_beside : (u : Bool) (x : Float) → T (finite x) → T (fits binary32 x)
    → (n : Whole) × Is (wholeᶠ n) (integral_of u x) × Beside u (val x) (val (integral_of u x))
unfolding integral_of val
integral_beside u nan p h = absurd p
integral_beside u (inf s) p h = absurd p
integral_beside u (fin s m e) p h =
    let a = m * up e in
    let w = whole_div (unlike s u) a (down e) in
    let v = value_is (round binary32 s w 1) s w 1 (zero-lt-suc 0) (exact (unlike s u) s m e h) in
    let c = whole_cut (unlike s u) a (down e) (down_pos e) in
    (signed s w, record { fine = v.0; eq = v.1 }, beside_same u (signedᶠ s a (down e) (down_pos e)) (sym≈ v.1) (beside u s w a (down e) (down_pos e) c))

pub integral_beliefs : IntegralBeliefs
integral_beliefs = record {
  floor_below = λ x p h. let i = integral_beside false x p h in (i.0, i.1, i.2.0, i.2.1);
  ceil_above = λ x p h. let i = integral_beside true x p h in (i.0, i.1, i.2.0, i.2.1);
}

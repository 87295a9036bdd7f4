-- The check decides: strictly between two neighbouring midpoints there is one nearest f32. In whole numbers. Assumes
-- nothing.
use mathlib.Core.Path.{◌≡◌, sym, ap, ap₂, ◌∙◌, subst}
use mathlib.Core.Logic.{inl, inr}
use mathlib.Core.Bool.{false}
use Prim.Native.Nat.{ℕ, suc, ◌+◌, ◌-◌, ◌*◌, ◌/◌, ◌%◌, ◌^◌, ◌≤◌, ◌<◌}
use native.Mathlib.Nat.{le_of_eq, le_of_lt, lt_of_lt_of_le, lt_of_le_of_lt, eq-or-lt_of_le, pow-suc, min-eq_left, zero-add}
use native.Mathlib.Omega.{arith}
use lib.Dec.{lit≤, lit<}
use lib.Ieee.{Float, binary32, units, of_bits}
use Rattle.float.specs.Parts.{pattern_of}
use Rattle.float.proofs.Pattern.{split, packed}
use Rattle.root_digits.specs.Digits.{rounded_half, HalfSteps}
use Rattle.root_digits.proofs.Halves.{rounded_even, rounded_up}
use Rattle.square_sums.specs.Squares.{square, RootOfSquares}
use Rattle.square_sums.proofs.Sums.{rooted}

-- the digits, 25 of them, and the exponent that a pattern with one digit more than an f32's stands for, in halves of
-- the smallest f32. The f32 whose pattern is p has the midpoints 2 * p - 1 below it and 2 * p + 1 above it
abbrev pub mid_digits : ℕ → ℕ
mid_digits m = m % 2 ^ 24 + 2 ^ 24

abbrev pub mid_exponent : ℕ → ℕ
mid_exponent m = m / 2 ^ 24 - 1

abbrev digits_of : ℕ → ℕ
digits_of p = p % 2 ^ 23 + 2 ^ 23

abbrev exponent_of : ℕ → ℕ
exponent_of p = p / 2 ^ 23 - 1

-- the f32 of a pattern that is not subnormal
abbrev candidate : ℕ → Float
candidate p = units binary32 false (digits_of p) (exponent_of p)

-- that is what its bits are
candidate_is : (p : ℕ) → 2 ^ 23 < p → p < 255 * 2 ^ 23 → of_bits binary32 p ≡ candidate p
candidate_is p a b =
    let e : exponent_of p * 2 ^ 23 + digits_of p ≡ p = omega arith in
    let l : exponent_of p * 2 ^ 23 + digits_of p ≤ 255 * 2 ^ 23 = omega arith in
    let small : digits_of p ≤ 2 ^ 24 = omega arith in
    let full : 2 ^ 23 ≤ digits_of p = omega arith in
    let pat : pattern_of false (exponent_of p * 2 ^ 23 + digits_of p) (255 * 2 ^ 23) (2 ^ 31) ≡ p = zero-add _ ∙ min-eq_left l ∙ e in
    sym (ap (of_bits binary32) pat) ∙ packed binary32 false (digits_of p) (exponent_of p) small (inr full)

as_square : (m j : ℕ) → square m j ≡ m * m * (2 ^ j * 2 ^ j)
as_square m j = go (2 ^ j)
  where
    go : (E : ℕ) → m * E * (m * E) ≡ m * m * (E * E)
    go E = omega arith

-- from 2 * q on, up to 2 * q + 1
at_even : (S q k : ℕ) → 2 * q * (2 * q) * (2 ^ k * 2 ^ k) ≤ S * 4 → S * 4 < (2 * q + 1) * (2 * q + 1) * (2 ^ k * 2 ^ k) → 2 ^ 23 ≤ q → q < 2 ^ 24
    → RootOfSquares S (units binary32 false q k)
at_even S q k a b full l =
    elim (eq-or-lt_of_le a) [
      | inl e ↦ go 0 (λ _. sym e) (λ h. absurd (omega arith))
      | inr h ↦ go 1 (λ e. absurd (omega arith)) (λ _. h)
    ]
  where
    go : (t : ℕ) → (t ≡ 0 → S * 4 ≡ 2 * q * (2 * q) * (2 ^ k * 2 ^ k)) → (0 < t → 2 * q * (2 * q) * (2 ^ k * 2 ^ k) < S * 4) → RootOfSquares S (units binary32 false q k)
    go t x i =
        let even : 2 * q % 2 ≡ 0 = omega arith in
        let half : 2 * q / 2 ≡ q = omega arith in
        let kept : rounded_half (2 * q) t ≡ q = sym (rounded_even (2 * q) t even) ∙ half in
        let o : HalfSteps S (2 ^ k * 2 ^ k) (2 * q) t = record { from = a; below = b; exact = x; inexact = i } in
        subst (λ (z : ℕ). RootOfSquares S (units binary32 false z k)) kept (rooted o (inr (omega arith)) (omega arith))

-- from 2 * q - 1 on, up to 2 * q
at_odd : (S q k : ℕ) → 0 < q → (2 * q - 1) * (2 * q - 1) * (2 ^ k * 2 ^ k) < S * 4 → S * 4 < 2 * q * (2 * q) * (2 ^ k * 2 ^ k) → 2 ^ 23 < q → q ≤ 2 ^ 24
    → RootOfSquares S (units binary32 false q k)
at_odd S q k P a b g l =
    let odd : (2 * q - 1) % 2 ≡ 0 → ⊥ = λ h. omega arith in
    let half : (2 * q - 1) / 2 + 1 ≡ q = omega arith in
    let kept : rounded_half (2 * q - 1) 1 ≡ q = sym (rounded_up (2 * q - 1) 1 odd (λ e. omega arith)) ∙ half in
    let next : 2 * q - 1 + 1 ≡ 2 * q = omega arith in
    let o : HalfSteps S (2 ^ k * 2 ^ k) (2 * q - 1) 1 = record {
      from = le_of_lt a;
      below = lt_of_lt_of_le b (le_of_eq (ap (λ (x : ℕ). x * x * (2 ^ k * 2 ^ k)) (sym next)));
      exact = λ e. absurd (omega arith);
      inexact = λ _. a;
    } in
    subst (λ (z : ℕ). RootOfSquares S (units binary32 false z k)) kept (rooted o (inr (omega arith)) (omega arith))

-- the same float, by two exponents
same_power : (k : ℕ) → units binary32 false (2 ^ 24) k ≡ units binary32 false (2 ^ 23) (suc k)
same_power k =
    let e : k * 2 ^ 23 + 2 ^ 24 ≡ suc k * 2 ^ 23 + 2 ^ 23 = omega arith in
    sym (packed binary32 false (2 ^ 24) k (lit≤ tt) (inr (lit≤ tt)))
    ∙ ap (λ (n : ℕ). of_bits binary32 (pattern_of false n (255 * 2 ^ 23) (2 ^ 31))) e
    ∙ packed binary32 false (2 ^ 23) (suc k) (lit≤ tt) (inr (lit≤ tt))

-- THE CHECK DECIDES: where four times S is strictly between the squares of the midpoints beside a candidate, it is the
-- f32 nearest to the root of S
pub checked : (S p : ℕ) → 2 ^ 23 < p → p < 255 * 2 ^ 23 → square (mid_digits (2 * p - 1)) (mid_exponent (2 * p - 1)) < S * 4 → S * 4 < square (mid_digits (2 * p + 1)) (mid_exponent (2 * p + 1))
    → RootOfSquares S (of_bits binary32 p)
checked S p P Q a b =
    let q = digits_of p in
    let k = exponent_of p in
    subst (RootOfSquares S) (sym (candidate_is p P Q)) (elim (split (S * 4) (2 * q * (2 * q) * (2 ^ k * 2 ^ k))) [
      | inr h ↦ at_even S q k h (lt_of_lt_of_le b (le_of_eq above)) (omega arith) (omega arith)
      | inl h ↦
          elim (split 0 (p % 2 ^ 23)) [
            | inl g ↦
                let d : mid_digits (2 * p - 1) ≡ 2 * q - 1 = omega arith in
                let e : mid_exponent (2 * p - 1) ≡ k = omega arith in
                at_odd S q k (omega arith) (lt_of_le_of_lt (le_of_eq (sym (ap₂ square d e ∙ as_square (2 * q - 1) k))) a) h (omega arith) (omega arith)
            | inr g ↦
                let z : q ≡ 2 ^ 23 = omega arith in
                let i : suc (k - 1) ≡ k = omega arith in
                let d : mid_digits (2 * p - 1) ≡ 2 * 2 ^ 24 - 1 = omega arith in
                let e : mid_exponent (2 * p - 1) ≡ k - 1 = omega arith in
                subst (RootOfSquares S) (same_power (k - 1) ∙ ap₂ (λ (x y : ℕ). units binary32 false x y) (sym z) i)
                (at_odd S (2 ^ 24) (k - 1) (lit< tt) (lt_of_le_of_lt (le_of_eq (sym (ap₂ square d e ∙ as_square (2 * 2 ^ 24 - 1) (k - 1)))) a)
                (lt_of_lt_of_le h (le_of_eq (power q k z i))) (lit< tt) (lit≤ tt))
          ]
    ])
  where
    above : square (mid_digits (2 * p + 1)) (mid_exponent (2 * p + 1)) ≡ (2 * digits_of p + 1) * (2 * digits_of p + 1) * (2 ^ exponent_of p * 2 ^ exponent_of p)
    above =
        let d : mid_digits (2 * p + 1) ≡ 2 * digits_of p + 1 = omega arith in
        let e : mid_exponent (2 * p + 1) ≡ exponent_of p = omega arith in
        ap₂ square d e ∙ as_square (2 * digits_of p + 1) (exponent_of p)

    power : (q k : ℕ) → q ≡ 2 ^ 23 → suc (k - 1) ≡ k → 2 * q * (2 * q) * (2 ^ k * 2 ^ k) ≡ 2 * 2 ^ 24 * (2 * 2 ^ 24) * (2 ^ (k - 1) * 2 ^ (k - 1))
    power q k z i =
        let w : 2 ^ k ≡ 2 ^ (k - 1) * 2 = ap (λ (x : ℕ). 2 ^ x) (sym i) ∙ pow-suc 2 (k - 1) in
        ap₂ (λ (x y : ℕ). 2 * x * (2 * x) * (y * y)) z w ∙ omega arith

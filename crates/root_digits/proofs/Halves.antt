-- The half of a root, rounded: what `round_root` returns, and how large it is. Assumes nothing.
use mathlib.Core.Path.{◌≡◌, sym, ap, ◌∙◌}
use Prim.Native.Nat.{ℕ, suc, ◌+◌, ◌-◌, ◌/◌, ◌%◌, ◌^◌, ◌≤◌, ◌<◌}
use native.Mathlib.Nat.{le_trans}
use native.Mathlib.Numerals.{add-one}
use native.Mathlib.Omega.{arith}
use lib.Ieee.{nearest}
use lib.Ieee.Fits.{nearest-le}
use lib.Ieee.Nearest.{nearest-ge}
use Rattle.root_digits.specs.Digits.{side_of_half, rounded_half}
use Rattle.root_digits.proofs.RootLoop.{double}

pub rounded_even : (r t : ℕ) → r % 2 ≡ 0 → r / 2 ≡ rounded_half r t
rounded_even r t h = sym (ap (λ (b : ℕ). nearest (r / 2) (side_of_half b t)) h)

one_left : (r : ℕ) → (r % 2 ≡ 0 → ⊥) → r % 2 ≡ 1
one_left r h = omega arith

pub rounded_tie : (r t : ℕ) → (r % 2 ≡ 0 → ⊥) → t ≡ 0 → r / 2 + r / 2 % 2 ≡ rounded_half r t
rounded_tie r t h k = sym (ap (λ (b : ℕ). nearest (r / 2) (side_of_half b t)) (one_left r h) ∙ ap (λ (x : ℕ). nearest (r / 2) (side_of_half 1 x)) k)

pub rounded_up : (r t : ℕ) → (r % 2 ≡ 0 → ⊥) → (t ≡ 0 → ⊥) → r / 2 + 1 ≡ rounded_half r t
rounded_up r t h k =
    let e : t ≡ suc (t - 1) = omega arith in
    add-one (r / 2) ∙ sym (ap (λ (b : ℕ). nearest (r / 2) (side_of_half b t)) (one_left r h) ∙ ap (λ (x : ℕ). nearest (r / 2) (side_of_half 1 x)) e)

pub rounded_le : (p r t : ℕ) → r < 2 ^ (p + 1) → rounded_half r t ≤ 2 ^ p
rounded_le p r t h =
    let e = double p in
    let l : suc (r / 2) ≤ 2 ^ p = omega arith in
    le_trans (nearest-le (r / 2) (side_of_half (r % 2) t)) l

pub rounded_ge : (p r t : ℕ) → 2 ^ (p + 1) ≤ r → 2 ^ p ≤ rounded_half r t
rounded_ge p r t h =
    let e = double p in
    let l : 2 ^ p ≤ r / 2 = omega arith in
    le_trans l (nearest-ge (r / 2) (side_of_half (r % 2) t))

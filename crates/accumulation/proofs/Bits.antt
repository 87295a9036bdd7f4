-- Bits of a word: after an or with another word, and of a run of ones. Assumes nothing.
use mathlib.Core.Path.{◌≡◌, sym, ap, ◌∙◌}
use Prim.Native.Nat.{ℕ, suc, ◌+◌, ◌-◌, ◌*◌, ◌/◌, ◌%◌, ◌^◌, ◌≤◌, ◌<◌, max}
use native.Mathlib.Nat.{le-max_left, le-max_right, max-le, div_self, pow-suc}
use native.Mathlib.Omega.{arith}
use lib.Bits.{bit_or, or_step, or_shr}
use lib.Pow.{pow_pos, shl_exact, shl-shr, shr-shr, ones_lt, ones_split, high}
use Rattle.accumulation.specs.Marks.{bit_of}

-- ---- an or

-- it is even only where both are
or_even : (a b : ℕ) → bit_or a b % 2 ≡ 0 → (a % 2 ≡ 0) × (b % 2 ≡ 0)
or_even a b h =
    let e = or_step a b in
    let l = le-max_left (a % 2) (b % 2) in
    let r = le-max_right (a % 2) (b % 2) in
    let one : max (a % 2) (b % 2) ≤ 1 = max-le (omega arith) (omega arith) in
    (omega arith, omega arith)

pub or_clear : (a b k : ℕ) → bit_of (bit_or a b) k ≡ 0 → (bit_of a k ≡ 0) × (bit_of b k ≡ 0)
or_clear a b k h = or_even (a / 2 ^ k) (b / 2 ^ k) (rw or_shr at h)

-- ---- a bit alone, as the code shifts it there

pub own_bit : (k : ℕ) → bit_of (2 ^ k) k ≡ 0 → ⊥
own_bit k h = let e = div_self (pow_pos k) in let z : 1 % 2 ≡ 0 = rw e at h in omega arith

-- ---- n ones from place p on

abbrev pub ones_at : ℕ → ℕ → ℕ
ones_at n p = (2 ^ 64 - 1) / 2 ^ (64 - n) * 2 ^ p % 2 ^ 64

ones_of : (n k : ℕ) → (2 ^ (n + k) - 1) / 2 ^ k ≡ 2 ^ n - 1
ones_of n k = ap (λ (x : ℕ). x / 2 ^ k) (ones_split n k) ∙ high (2 ^ n - 1) k (ones_lt k)

ones_are : (n p : ℕ) → p + n ≤ 64 → ones_at n p ≡ (2 ^ n - 1) * 2 ^ p
ones_are n p h =
    let e : n + (64 - n) ≡ 64 = omega arith in
    let o : (2 ^ 64 - 1) / 2 ^ (64 - n) ≡ 2 ^ n - 1 = ap (λ (x : ℕ). (2 ^ x - 1) / 2 ^ (64 - n)) (sym e) ∙ ones_of n (64 - n) in
    ap (λ (x : ℕ). x * 2 ^ p % 2 ^ 64) o ∙ shl_exact n p 64 (ones_lt n) (omega arith)

ones_odd : (n : ℕ) → (2 ^ suc n - 1) % 2 ≡ 0 → ⊥
ones_odd n h = let p = pow_pos n in let e = pow-suc 2 n in omega arith

pub ones_set : (n p k : ℕ) → p + n ≤ 64 → p ≤ k → k < p + n → bit_of (ones_at n p) k ≡ 0 → ⊥
ones_set n p k h l m z =
    let i : ℕ = k - p in
    let a : p + i ≡ k = omega arith in
    let b : suc (n - suc i) + i ≡ n = omega arith in
    let q : ones_at n p / 2 ^ k ≡ 2 ^ suc (n - suc i) - 1 =
    ap (λ (x : ℕ). x / 2 ^ k) (ones_are n p h)
    ∙ ap (λ (x : ℕ). (2 ^ n - 1) * 2 ^ p / 2 ^ x) (sym a)
    ∙ sym (shr-shr ((2 ^ n - 1) * 2 ^ p) p i)
    ∙ ap (λ (x : ℕ). x / 2 ^ i) (shl-shr (2 ^ n - 1) p)
    ∙ ap (λ (x : ℕ). (2 ^ x - 1) / 2 ^ i) (sym b)
    ∙ ones_of (suc (n - suc i)) i in
    ones_odd (n - suc i) (ap (λ (x : ℕ). x % 2) (sym q) ∙ z)

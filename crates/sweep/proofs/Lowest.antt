-- The lowest set bit of a word, and the word without it, `n & (n - 1)`. Assumes nothing.
use mathlib.Core.Path.{◌≡◌, refl, sym, ap, ◌∙◌}
use Prim.Native.Nat.{ℕ, zero, suc, ◌-◌, ◌*◌, ◌/◌, ◌%◌, ◌^◌, ◌<◌, ◌≤◌}
use native.Mathlib.Nat.{not-suc-le-zero, le_of_suc-le-suc, div-one, pow-suc, lt_of_le_of_lt, mul-div_cancel, zero-lt-suc, zero-div}
use native.Mathlib.Omega.{arith}
use lib.Bits.{bit_and, and_step, and_self, and_le_r}
use lib.Count.{count_trailing_zeros, under}
use lib.Pow.{shr-shr}
use Rattle.accumulation.specs.Marks.{bit_of}

bit_suc : (n i : ℕ) → bit_of n (suc i) ≡ bit_of (n / 2) i
bit_suc n i = ap (λ (m : ℕ). m % 2) (sym (shr-shr n 1 i ∙ ap (λ (p : ℕ). n / 2 ^ p) (omega arith)))

twice : (x i : ℕ) → bit_of (x * 2) (suc i) ≡ bit_of x i
twice x i = bit_suc (x * 2) i ∙ ap (λ (m : ℕ). bit_of m i) (mul-div_cancel x (zero-lt-suc 1))

pub zero_bit : (k : ℕ) → bit_of 0 k ≡ 0
zero_bit k = rw zero-div refl

-- the bits below the lowest set one are clear
pub below_lowest : (k n j : ℕ) → j < count_trailing_zeros k n → bit_of n j ≡ 0
unfolding count_trailing_zeros
below_lowest zero n j h = absurd (not-suc-le-zero h)
below_lowest (suc k) n j h = go (n % 2) refl j (λ i. below_lowest k (n / 2) i) h
  where
    go : (d : ℕ) → n % 2 ≡ d → (j : ℕ) → ((i : ℕ) → i < count_trailing_zeros k (n / 2) → bit_of (n / 2) i ≡ 0) → j < under d (count_trailing_zeros k (n / 2)) → bit_of n j ≡ 0
    go zero e zero ih g = rw div-one e
    go zero e (suc i) ih g = bit_suc n i ∙ ih i (le_of_suc-le-suc g)
    go (suc d) e j ih g = absurd (not-suc-le-zero g)

-- a number below 2 ^ j that is not 0 has a set bit among its j lowest
lowest : (k n j : ℕ) → 0 < n → n < 2 ^ j → j ≤ k → count_trailing_zeros k n < j
unfolding count_trailing_zeros
lowest k n zero p h g = absurd (omega arith)
lowest zero n (suc j) p h g = absurd (omega arith)
lowest (suc k) n (suc j) p h g = go (n % 2) refl (lowest k (n / 2) j)
  where
    go : (d : ℕ) → n % 2 ≡ d → (0 < n / 2 → n / 2 < 2 ^ j → j ≤ k → count_trailing_zeros k (n / 2) < j) → under d (count_trailing_zeros k (n / 2)) < suc j
    go zero e ih =
        let q : n < 2 ^ j * 2 = rw pow-suc at h in
        let t = ih (omega arith) (omega arith) (omega arith) in
        omega arith
    go (suc d) e ih = omega arith

pub lowest_lt : (n : ℕ) → 0 < n → n < 2 ^ 64 → count_trailing_zeros 64 n < 64
lowest_lt n p h = lowest 64 n 64 p h (omega arith)

pub positive : {n : ℕ} → (n ≡ 0 → ⊥) → 0 < n
positive {n} h = omega arith

-- ---- without it

abbrev pub rest : ℕ → ℕ
rest n = bit_and n (n - 1)

rest_odd : (n : ℕ) → n % 2 ≡ 1 → rest n ≡ n / 2 * 2
rest_odd n o =
    let a : (n - 1) / 2 ≡ n / 2 = omega arith in
    let b : (n - 1) % 2 ≡ 0 = omega arith in
    and_step n (n - 1) ∙ rw (a, b, o, and_self) (omega arith)

rest_even : (n : ℕ) → 0 < n → n % 2 ≡ 0 → rest n ≡ rest (n / 2) * 2
rest_even n p o =
    let a : (n - 1) / 2 ≡ n / 2 - 1 = omega arith in
    let b : (n - 1) % 2 ≡ 1 = omega arith in
    and_step n (n - 1) ∙ rw (a, b, o) (omega arith)

one : (d n : ℕ) → n % 2 ≡ suc d → n % 2 ≡ 1
one d n e = omega arith

-- above the bit that went, the bits are as they were
pub rest_high : (k n j : ℕ) → 0 < n → count_trailing_zeros k n < j → count_trailing_zeros k n < k → bit_of (rest n) j ≡ bit_of n j
unfolding count_trailing_zeros
rest_high zero n j p h g = absurd (not-suc-le-zero g)
rest_high (suc k) n j p h g = go (n % 2) refl j (λ i. rest_high k (n / 2) i) h g
  where
    go : (d : ℕ) → n % 2 ≡ d → (j : ℕ) → ((i : ℕ) → 0 < n / 2 → count_trailing_zeros k (n / 2) < i → count_trailing_zeros k (n / 2) < k → bit_of (rest (n / 2)) i ≡ bit_of (n / 2) i)
        → under d (count_trailing_zeros k (n / 2)) < j → under d (count_trailing_zeros k (n / 2)) < suc k → bit_of (rest n) j ≡ bit_of n j
    go zero e zero ih l m = absurd (not-suc-le-zero l)
    go zero e (suc i) ih l m =
        ap (λ (x : ℕ). bit_of x (suc i)) (rest_even n p e) ∙ twice (rest (n / 2)) i ∙ ih i (omega arith) (le_of_suc-le-suc l) (le_of_suc-le-suc m) ∙ sym (bit_suc n i)
    go (suc d) e zero ih l m = absurd (not-suc-le-zero l)
    go (suc d) e (suc i) ih l m = ap (λ (x : ℕ). bit_of x (suc i)) (rest_odd n (one d n e)) ∙ twice (n / 2) i ∙ sym (bit_suc n i)

-- and the lowest that is left is above it
twice_lowest : (k x : ℕ) → count_trailing_zeros (suc k) (x * 2) ≡ suc (count_trailing_zeros k x)
unfolding count_trailing_zeros
twice_lowest k x =
    let a : x * 2 % 2 ≡ 0 = omega arith in
    ap (λ (d : ℕ). under d (count_trailing_zeros k (x * 2 / 2))) a ∙ ap (λ (y : ℕ). suc (count_trailing_zeros k y)) (mul-div_cancel x (zero-lt-suc 1))

pub rest_above : (k n : ℕ) → 0 < n → count_trailing_zeros k n < k → count_trailing_zeros k n < count_trailing_zeros k (rest n)
unfolding count_trailing_zeros
rest_above zero n p g = absurd (not-suc-le-zero g)
rest_above (suc k) n p g = go (n % 2) refl (rest_above k (n / 2)) g
  where
    go : (d : ℕ) → n % 2 ≡ d → (0 < n / 2 → count_trailing_zeros k (n / 2) < k → count_trailing_zeros k (n / 2) < count_trailing_zeros k (rest (n / 2)))
        → under d (count_trailing_zeros k (n / 2)) < suc k → under d (count_trailing_zeros k (n / 2)) < count_trailing_zeros (suc k) (rest n)
    go zero e ih m =
        let i = ih (omega arith) (le_of_suc-le-suc m) in
        let t : count_trailing_zeros (suc k) (rest n) ≡ suc (count_trailing_zeros k (rest (n / 2))) = ap (count_trailing_zeros (suc k)) (rest_even n p e) ∙ twice_lowest k (rest (n / 2)) in
        omega arith
    go (suc d) e ih m =
        let t : count_trailing_zeros (suc k) (rest n) ≡ suc (count_trailing_zeros k (n / 2)) = ap (count_trailing_zeros (suc k)) (rest_odd n (one d n e)) ∙ twice_lowest k (n / 2) in
        omega arith

pub rest_lt : (n : ℕ) → 0 < n → rest n < n
rest_lt n p = lt_of_le_of_lt (and_le_r n (n - 1)) (omega arith)

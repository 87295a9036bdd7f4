-- Whole roots, and `round_root` by a root that is known to one digit more than the format keeps, and whether that is all
-- of it: one law for square roots and for hypot. Over the width. Assumes nothing.
use mathlib.Core.Path.{◌≡◌, refl, sym, ap, ◌∙◌}
use mathlib.Core.Logic.{◌⊎◌, inl, inr}
use mathlib.Core.Bool.{Bool, true, false, not, cond}
use Prim.Native.Nat.{ℕ, zero, suc, ◌+◌, ◌-◌, ◌*◌, ◌/◌, ◌%◌, ◌^◌, ◌≤◌, ◌<◌, compare, Ordering}
use native.Mathlib.Nat.{le_trans, le_of_eq, le_refl, lt_of_lt_of_le, lt_of_le_of_lt, not-le_of_lt, le_antisymm, lt_of_not-le, mul-le-mul, mul-le-mul_right}
use native.Mathlib.Nat.{mul-pos, add-zero, mod-lt, pow-succ', div-lt_iff_lt-mul, le-div_iff_mul-le, pow-suc, zero-lt-suc}
use native.Mathlib.Omega.{arith}
use lib.Dec.{T, leb, leb→le, nleb→lt, lit<}
use lib.Pow.{pow-add, pow_pos}
use lib.Ieee.{Float, Format, prec, low, size, units, nearest}
use lib.Ieee.Digits.{size-le, size-lt}
use Rattle.rounding.proofs.Grid.{prec_pos}
use Rattle.root_digits.specs.Root.{root_digit, root_below, whole_root, round_root}
use Rattle.root_digits.specs.Digits.{side_of_half, rounded_half, HalfSteps}
use Rattle.float.proofs.Pattern.{size_gt, half_of}
use Rattle.float.proofs.Shift.{cmp_lt, cmp_eq, cmp_gt}

-- ---- squares

pub sq_even : (r : ℕ) → 2 * r * (2 * r) ≡ 4 * (r * r)
sq_even r = omega arith

pub sq_odd : (r : ℕ) → (2 * r + 1) * (2 * r + 1) ≡ 4 * (r * r) + 4 * r + 1
sq_odd r = omega arith

pub sq_mono : {a b : ℕ} → a ≤ b → a * a ≤ b * b
sq_mono h = mul-le-mul h h

pub sq_next : (r : ℕ) → (r + 1) * (r + 1) ≡ r * r + 2 * r + 1
sq_next r = omega arith

-- a square that is less has a smaller root
pub root_lt : (a b : ℕ) → a * a < b * b → a < b
root_lt a b h = lt_of_not-le (λ (g : b ≤ a). not-le_of_lt h (sq_mono g))

-- ---- the whole root

unfoldable pub IsRoot : ℕ → ℕ → Type 0
IsRoot n r = (r * r ≤ n) × (n < (r + 1) * (r + 1))

digit : (n r : ℕ) → IsRoot (n / 4) r → IsRoot n (root_digit n r)
unfolding IsRoot
digit n r p = go (leb ((2 * r + 1) * (2 * r + 1)) n) (leb→le _ n) (nleb→lt _ n)
  where
    go : (b : Bool) → (T b → (2 * r + 1) * (2 * r + 1) ≤ n) → (T (not b) → n < (2 * r + 1) * (2 * r + 1))
        → (cond b (2 * r + 1) (2 * r) * cond b (2 * r + 1) (2 * r) ≤ n) × (n < (cond b (2 * r + 1) (2 * r) + 1) * (cond b (2 * r + 1) (2 * r) + 1))
    go true h k =
        let a : n / 4 < (r + 1) * (r + 1) = p.1 in
        let s = sq_next r in
        let o = sq_odd r in
        let t = sq_next (2 * r + 1) in
        (h tt, omega arith)
    go false h k =
        let a : r * r ≤ n / 4 = p.0 in
        let e = sq_even r in
        (omega arith, k tt)

root_is : (k n : ℕ) → n < 4 ^ k → IsRoot n (root_below k n)
unfolding root_below IsRoot
root_is zero n h = let e : n < 1 = h in (omega arith, omega arith)
root_is (suc k) n h = digit n (root_below k (n / 4)) (root_is k (n / 4) (quarter k h))
  where
    quarter : (k : ℕ) → n < 4 ^ suc k → n / 4 < 4 ^ k
    quarter k h = let e = pow-suc 4 k in omega arith

four_pow : (k : ℕ) → 2 ^ k ≤ 4 ^ k
four_pow zero = le_refl 1
four_pow (suc k) = let a = pow-suc 2 k in let b = pow-suc 4 k in let h = four_pow k in omega arith

pub whole_root_is : (n : ℕ) → IsRoot n (whole_root n)
unfolding whole_root
whole_root_is n = root_is (size n) n (lt_of_lt_of_le (size-lt n) (four_pow (size n)))

pub root_unique : (n a b : ℕ) → IsRoot n a → IsRoot n b → a ≡ b
unfolding IsRoot
root_unique n a b p q = le_antisymm (under (root_lt a (b + 1) (lt_of_le_of_lt p.0 q.1))) (under (root_lt b (a + 1) (lt_of_le_of_lt q.0 p.1)))
  where
    under : {x y : ℕ} → x < y + 1 → x ≤ y
    under {x} {y} h = omega arith

-- ---- `round_root` by the whole root r of four times the square, in half steps of 2 ^ k units, and whether it is exact

-- r * r and the next square by r / 2
by_half : (r : ℕ) → (4 * (r / 2 * (r / 2)) ≤ r * r) × ((r + 1) * (r + 1) ≤ 4 * ((r / 2 + 1) * (r / 2 + 1)))
by_half r =
    let a : 2 * (r / 2) * (2 * (r / 2)) ≤ r * r = sq_mono (omega arith) in
    let b : (r + 1) * (r + 1) ≤ 2 * (r / 2 + 1) * (2 * (r / 2 + 1)) = sq_mono (omega arith) in
    (omega (arith, a, sq_even (r / 2)), omega (arith, b, sq_even (r / 2 + 1)))

-- a square of p + k digits in units, and of p digits in steps of 2 ^ k
pub in_steps : (p k den : ℕ) → 2 ^ (p + k) * 2 ^ (p + k) * den ≡ 2 ^ p * 2 ^ p * (den * (2 ^ k * 2 ^ k))
in_steps p k den = ap (λ (x : ℕ). x * x * den) (pow-add 2 p k) ∙ regroup (2 ^ p) (2 ^ k)
  where
    regroup : (a b : ℕ) → a * b * (a * b) * den ≡ a * a * (den * (b * b))
    regroup a b = omega arith

-- `round_root`, from its n and its k on
abbrev at : Format → ℕ → ℕ → ℕ → Float
at f n den k =
    let u = den * (2 ^ k * 2 ^ k) in
    let q = whole_root (n / u) in
    units f false (nearest q (compare (n * 4) ((2 * q + 1) * (2 * q + 1) * u))) k

round_root_is : (f : Format) (num den : ℕ)
    → round_root f num den ≡ at f (num * (2 ^ low f * 2 ^ low f)) den (size (whole_root (num * (2 ^ low f * 2 ^ low f) / den)) - prec f)
unfolding round_root
round_root_is f num den = refl

-- below, at or above the half
side_is : (n u r t : ℕ) → HalfSteps n u r t → compare (n * 4) ((2 * (r / 2) + 1) * (2 * (r / 2) + 1) * u) ≡ side_of_half (r % 2) t
side_is n u r t o = go (r / 2) (r % 2) t (mod-lt r (lit< tt)) (omega arith) o.exact o.inexact
  where
    go : (q b t : ℕ) → b < 2 → r ≡ 2 * q + b → (t ≡ 0 → n * 4 ≡ r * r * u) → (0 < t → r * r * u < n * 4)
        → compare (n * 4) ((2 * q + 1) * (2 * q + 1) * u) ≡ side_of_half b t
    go q zero t l e x i =
        let c : (r + 1) * (r + 1) ≡ (2 * q + 1) * (2 * q + 1) = ap (λ (x : ℕ). (x + 1) * (x + 1)) (e ∙ add-zero (2 * q)) in
        cmp_lt (n * 4) ((2 * q + 1) * (2 * q + 1) * u) (lt_of_lt_of_le o.below (le_of_eq (ap (λ (x : ℕ). x * u) c)))
    go q (suc zero) zero l e x i = cmp_eq (n * 4) ((2 * q + 1) * (2 * q + 1) * u) (x refl ∙ ap (λ (x : ℕ). x * x * u) e)
    go q (suc zero) (suc t) l e x i =
        cmp_gt (n * 4) ((2 * q + 1) * (2 * q + 1) * u) (lt_of_le_of_lt (le_of_eq (ap (λ (x : ℕ). x * x * u) (sym e))) (i (zero-lt-suc t)))
    go q (suc (suc b)) t l e x i = absurd (omega arith)

module _ (f : Format) (num den k r t : ℕ) (D : 0 < den) where
  abbrev n : ℕ
  n = num * (2 ^ low f * 2 ^ low f)

  abbrev u : ℕ
  u = den * (2 ^ k * 2 ^ k)

  u_pos : 0 < u
  u_pos = mul-pos D (mul-pos (pow_pos k) (pow_pos k))

  module _ (o : HalfSteps n u r t) (full : (k ≡ 0) ⊎ (2 ^ prec f ≤ r)) (hi : r < 2 ^ suc (prec f)) where
    half_is : IsRoot (n / u) (r / 2)
    unfolding IsRoot
    half_is =
        let h = by_half r in
        ((le-div_iff_mul-le u_pos).1 (low_end n u (r / 2) o.from h.0), (div-lt_iff_lt-mul u_pos).1 (high_end n u (r / 2) o.below h.1))
      where
        low_end : (n u q : ℕ) → r * r * u ≤ n * 4 → 4 * (q * q) ≤ r * r → q * q * u ≤ n
        low_end n u q e h = omega (arith, e, mul-le-mul_right u h)

        high_end : (n u q : ℕ) → n * 4 < (r + 1) * (r + 1) * u → (r + 1) * (r + 1) ≤ 4 * ((q + 1) * (q + 1)) → n < (q + 1) * (q + 1) * u
        high_end n u q e h = omega (arith, e, mul-le-mul_right u h)

    q_is : whole_root (n / u) ≡ r / 2
    q_is = root_unique (n / u) (whole_root (n / u)) (r / 2) (whole_root_is (n / u)) half_is

    -- the root in units has `prec` digits and k more, or fewer and k is 0
    least : 2 ^ prec f ≤ r → 2 ^ (prec f - 1 + k) * 2 ^ (prec f - 1 + k) ≤ n / den
    least lo =
        let h = 2 ^ (prec f - 1) in
        let d : 2 * h ≤ r = le_trans (le_of_eq (sym (half_of (prec f) (prec_pos f)))) lo in
        let g : h * h * u ≤ n = quarter h n u o.from (sq_mono d) in
        (le-div_iff_mul-le D).1 (le_trans (le_of_eq (in_steps (prec f - 1) k den)) g)
      where
        quarter : (h n u : ℕ) → r * r * u ≤ n * 4 → 2 * h * (2 * h) ≤ r * r → h * h * u ≤ n
        quarter h n u e d = omega (arith, e, mul-le-mul_right u d)

    most : n / den < 2 ^ (prec f + k) * 2 ^ (prec f + k)
    most =
        let d : r + 1 ≤ 2 * 2 ^ prec f = (let e = pow-succ' 2 (prec f) in omega arith) in
        (div-lt_iff_lt-mul D).1 (lt_of_lt_of_le (quarter (2 ^ prec f) n u o.below (sq_mono d)) (le_of_eq (sym (in_steps (prec f) k den))))
      where
        quarter : (h n u : ℕ) → n * 4 < (r + 1) * (r + 1) * u → (r + 1) * (r + 1) ≤ 2 * h * (2 * h) → n < h * h * u
        quarter h n u e d = omega (arith, e, mul-le-mul_right u d)

    k_is : size (whole_root (n / den)) - prec f ≡ k
    unfolding IsRoot
    k_is =
        let w = whole_root (n / den) in
        let i = whole_root_is (n / den) in
        let p : 0 < prec f = prec_pos f in
        let b : w < 2 ^ (prec f + k) = root_lt w (2 ^ (prec f + k)) (lt_of_le_of_lt i.0 most) in
        let y : size w ≤ prec f + k = size-le w (prec f + k) b in
        elim full [
          | inl z ↦ omega arith
          | inr lo ↦
              let a : 2 ^ (prec f - 1 + k) < w + 1 = root_lt (2 ^ (prec f - 1 + k)) (w + 1) (lt_of_le_of_lt (least lo) i.1) in
              let x : prec f - 1 + k < size w = size_gt w (prec f - 1 + k) (omega arith) in
              omega arith
        ]

    -- ROUNDED ONCE: the root of num / den has r half steps of 2 ^ k units, one digit more than the format keeps
    pub root_by : round_root f num den ≡ units f false (rounded_half r t) k
    root_by =
        round_root_is f num den
        ∙ ap (at f n den) k_is
        ∙ ap (λ (q : ℕ). units f false (nearest q (compare (n * 4) ((2 * q + 1) * (2 * q + 1) * u))) k) q_is
        ∙ ap (λ (o : Ordering). units f false (nearest (r / 2) o) k) (side_is n u r t o)

-- the half steps of a root whose rest was found: four times n is r * r + t squares of a half step
pub with_rest : (n u r t : ℕ) → 0 < u → n * 4 ≡ (r * r + t) * u → t ≤ 2 * r → HalfSteps n u r t
with_rest n u r t U e h = record {
  from = omega (arith, e);
  below = omega (arith, e, mul-le-mul_right u h);
  exact = λ z. e ∙ ap (λ (x : ℕ). (r * r + x) * u) z ∙ ap (λ (x : ℕ). x * u) (add-zero (r * r));
  inexact = λ p. omega (arith, e, mul-pos p U);
}

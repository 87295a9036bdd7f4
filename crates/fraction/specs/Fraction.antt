-- Exact fractions num / den of whole numbers, of any size, den above 0 (document 01, 'Exact winding': 'a fraction of
-- two whole numbers'). Nothing is reduced: 1 / 2 and 2 / 4 are two ways to write one number, and `≈ᶠ` says that two
-- are the same. Order and equality are by cross multiplication. Definitions only.
use Rattle.std.specs.Prelude.{ℕ, ◌+◌, ◌*◌, ◌^◌, ◌<◌, max, Bool, cond, leb, ltb, eqb}
use Rattle.std.proofs.Common.{mul-pos, zero-lt-suc, pow_pos}
use Rattle.std.proofs.Math.Nat.{le-max_left}
use Rattle.fraction.specs.Whole.{Whole, ◌+ʷ◌, ◌-ʷ◌, ◌*ʷ◌, ◌×ℕ◌, negʷ, natʷ, sizeʷ, ◌≤ʷ◌, ◌<ʷ◌, ◌≈ʷ◌}

pub record Fraction : Type 0 where
  pub num : Whole
  pub den : ℕ
  pub pos : 0 < den

infixl 68 ◌+ᶠ◌ ◌-ᶠ◌
infixl 69 ◌*ᶠ◌ ◌/ᶠ◌
infix 70 ◌/2^◌
infix 4 ◌≤ᶠ◌ ◌<ᶠ◌ ◌≈ᶠ◌
-- ---- order and equality: a / b ≤ c / d is a * d ≤ c * b
pub record ◌≤ᶠ◌ (x y : Fraction) : Type 0 where
  pub le : x.num ×ℕ y.den ≤ʷ y.num ×ℕ x.den

pub record ◌<ᶠ◌ (x y : Fraction) : Type 0 where
  pub lt : x.num ×ℕ y.den <ʷ y.num ×ℕ x.den

pub record ◌≈ᶠ◌ (x y : Fraction) : Type 0 where
  pub eq : x.num ×ℕ y.den ≈ʷ y.num ×ℕ x.den

-- the same as tests that compute
abbrev pub leᵇ : Fraction → Fraction → Bool
leᵇ x y = leb (x.num.plus * y.den + y.num.minus * x.den) (y.num.plus * x.den + x.num.minus * y.den)

abbrev pub ltᵇ : Fraction → Fraction → Bool
ltᵇ x y = ltb (x.num.plus * y.den + y.num.minus * x.den) (y.num.plus * x.den + x.num.minus * y.den)

abbrev pub eqᵇ : Fraction → Fraction → Bool
eqᵇ x y = eqb (x.num.plus * y.den + y.num.minus * x.den) (y.num.plus * x.den + x.num.minus * y.den)

-- ---- numbers: a whole number, a natural number, n / 2 ^ k
abbrev pub wholeᶠ : Whole → Fraction
wholeᶠ n = record { num = n; den = 1; pos = zero-lt-suc 0 }

abbrev pub natᶠ : ℕ → Fraction
natᶠ n = wholeᶠ (natʷ n)

abbrev pub ◌/2^◌ : ℕ → ℕ → Fraction
n /2^ k = record { num = natʷ n; den = 2 ^ k; pos = pow_pos k }

-- ---- arithmetic: sum, negation, difference, product
unfoldable pub ◌+ᶠ◌ : Fraction → Fraction → Fraction
x +ᶠ y = record { num = x.num ×ℕ y.den +ʷ y.num ×ℕ x.den; den = x.den * y.den; pos = mul-pos x.pos y.pos }

unfoldable pub negᶠ : Fraction → Fraction
negᶠ x = record { num = negʷ x.num; den = x.den; pos = x.pos }

unfoldable pub ◌-ᶠ◌ : Fraction → Fraction → Fraction
x -ᶠ y = record { num = x.num ×ℕ y.den -ʷ y.num ×ℕ x.den; den = x.den * y.den; pos = mul-pos x.pos y.pos }

unfoldable pub ◌*ᶠ◌ : Fraction → Fraction → Fraction
x *ᶠ y = record { num = x.num *ʷ y.num; den = x.den * y.den; pos = mul-pos x.pos y.pos }

-- the size, |x|
unfoldable pub absᶠ : Fraction → Fraction
absᶠ x = record { num = natʷ (sizeʷ x.num); den = x.den; pos = x.pos }

-- the smaller and the larger of two
unfoldable pub minᶠ : Fraction → Fraction → Fraction
minᶠ x y = cond (leᵇ x y) x y

unfoldable pub maxᶠ : Fraction → Fraction → Fraction
maxᶠ x y = cond (leᵇ x y) y x

-- document 01: 'held between 0 and 1'
unfoldable pub clampᶠ : Fraction → Fraction
unfolding minᶠ maxᶠ
clampᶠ x = maxᶠ (natᶠ 0) (minᶠ x (natᶠ 1))

-- 1 / x: den over the size of num, with the sign of num. It is 0 at 0, where there is none
unfoldable pub invᶠ : Fraction → Fraction
invᶠ x = record {
  num = record { plus = cond (ltb x.num.minus x.num.plus) x.den 0; minus = cond (ltb x.num.plus x.num.minus) x.den 0 };
  den = max 1 (sizeʷ x.num);
  pos = le-max_left 1 (sizeʷ x.num);
}

-- the quotient, x times 1 / y
unfoldable pub ◌/ᶠ◌ : Fraction → Fraction → Fraction
unfolding ◌*ᶠ◌ invᶠ
x /ᶠ y = x *ᶠ invᶠ y

-- document 01: 'differs from .. by at most': |x - y| ≤ e, said without the bars: y ≤ x + e and x ≤ y + e
pub record Near (x y e : Fraction) : Type 0 where
  pub lo : y ≤ᶠ x +ᶠ e
  pub hi : x ≤ᶠ y +ᶠ e

-- |x| ≤ b
pub record Within (x b : Fraction) : Type 0 where
  pub lo : negᶠ b ≤ᶠ x
  pub hi : x ≤ᶠ b

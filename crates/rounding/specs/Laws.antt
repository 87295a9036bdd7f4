-- What one rounding does, over the width: `proofs/Laws.antt` has an element of each record for every format.
-- Statements only.
use Rattle.std.specs.Prelude.{ℕ, ◌+◌, ◌^◌, ◌≤◌, ◌<◌, T, Float}
use Rattle.std.specs.Float.{Format}
use Rattle.std.specs.Float.Ieee.{prec, emax, low, add, sub, mul, div, lt, le, eq, fits}
use Rattle.std.specs.Float.Ieee.Scale.{finite}
use Rattle.fraction.specs.Whole.{Whole, ◌+ʷ◌, ◌-ʷ◌, ◌*ʷ◌, ◌×ℕ◌, sizeʷ, ◌≈ʷ◌}
use Rattle.fraction.specs.Fraction.{Fraction, ◌≤ᶠ◌, ◌<ᶠ◌, ◌≈ᶠ◌, natᶠ, ◌+ᶠ◌, ◌-ᶠ◌, ◌*ᶠ◌, Within}
use Rattle.rounding.specs.Value.{val, tiny}
use Rattle.rounding.specs.Rounding.{Rounds, Is}

-- a value of the format
pub record Finite (f : Format) (x : Float) : Type 0 where
  pub fine : T (finite x)
  pub held : T (fits f x)

-- IEEE 754's operations round the exact result once, where it is at most 2 ^ emax in size
pub record OperationLaws (f : Format) : Type 0 where
  pub add_rounds : (x y : Float) → Finite f x → Finite f y → Within (val x +ᶠ val y) (natᶠ (2 ^ emax f)) → Rounds f (natᶠ 0) (val x +ᶠ val y) (add f x y)
  pub sub_rounds : (x y : Float) → Finite f x → Finite f y → Within (val x -ᶠ val y) (natᶠ (2 ^ emax f)) → Rounds f (natᶠ 0) (val x -ᶠ val y) (sub f x y)
  pub mul_rounds : (x y : Float) → Finite f x → Finite f y → Within (val x *ᶠ val y) (natᶠ (2 ^ emax f)) → Rounds f (tiny f) (val x *ᶠ val y) (mul f x y)
  -- X is the quotient where X times the divisor is the dividend
  pub div_rounds : (x y : Float) (X : Fraction) → Finite f x → Finite f y → ¬ (val y ≈ᶠ natᶠ 0) → X *ᶠ val y ≈ᶠ val x → Within X (natᶠ (2 ^ emax f))
      → Rounds f (tiny f) X (div f x y)

-- and do not round where the format holds the result: x and y are whole numbers of 2 ^ -j and 2 ^ -k, and the result
-- one of fewer than 2 ^ prec units
pub record Units (k : ℕ) (x : Float) (z : Whole) : Type 0 where
  pub is : z ×ℕ (val x).den ≈ʷ (val x).num ×ℕ (2 ^ k)

pub record ExactLaws (f : Format) : Type 0 where
  pub add_exact : (k : ℕ) (x y : Float) (a b : Whole) → Finite f x → Finite f y → Units k x a → Units k y b → k ≤ low f → sizeʷ (a +ʷ b) < 2 ^ prec f
      → Is (val x +ᶠ val y) (add f x y)
  pub sub_exact : (k : ℕ) (x y : Float) (a b : Whole) → Finite f x → Finite f y → Units k x a → Units k y b → k ≤ low f → sizeʷ (a -ʷ b) < 2 ^ prec f
      → Is (val x -ᶠ val y) (sub f x y)
  pub mul_exact : (j k : ℕ) (x y : Float) (a b : Whole) → Finite f x → Finite f y → Units j x a → Units k y b → j + k ≤ low f → sizeʷ (a *ʷ b) < 2 ^ prec f
      → Is (val x *ᶠ val y) (mul f x y)

-- the floats' comparisons are the fractions' order
pub record ComparisonLaws : Type 0 where
  pub lt_val : (x y : Float) → T (finite x) → T (finite y) → T (lt x y) → val x <ᶠ val y
  pub val_lt : (x y : Float) → T (finite x) → T (finite y) → val x <ᶠ val y → T (lt x y)
  pub le_val : (x y : Float) → T (finite x) → T (finite y) → T (le x y) → val x ≤ᶠ val y
  pub val_le : (x y : Float) → T (finite x) → T (finite y) → val x ≤ᶠ val y → T (le x y)
  pub eq_val : (x y : Float) → T (finite x) → T (finite y) → T (eq x y) → val x ≈ᶠ val y
  pub val_eq : (x y : Float) → T (finite x) → T (finite y) → val x ≈ᶠ val y → T (eq x y)

-- Why the definitions of this folder may be believed: what they are, in exact numbers. `val x` is a finite float's
-- value as a fraction, and `Is X x` says that x is finite and its value X (crate rounding). The proofs have an element
-- of each record: proofs/IntegralBelief.antt, CastBelief.antt. Statements only.
use Rattle.std.specs.Prelude.{ℕ, ◌+◌, ◌^◌, ◌≤◌, T, Float}
use Rattle.std.specs.Float.{binary32}
use Rattle.std.specs.Float.Ieee.{fits, to_unsigned}
use Rattle.std.specs.Float.Ieee.Scale.{finite}
use Rattle.fraction.specs.Whole.{Whole}
use Rattle.fraction.specs.Fraction.{◌≤ᶠ◌, ◌<ᶠ◌, wholeᶠ, natᶠ, ◌+ᶠ◌}
use Rattle.rounding.specs.Value.{val}
use Rattle.rounding.specs.Rounding.{Is}
use Rattle.whole.specs.Whole.{floor_of, ceil_of, column_of, byte_of, of_whole}

-- ---- floor and ceiling of every finite value of binary32
pub record IntegralBeliefs : Type 0 where
  -- the largest whole number that is no larger: at x or less than 1 below it
  pub floor_below : (x : Float) → T (finite x) → T (fits binary32 x)
      → (n : Whole) × Is (wholeᶠ n) (floor_of x) × (val (floor_of x) ≤ᶠ val x) × (val x <ᶠ val (floor_of x) +ᶠ natᶠ 1)
  -- the smallest whole number that is no smaller: at x or less than 1 above it
  pub ceil_above : (x : Float) → T (finite x) → T (fits binary32 x)
      → (n : Whole) × Is (wholeᶠ n) (ceil_of x) × (val x ≤ᶠ val (ceil_of x)) × (val (ceil_of x) <ᶠ val x +ᶠ natᶠ 1)

-- ---- the casts
pub record CastBeliefs : Type 0 where
  -- a whole number up to 2 ^ 24 as a float is that number
  pub of_whole_exact : (n : ℕ) → n ≤ 2 ^ 24 → Is (natᶠ n) (of_whole n)
  -- a float from 0 on and below 2 ^ w, cut to w bits, is the whole number at it or less than 1 below it; so are a
  -- column and a byte
  pub cut_below : (w : ℕ) (x : Float) → T (finite x) → natᶠ 0 ≤ᶠ val x → val x <ᶠ natᶠ (2 ^ w)
      → (natᶠ (to_unsigned w x) ≤ᶠ val x) × (val x <ᶠ natᶠ (to_unsigned w x + 1))
  pub column_below : (x : Float) → T (finite x) → natᶠ 0 ≤ᶠ val x → val x <ᶠ natᶠ (2 ^ 13) → (natᶠ (column_of x) ≤ᶠ val x) × (val x <ᶠ natᶠ (column_of x + 1))
  pub byte_below : (x : Float) → T (finite x) → natᶠ 0 ≤ᶠ val x → val x <ᶠ natᶠ (2 ^ 8) → (natᶠ (byte_of x) ≤ᶠ val x) × (val x <ᶠ natᶠ (byte_of x + 1))

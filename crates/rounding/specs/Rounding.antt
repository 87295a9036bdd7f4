-- What it is for a float to be a fraction rounded, and to be one exactly. Definitions only.
use Rattle.std.specs.Prelude.{T, Float}
use Rattle.std.specs.Float.{Format}
use Rattle.std.specs.Float.Ieee.{fits}
use Rattle.std.specs.Float.Ieee.Scale.{finite}
use Rattle.fraction.specs.Fraction.{Fraction, ◌≤ᶠ◌, ◌≈ᶠ◌, ◌+ᶠ◌, ◌*ᶠ◌, Near, Within}
use Rattle.rounding.specs.Value.{val, roundoff}

-- r is X rounded to the format f: it is finite, and for each bound B of X's size it is off by at most 2 ^ -prec of B
-- and by t, which is `tiny f` for a product or a quotient and 0 for a sum. B is whatever is known of X: a literal
-- gives an absolute error, |X| the relative one. No value of the format lies between X and r.
pub record Rounds (f : Format) (t X : Fraction) (r : Float) : Type 0 where
  pub fine : T (finite r)
  pub near : (B : Fraction) → Within X B → Near (val r) X (roundoff f *ᶠ B +ᶠ t)
  pub below : (y : Float) → T (finite y) → T (fits f y) → X ≤ᶠ val y → val r ≤ᶠ val y
  pub above : (y : Float) → T (finite y) → T (fits f y) → val y ≤ᶠ X → val y ≤ᶠ val r

-- r is X, and nothing was rounded
pub record Is (X : Fraction) (r : Float) : Type 0 where
  pub fine : T (finite r)
  pub eq : val r ≈ᶠ X

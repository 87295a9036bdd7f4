-- `shape::number_in_range` meets its contract: the size of what is not finite is at most nothing. Assumes nothing.
use mathlib.Core.Path.{◌≡◌, refl}
use lib.Ieee.{Float, nan, inf, fin, of_bits, of_fields, odd, lt, le, eq}
use Rattle.float.specs.Simple.{abs_of}
use Rattle.shape.specs.Limits.{largest_number}
use Rattle.shape.specs.Checks.{in_range_of}
use Rattle.shape.proofs.number_in_range.Goals as goal

small_enough : (x : Float) → le (abs_of x) largest_number ≡ in_range_of x
unfolding in_range_of abs_of le lt eq of_bits of_fields odd
small_enough nan = refl
small_enough (inf s) = refl
small_enough (fin s m e) = refl

pub returns : goal.returns
returns c = rw c.abs.ensures (small_enough c.args.x)

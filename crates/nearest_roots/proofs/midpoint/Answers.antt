-- `nearest_roots::midpoint` meets its contract. Assumes nothing.
use lib.Ieee.{binary64}
use native.Mathlib.Omega.{arith}
use Rattle.nearest_roots.proofs.Guessing.{bits_no_nan}
use Rattle.nearest_roots.proofs.midpoint.Goals as goal

pub float_from_bits-result : goal.float_from_bits-result
float_from_bits-result c = bits_no_nan binary64 _ (omega arith)

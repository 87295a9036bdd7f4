-- `float::infinity` meets its contract: its bits, computed. Assumes nothing.
use Rattle.std.proofs.Common.{refl}
use lib.Ieee.{of_bits}
use Rattle.float.proofs.infinity.Goals as goal

pub returns : goal.returns
unfolding of_bits
returns c = refl

-- `float::unpack32` meets its contract, by the law of proofs/Fields.antt over the width. Assumes nothing.
use Rattle.float.proofs.Fields.{apart, number_no_nan}
use Rattle.float.proofs.Tests.{holds}
use lib.Ieee.Bits.{to_bits-lt}
use lib.Ieee.{binary32}
use Rattle.std.proofs.Common.{arith}
use Rattle.float.proofs.unpack32.Goals as goal

pub float_to_bits-x : goal.float_to_bits-x
float_to_bits-x c = number_no_nan c.args.x c.requires

pub overflow_cast-x : goal.overflow_cast-x
overflow_cast-x c = omega (arith, to_bits-lt binary32 c.args.x (holds c.well_formed.0.1))

pub returns : goal.returns
returns c = apart binary32 c.args.x (holds c.well_formed.0.1) c.requires c.split_bits.ensures

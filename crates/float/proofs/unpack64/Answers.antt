-- `float::unpack64` meets its contract, by the law of proofs/Fields.antt over the width. Assumes nothing.
use Rattle.float.proofs.Fields.{apart, number_no_nan}
use Rattle.float.proofs.Tests.{holds}
use lib.Ieee.{binary64}
use Rattle.float.proofs.unpack64.Goals as goal

pub float_to_bits-x : goal.float_to_bits-x
float_to_bits-x c = number_no_nan c.args.x c.requires

pub returns : goal.returns
returns c = apart binary64 c.args.x (holds c.well_formed.0.1) c.requires c.split_bits.ensures

-- `float::pack64` meets its contract, by the laws of proofs/Pattern.antt over the width. Assumes nothing.
use Rattle.float.proofs.Pattern.{packed, packed_no_nan}
use lib.Ieee.{binary64}
use Rattle.float.proofs.pack64.Goals as goal

pub float_from_bits-result : goal.float_from_bits-result
float_from_bits-result c = rw c.join_bits-bits.ensures (packed_no_nan binary64 c.args.negative _)

pub returns : goal.returns
returns c =
    let a = c.args in
    rw c.join_bits-bits.ensures (packed binary64 a.negative a.q a.k c.requires.q_bound c.requires.fact)

-- `float::pack32` meets its contract, by the laws of proofs/Pattern.antt over the width. Assumes nothing.
use Rattle.float.proofs.Pattern.{packed, packed_no_nan, pattern_lt}
use lib.Ieee.{binary32}
use Rattle.std.proofs.Common.{lit<}
use Rattle.float.proofs.pack32.Goals as goal

pub overflow_cast-result : goal.overflow_cast-result
overflow_cast-result c = record { fits = rw c.join_bits-bits.ensures (pattern_lt c.args.negative _ 0x7f80_0000 0x8000_0000 (lit< tt)) }

pub float_from_bits-result : goal.float_from_bits-result
float_from_bits-result c = rw c.join_bits-bits.ensures (packed_no_nan binary32 c.args.negative _)

pub returns : goal.returns
returns c =
    let a = c.args in
    rw c.join_bits-bits.ensures (packed binary32 a.negative a.q a.k c.requires.q_bound c.requires.fact)

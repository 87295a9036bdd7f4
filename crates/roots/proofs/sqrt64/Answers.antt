-- `roots::sqrt64` meets its contract, by the laws of proofs/Rooting.antt. Assumes nothing.
use Rattle.roots.proofs.Rooting.{at_top, above, at_zero, no_root}
use lib.Ieee.{binary64, of_bits}
use Rattle.roots.proofs.sqrt64.Goals as goal

pub returns-then-x-2 : goal.returns-then-x-2
unfolding of_bits
returns-then-x-2 c = at_top binary64 c.args.x c.if-x-2.true

pub root64-requires : goal.root64-requires
unfolding of_bits
root64-requires c = above c.args.x c.if-x.true c.if-x-2.false

pub returns-then-x-3 : goal.returns-then-x-3
unfolding of_bits
returns-then-x-3 c = at_zero binary64 c.args.x c.if-x-3.true

pub returns : goal.returns
unfolding of_bits
returns c = no_root binary64 c.args.x c.if-x.false c.if-x-3.false

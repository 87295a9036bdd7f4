-- `float::steep` meets its contract. Assumes nothing.
use Rattle.float.specs.Arctan.{steep_of}
use Rattle.float.proofs.steep.Goals as goal

pub returns-then-ax-ay : goal.returns-then-ax-ay
unfolding steep_of
returns-then-ax-ay c = rw c.if-ax-ay.true

pub returns : goal.returns
unfolding steep_of
returns c = rw c.if-ax-ay.false

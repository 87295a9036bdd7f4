-- `float::under` meets its contract. Assumes nothing.
use Rattle.float.specs.Arctan.{under_of}
use Rattle.float.proofs.under.Goals as goal

pub returns-then-y : goal.returns-then-y
unfolding under_of
returns-then-y c = rw c.if-y.true

pub returns : goal.returns
unfolding under_of
returns c = rw c.if-y.false

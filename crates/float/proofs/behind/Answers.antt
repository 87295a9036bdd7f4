-- `float::behind` meets its contract. Assumes nothing.
use Rattle.float.specs.Arctan.{behind_of}
use Rattle.float.proofs.behind.Goals as goal

pub returns-then-x : goal.returns-then-x
unfolding behind_of
returns-then-x c = rw c.if-x.true

pub returns : goal.returns
unfolding behind_of
returns c = rw c.if-x.false

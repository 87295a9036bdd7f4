-- `edge::push` meets its contract. Assumes nothing.
use Rattle.edge.specs.Edges.{edge_between}
use Rattle.edge.proofs.Pushing.{pushed_none}
use Rattle.edge.proofs.push.Goals as goal

pub returns-then-from-to : goal.returns-then-from-to
unfolding edge_between
returns-then-from-to c = rw c.if-from-to.true pushed_none

pub returns-then-from-to-2 : goal.returns-then-from-to-2
unfolding edge_between
returns-then-from-to-2 c = rw (c.if-from-to.false, c.if-from-to-2.true) c.push_down.ensures

pub returns : goal.returns
unfolding edge_between
returns c = rw (c.if-from-to.false, c.if-from-to-2.false) c.push_down-2.ensures

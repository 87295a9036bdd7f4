-- `active_edges::join` meets its contract: the active edges, and what is left of the row's list. Assumes nothing.
use lib.ListN.{length}
use Rattle.active_edges.specs.Floats.{list_from}
use Rattle.active_edges.proofs.Joining.{JoinAt}
use Rattle.active_edges.proofs.join.Given as goal

abbrev pub invariant-loop-at : goal.invariant-loop-at
invariant-loop-at l = JoinAt l.initial.floats l.l l.kept l.row l.floats l.n l.at

abbrev pub decreases-loop-at : goal.decreases-loop-at
decreases-loop-at l = length (list_from l.initial.floats l.l l.row l.at)

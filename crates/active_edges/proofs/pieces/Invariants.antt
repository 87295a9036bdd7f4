-- `active_edges::pieces` meets its contract: the active edges, one more at a time. Assumes nothing.
use Rattle.active_edges.proofs.RowEdges.{PiecesAt}
use Rattle.active_edges.proofs.pieces.Given as goal

abbrev pub invariant-loop-i : goal.invariant-loop-i
invariant-loop-i l =
    PiecesAt l.initial.floats l.initial.touched l.l l.n l.height l.top l.bottom l.floats l.touched l.kept l.i

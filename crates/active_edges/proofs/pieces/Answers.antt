-- `active_edges::pieces` meets its contract: the active edges, one more at a time. Assumes nothing.
use Rattle.active_edges.proofs.RowEdges.{row_start, row_turn, row_done}
use Rattle.active_edges.proofs.pieces.Goals as goal

pub loop-i-init : goal.loop-i-init
loop-i-init c = row_start c.requires

pub loop-i-preserved : goal.loop-i-preserved
loop-i-preserved c =
    row_turn c.requires c.loop-i.invariant c.loop-i-test.true c.load-e.ensures
    c.piece.auto.cells c.piece.auto.touched c.piece.ensures.cells_after c.piece.ensures.ready c.keep-kept.ensures

pub returns : goal.returns
returns c =
    let done = row_done c.requires c.loop-i.invariant c.loop-i-test.false in
    record { pieces = done.0; active_row = done.1 }

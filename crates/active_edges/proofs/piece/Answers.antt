-- `active_edges::piece` meets its contract. Assumes nothing.
use Rattle.active_edges.proofs.RowEdges.{piece_is}
use Rattle.active_edges.proofs.piece.Goals as goal

pub returns : goal.returns
returns c =
    let args = c.args in
    record {
      cells_after = piece_is args.height args.top args.bottom args.cells.now args.e
          c.max-y.ensures c.min.ensures c.min-next.ensures
          c.at.ensures c.at-2.ensures c.span.ensures.cells_after;
      ready = c.span.ensures.ready;
    }

-- `accumulation::add` meets its contract: one cell changes, and it is marked. Assumes nothing.
use lib.ListN.{length-set}
use Rattle.accumulation.proofs.Marks.{ready_marked}
use Rattle.accumulation.proofs.Adding.{add_in, add_none, add_out, set_apart}
use Rattle.accumulation.proofs.add.Goals as goal
use Rattle.accumulation.proofs.add.Goals.{else-cell-cells-via-then-cell-cells+else-area, else-cell-cells-via-else-cell-cells}

pub returns-then-area : goal.returns-then-area
returns-then-area c =
    let args = c.args in
    record {
      cells_after = add_in args.cells.now args.cell args.area c.if-cell-cells.true c.if-area.true;
      ready = ready_marked c.requires c.mark.ensures (length-set args.cells.now args.cell _) (set_apart args.cells.now args.cell _);
    }

pub returns-else-cell-cells : goal.returns-else-cell-cells
returns-else-cell-cells c =
    let args = c.args in
    record {
      cells_after = elim c.else-cell-cells.branch [
        | else-cell-cells-via-then-cell-cells+else-area w ↦ add_none args.cells.now args.cell args.area w.if-area.false
        | else-cell-cells-via-else-cell-cells w ↦ add_out args.cells.now args.cell args.area w.if-cell-cells.false
      ];
      ready = c.requires;
    }

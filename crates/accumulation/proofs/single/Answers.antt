-- `accumulation::single` meets its contract: two cells, one after the other. Assumes nothing.
use Rattle.accumulation.proofs.Adding.{single_is}
use Rattle.accumulation.proofs.single.Goals as goal

pub returns : goal.returns
returns c =
    let a = c.args in
    record {
      cells_after = single_is a.cells.now a.cell a.middle a.area c.add.ensures.cells_after c.add-2.ensures.cells_after;
      ready_2 = c.add-2.ensures.ready;
    }

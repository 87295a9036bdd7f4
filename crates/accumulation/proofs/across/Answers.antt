-- `accumulation::across` meets its contract. Assumes nothing.
use Rattle.accumulation.proofs.Adding.{across_is}
use Rattle.accumulation.proofs.across.Goals as goal

pub returns : goal.returns
returns c =
    let a = c.args in
    record {
      cells_after = across_is a.cells.now a.lo a.hi a.cell a.last a.area c.from_whole.ensures c.from_whole-2.ensures
          c.add.ensures.cells_after c.between.ensures.cells_after c.add-2.ensures.cells_after;
      ready_2 = c.add-2.ensures.ready;
    }

-- `sweep::sweep_word` meets its contract: before each bit the state of proofs/Words.antt. Assumes nothing.
use Rattle.sweep.proofs.Lowest.{positive}
use Rattle.sweep.proofs.Words.{word_past, word_blank, word_turn}
use Rattle.sweep.proofs.sweep_word.Goals as goal

pub returns-then-cells-cell : goal.returns-then-cells-cell
returns-then-cells-cell c =
    let inv = c.loop-bits.invariant in
    record {
      moved = inv.moved;
      word_done = word_past inv (positive c.loop-bits-test.true) c.if-cells-cell.true;
    }

pub sweep_cell-run-requires : goal.sweep_cell-run-requires
sweep_cell-run-requires c =
    let inv = c.loop-bits.invariant in
    let blank = word_blank inv (positive c.loop-bits-test.true) in
    record {
      reached = inv.moved.reached;
      from_le_cell = (inv.ahead, c.if-cells-cell.false, blank);
    }

pub loop-bits-preserved : goal.loop-bits-preserved
loop-bits-preserved c =
    word_turn c.loop-bits.invariant (positive c.loop-bits-test.true) c.if-cells-cell.false
    c.sweep_cell-run.auto.line c.sweep_cell-run.ensures.moved c.sweep_cell-run.ensures.from_value.0 c.sweep_cell-run.ensures.from_value.1

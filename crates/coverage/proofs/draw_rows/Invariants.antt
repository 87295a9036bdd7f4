-- `coverage::draw_rows` meets its contract: before each row the state of proofs/AllRows.antt, and the ink kept. Assumes nothing.
use Rattle.ink.specs.Grown.{InkKept}
use Rattle.coverage.specs.Resolving.{size_of}
use Rattle.coverage.proofs.AllRows.{AtRow}
use Rattle.coverage.proofs.draw_rows.Given as goal

abbrev pub invariant-loop-row : goal.invariant-loop-row
invariant-loop-row l =
    AtRow l.initial.mask l.initial.floats l.initial.counters l.l l.height l.even_odd l.words l.mask l.floats l.counters l.from l.kept l.row × InkKept (size_of l.l l.height) l.mask l.ink

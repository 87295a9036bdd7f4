-- `laying::lay` meets its contract: what is left to do is done as before, row by row, and both masks' row starts are
-- kept. Assumes nothing.
use Rattle.cells.proofs.Rows.{ChangedTo}
use Rattle.laying.specs.Lines.{row_of}
use Rattle.laying.proofs.Starts.{Kept}
use Rattle.laying.proofs.lay.Given as goal

abbrev pub invariant-loop-row : goal.invariant-loop-row
invariant-loop-row l =
    ChangedTo (row_of l.x l.y l.other_size l.other) l.width l.height l.initial.mask l.mask l.from l.row
    × Kept l.width l.other_size.width l.initial.other_from l.row l.from l.other_from

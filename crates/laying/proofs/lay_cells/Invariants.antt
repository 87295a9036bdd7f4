-- `laying::lay_cells` meets its contract: what is left to do is done as before. Assumes nothing.
use mathlib.Core.Path.{◌≡◌}
use Rattle.laying.specs.Lines.{under_of}
use Rattle.laying.proofs.Cells.{laid}
use Rattle.laying.proofs.lay_cells.Given as goal

abbrev pub invariant-loop-i : goal.invariant-loop-i
invariant-loop-i l = under_of l.initial.cells l.others ≡ laid l.i l.cells l.others

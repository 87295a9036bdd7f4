-- `accumulation::raise` meets its contract: the cells are mapped from the front. Assumes nothing.
use lib.Ieee.{Float}
use Rattle.float.specs.Ops.{◌⊕◌}
use Rattle.accumulation.proofs.Mapped.{MappedTo}
use Rattle.accumulation.proofs.raise.Given as goal

abbrev pub invariant-loop-cell : goal.invariant-loop-cell
invariant-loop-cell l = MappedTo (λ (x : Float). x ⊕ l.area) l.initial.cells l.cells l.cell-index

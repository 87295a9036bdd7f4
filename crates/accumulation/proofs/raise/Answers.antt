-- `accumulation::raise` meets its contract: the cells are mapped from the front. Assumes nothing.
use mathlib.Core.Path.{refl}
use native.Mathlib.Omega.{arith}
use lib.Ieee.{nan}
use Rattle.accumulation.proofs.Mapped.{map_start, map_turn, map_done}
use Rattle.accumulation.proofs.raise.Goals as goal

pub loop-cell-init : goal.loop-cell-init
loop-cell-init c = map_start

pub loop-cell-preserved : goal.loop-cell-preserved
loop-cell-preserved c = map_turn c.loop-cell.invariant (omega arith) nan refl

pub returns : goal.returns
returns c = map_done c.loop-cell.invariant (omega arith)

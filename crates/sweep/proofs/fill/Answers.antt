-- `sweep::fill` meets its contract. Assumes nothing.
use mathlib.Core.Path.{◌∙◌}
use native.Mathlib.Omega.{arith}
use Rattle.accumulation.proofs.Mapped.{map_start, map_turn, map_done}
use Rattle.sweep.proofs.Runs.{full}
use Rattle.sweep.proofs.fill.Goals as goal

pub returns-then-by-eq255 : goal.returns-then-by-eq255
returns-then-by-eq255 c = rw c.if-by-eq255.true (c.fill.ensures.after (λ y e. e) ∙ full c.args.line.now)

pub loop-byte-init : goal.loop-byte-init
loop-byte-init c = map_start

pub loop-byte-preserved : goal.loop-byte-preserved
loop-byte-preserved c = map_turn c.loop-byte.invariant (omega arith) 0 c.saturating_add.ensures

pub returns : goal.returns
returns c = map_done c.loop-byte.invariant (omega arith)

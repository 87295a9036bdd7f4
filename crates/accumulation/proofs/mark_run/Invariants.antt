-- `accumulation::mark_run` meets its contract: what was marked so far, and one word more. Assumes nothing.
use mathlib.Core.Path.{◌≡◌}
use Prim.Native.Nat.{◌-◌}
use lib.ListN.{length}
use Rattle.accumulation.specs.Marks.{Marked}
use Rattle.accumulation.proofs.mark_run.Given as goal

abbrev pub invariant-loop-at : goal.invariant-loop-at
invariant-loop-at l = (length l.touched ≡ length l.initial.touched) × Marked l.initial.touched l.touched l.from l.at

abbrev pub decreases-loop-at : goal.decreases-loop-at
decreases-loop-at l = l.to - l.at

-- `accumulation::mark_run` meets its contract: what was marked so far, and one word more. Assumes nothing.
use mathlib.Core.Path.{◌≡◌, ◌∙◌, subst}
use Prim.Native.Nat.{◌+◌, ◌-◌}
use native.Mathlib.Omega.{arith}
use Rattle.accumulation.specs.Marks.{Marked}
use Rattle.accumulation.proofs.Marks.{marked_more}
use Rattle.accumulation.proofs.mark_run.Goals as goal

pub loop-at-preserved : goal.loop-at-preserved
loop-at-preserved c =
    let e : c.loop-at.at + (c.min-end.result - c.loop-at.at) ≡ c.min-end.result = omega arith in
    (c.mark.auto.touched ∙ c.loop-at.invariant.0, marked_more c.loop-at.invariant.1 (subst (Marked c.loop-at.touched c.mark.new.touched c.loop-at.at) e c.mark.ensures))

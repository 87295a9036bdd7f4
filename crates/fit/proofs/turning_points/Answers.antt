-- `fit::turning_points` meets its contract: the turning points passed so far are stored. Assumes nothing.
use mathlib.Core.Path.{sym, ◌∙◌}
use native.Mathlib.Omega.{arith}
use Rattle.fit.proofs.Turning.{corner_none, corner_here, corner_past, corner_not}
use Rattle.fit.proofs.turning_points.Goals as goal
use Rattle.fit.proofs.turning_points.Goals.{then-turns_at, then-m-lt4, else-m-lt4, else-turns_at}

pub loop-i-init : goal.loop-i-init
loop-i-init c = corner_none (omega arith)

pub loop-i-preserved : goal.loop-i-preserved
loop-i-preserved c =
    let s = c.loop-i.invariant in
    let more = c.loop-i-test.true in
    elim c.if-turns_at.branch [
      | then-turns_at w ↦
          let turns = sym c.turns_at.ensures ∙ w.if-turns_at.true in
          elim w.if-m-lt4.branch [
            | then-m-lt4 v ↦ rw (w.corners-is, w.m-is, v.corners-is) (corner_here s more turns v.if-m-lt4.true _)
            | else-m-lt4 v ↦ rw (w.corners-is, w.m-is, v.corners-is) (corner_past s more turns v.if-m-lt4.false)
          ]
      | else-turns_at w ↦ rw (w.corners-is, w.m-is) (corner_not s more (sym c.turns_at.ensures ∙ w.if-turns_at.false))
    ]

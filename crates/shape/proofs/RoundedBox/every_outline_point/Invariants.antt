-- `shape::RoundedBox::every_outline_point` meets its contract: every point passed so far passes. Assumes nothing.
use Rattle.std.proofs.Common.{Bool}
use Rattle.geometry.specs.declared.Position.{Position}
use Rattle.shape.specs.Outline.{outline_point_of, TellsPoint}
use Rattle.shape.proofs.All.{Passed}
use Rattle.shape.proofs.RoundedBox.every_outline_point.Given as goal

abbrev pub invariant-loop-i : goal.invariant-loop-i
invariant-loop-i g l = (test : Position → Bool) → TellsPoint (goal.F-post g l.passes) test → Passed (λ j. test (outline_point_of l.self j)) 36 l.i

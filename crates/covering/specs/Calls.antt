-- The public calls: document 01's refusals in its order, then what shape.rs answers. Definitions only.
use Rattle.std.specs.Prelude.{Float, Option, Result, Bool}
use Rattle.fault.specs.declared.Fault.{Fault}
use Rattle.fault.specs.Check.{Check, answer_unless, ◌and_then◌}
use Rattle.geometry.specs.declared.Position.{Position}
use Rattle.shape.specs.declared.RoundedBox.{RoundedBox}
use Rattle.shape.specs.Checks.{box_check_of, fringe_check_of, point_check_of}
use Rattle.covering.specs.Coverage.{coverage_of}
use Rattle.covering.specs.Touches.{touches_of}
use Rattle.clip_coverage.specs.declared.ClipCoverage.{ClipCoverage}

-- ---- the calls. Document 01: 'per box 1, 2, first box before second, then 1 for a lone frame, fringe and point'

-- a box, then a fringe
abbrev pub coverage_check_of : RoundedBox → Float → Check
coverage_check_of b fringe = box_check_of b and_then fringe_check_of fringe

abbrev pub coverage_call : RoundedBox → Float → Result (Option ClipCoverage) Fault
coverage_call b fringe = answer_unless (coverage_check_of b fringe) (coverage_of b fringe)

-- Document 01, 'Touch', for one box
abbrev pub touches_call : RoundedBox → Float → Position → Result Bool Fault
touches_call b fringe p = answer_unless (coverage_check_of b fringe and_then point_check_of p) (touches_of b fringe p)

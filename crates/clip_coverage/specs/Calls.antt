-- The public calls: document 01's refusals, then what shape.rs answers. Definitions only.
use Rattle.std.specs.Prelude.{Float, Result, Bool}
use Rattle.fault.specs.declared.Fault.{Fault}
use Rattle.fault.specs.Check.{Check, answer_unless}
use Rattle.geometry.specs.declared.Position.{Position}
use Rattle.shape.specs.declared.RoundedBox.{RoundedBox}
use Rattle.shape.specs.Checks.{box_check_of, point_check_of}
use Rattle.clip_coverage.specs.declared.ClipCoverage.{ClipCoverage}
use Rattle.clip_coverage.specs.Distance.{distance_of, contains_of}

-- ---- the calls. Document 01: 'A coverage handed in may hold any floats and is never refused'

abbrev pub distance_call : ClipCoverage → Position → Result Float Fault
distance_call k p = answer_unless (point_check_of p) (distance_of k p)

abbrev pub contains_call : ClipCoverage → RoundedBox → Result Bool Fault
contains_call k b = answer_unless (box_check_of b) (contains_of k b)

-- Document 01, 'Touch', at one box, as document 02, change 2, has it: 'a box holds a touch when its distance is at most
-- 0.5, the same allowance that `contains` has', and its coverage exists. Definitions only.
use Rattle.std.specs.Prelude.{Bool, false, Float, Option, Some, None}
use Rattle.geometry.specs.declared.Position.{Position}
use Rattle.shape.specs.declared.RoundedBox.{RoundedBox}
use Rattle.clip_coverage.specs.Distance.{holds_point_of}
use Rattle.covering.specs.Coverage.{coverage_of}
use Rattle.clip_coverage.specs.declared.ClipCoverage.{ClipCoverage}

abbrev pub touches_by : Option ClipCoverage → Position → Bool
touches_by (Some k) p = holds_point_of k p
touches_by None p = false

unfoldable pub touches_of : RoundedBox → Float → Position → Bool
touches_of b fringe p = touches_by (coverage_of b fringe) p

-- The touch of one box read from the documents' words, and held to the rule that it replaced. Proved in
-- proofs/Laws.antt.
use Rattle.std.specs.Prelude.{◌≡◌, Bool, true, false, Float, Option, Some, None}
use Rattle.std.specs.Float.Ieee.{le}
use Rattle.float.specs.Ops.{f0, f½}
use Rattle.geometry.specs.declared.Position.{Position}
use Rattle.shape.specs.declared.RoundedBox.{RoundedBox}
use Rattle.shape.specs.Outline.{outline_point_of, all_below}
use Rattle.clip_coverage.specs.declared.ClipCoverage.{ClipCoverage}
use Rattle.clip_coverage.specs.Distance.{distance_of, contains_of}
use Rattle.covering.specs.Coverage.{coverage_of}
use Rattle.covering.specs.Touches.{touches_of}

-- Document 01: 'whose coverage exists'; document 02, change 2: 'its distance is at most 0.5'. A NaN is at most
-- nothing
pub record TouchesExactlyWhen : Type 0 where
  pub only : (b : RoundedBox) (fringe : Float) (p : Position) → touches_of b fringe p ≡ true
      → (k : ClipCoverage) × (coverage_of b fringe ≡ Some k) × (le (distance_of k p) f½ ≡ true)
  pub always : (b : RoundedBox) (fringe : Float) (p : Position) (k : ClipCoverage) → coverage_of b fringe ≡ Some k → le (distance_of k p) f½ ≡ true
      → touches_of b fringe p ≡ true

-- 'the same allowance that `contains` has': a box with a coverage contains another exactly when it holds a touch at
-- each of the 36 points of the other's outline
abbrev pub TouchesAsContains : Type 0
TouchesAsContains = (b other : RoundedBox) (fringe : Float) (k : ClipCoverage) → coverage_of b fringe ≡ Some k
    → contains_of k other ≡ all_below (λ i. touches_of b fringe (outline_point_of other i)) 36

-- ---- the rule before change 2: 'a touch must fall on or inside the outline'

-- document 01: 'whose distance at the point is at most 0'
abbrev pub on_or_inside_by : Option ClipCoverage → Position → Bool
on_or_inside_by (Some k) p = le (distance_of k p) f0
on_or_inside_by None p = false

unfoldable pub on_or_inside_of : RoundedBox → Float → Position → Bool
on_or_inside_of b fringe p = on_or_inside_by (coverage_of b fringe) p

-- what was touched before is touched now
abbrev pub StillTouched : Type 0
StillTouched = (b : RoundedBox) (fringe : Float) (p : Position) → on_or_inside_of b fringe p ≡ true → touches_of b fringe p ≡ true

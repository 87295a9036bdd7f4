-- What the code keeps of a contour: what its parts, and the fitter's, promise to each other.
-- No public call's contract cites it. Definitions only.
use Rattle.std.specs.Prelude.{◌≡◌, Bool, true, false, not, ◌||◌, List, ◌∷◌, ℕ, ◌+◌, ◌≤◌, length, take, Option, Some, None}
use Rattle.float.specs.Ops.{f0}
use Rattle.geometry.specs.declared.Position.{Position}
use Rattle.path.specs.declared.Verb.{Verb}
use Rattle.path.specs.declared.Verb.TheVariants as verb
use Rattle.outline.specs.declared.Segment.{Segment}
use Rattle.outline.specs.declared.Segment.TheVariants as segment
use Rattle.outline.specs.declared.Walk.{Walk}
use Rattle.outline.specs.Outline.{most_verbs}
use Rattle.outline.specs.Contour.{Contour, Walked, stopped, reached, line_points_of, all_lines_of}

-- a contour without its segments, but for their number and whether all are lines
unfoldable pub walk_of : Contour → Walk
walk_of k =
    record {
      started = k.started;
      closed = k.closed;
      straight = all_lines_of k.segments;
      start = k.start;
      last = k.last;
      count = length k.segments;
    }

-- `pushed_of` and Verb::Close of what is kept, and `closed || start.is_none()`
unfoldable pub walk_pushed_of : Walk → Position → Bool → Walk
walk_pushed_of w last straight =
    record { started = w.started; closed = w.closed; straight = straight; start = w.start; last = last; count = w.count + 1 }

unfoldable pub walk_closed_of : Walk → Walk
walk_closed_of w = record { started = w.started; closed = true; straight = w.straight; start = w.start; last = w.last; count = w.count }

unfoldable pub shut_of : Walk → Bool
shut_of w = w.closed || not w.started

abbrev pub step_of : Walked → Option Walk
step_of stopped = None
step_of (reached k) = Some (walk_of k)

-- the segment that a verb may add
abbrev pub candidate_of : Verb → Segment
candidate_of (verb.MoveTo x y) = segment.Line x y
candidate_of (verb.LineTo x y) = segment.Line x y
candidate_of (verb.BezierTo a b c d x y) = segment.Cubic a b c d x y
candidate_of verb.Solid = segment.Line f0 f0
candidate_of verb.Hole = segment.Line f0 f0
candidate_of verb.Close = segment.Line f0 f0

-- 1 for a test that passes
abbrev pub count_of : Bool → ℕ
count_of true = 1
count_of false = 0

-- a walk that reached its end: what is kept of the contour, which has begun with one of its verbs; and, as long as all
-- segments are lines, their start and ends behind one another
pub record EndedAt (k : Contour) (r : Option Walk) (kept : List Position) : Type 0 where
  pub stands : r ≡ Some (walk_of k)
  pub few : length k.segments + count_of k.started ≤ most_verbs
  pub points : all_lines_of k.segments ≡ true → take (length k.segments + 1) kept ≡ k.start ∷ line_points_of k.segments

-- where a walk ended
abbrev pub Ended : Walked → Option Walk → List Position → Type 0
Ended stopped r kept = r ≡ None
Ended (reached k) r kept = EndedAt k r kept

-- the segments of a contour, where the walk reached its end
abbrev pub Stored : Walked → List Segment → Type 0
Stored stopped segments = Unit
Stored (reached k) segments = segments ≡ k.segments

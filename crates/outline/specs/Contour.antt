-- shape.rs's `contour`: an outline's single contour as its start and its segments. Definitions only.
use Rattle.std.specs.Prelude.{Bool, true, false, cond, not, ◌&&◌, ◌||◌, List, [], ◌∷◌, ◌++◌, ℕ, ◌+◌, Float, Result, Ok, Err}
use Rattle.std.specs.Float.Ieee.{eq}
use Rattle.float.specs.Ops.{f0}
use Rattle.geometry.specs.declared.Position.{Position}
use Rattle.fault.specs.declared.Fault.{Fault}
use Rattle.path.specs.declared.PackedVerb.{PackedVerb}
use Rattle.path.specs.declared.Verb.{Verb}
use Rattle.path.specs.declared.Verb.TheVariants as verb
use Rattle.path.specs.Verbs.{unpacked_of, from_packed_of}
use Rattle.outline.specs.declared.Segment.{Segment}
use Rattle.outline.specs.declared.Segment.TheVariants as segment
use Rattle.outline.specs.Outline.{floats_of}

-- `contour`'s locals; `start` has no value before the first MoveTo
pub record Contour : Type 0 where
  pub started : Bool
  pub start : Position
  pub last : Position
  pub closed : Bool
  pub segments : List Segment

-- where the walk stands, or the Rust's `return None`
pub data Walked : Type 0 where
  stopped : Walked
  reached : Contour → Walked

abbrev pub origin : Position
origin = record { x = f0; y = f0 }

abbrev pub new_contour : Contour
new_contour = record { started = false; start = origin; last = origin; closed = false; segments = [] }

-- `segments.is_empty()`
abbrev pub empty_of : List Segment → Bool
empty_of [] = true
empty_of (s ∷ ss) = false

-- `==` of two positions, by which -0 equals 0
unfoldable pub same_place_of : Position → Position → Bool
same_place_of p q = eq p.x q.x && eq p.y q.y

-- Verb::MoveTo
unfoldable pub move_of : Contour → Position → Walked
move_of k p =
    cond (empty_of k.segments) (reached (record { started = true; start = p; last = p; closed = k.closed; segments = k.segments })) stopped

-- `segments.push(..)` and `last = ..`
abbrev pub pushed_of : Contour → Segment → Position → Contour
pushed_of k s end = record { started = k.started; start = k.start; last = end; closed = k.closed; segments = k.segments ++ (s ∷ []) }

-- Verb::LineTo and Verb::BezierTo, past their first test. Document 01: 'A LineTo to the last position adds no segment'
abbrev pub line_of : Contour → Position → Walked
line_of k p = cond (same_place_of p k.last) (reached k) (reached (pushed_of k (segment.Line p.x p.y) p))

abbrev pub push_of : Contour → Segment → Walked
push_of k (segment.Line x y) = line_of k (record { x = x; y = y })
push_of k (segment.Cubic a b c d x y) = reached (pushed_of k (segment.Cubic a b c d x y) (record { x = x; y = y }))

-- `if closed || start.is_none() { return None; }`
unfoldable pub draw_of : Contour → Segment → Walked
draw_of k s = cond (k.closed || not k.started) stopped (push_of k s)

-- one verb
abbrev pub contour_step_of : Contour → Verb → Walked
contour_step_of k (verb.MoveTo x y) = move_of k (record { x = x; y = y })
contour_step_of k (verb.LineTo x y) = draw_of k (segment.Line x y)
contour_step_of k (verb.BezierTo a b c d x y) = draw_of k (segment.Cubic a b c d x y)
contour_step_of k verb.Solid = reached k
contour_step_of k verb.Hole = reached k
contour_step_of k verb.Close = reached (record { started = k.started; start = k.start; last = k.last; closed = true; segments = k.segments })

-- the verb of a byte, its positions at place `at`; a byte that is no verb, which the fitter refuses before, ends the
-- walk
abbrev pub byte_step_of : Contour → Result PackedVerb Fault → List Float → ℕ → Walked
byte_step_of k (Ok p) positions at = contour_step_of k (from_packed_of p positions at)
byte_step_of k (Err f) positions at = stopped

-- the verbs in order
unfoldable pub contour_from : Walked → List ℕ → List Float → ℕ → Walked
contour_from k [] positions at = k
contour_from stopped (byte ∷ bytes) positions at = stopped
contour_from (reached k) (byte ∷ bytes) positions at =
    contour_from (byte_step_of k (unpacked_of byte) positions at) bytes positions (at + floats_of byte)

abbrev pub contour_of : List ℕ → List Float → Walked
contour_of verbs positions = contour_from (reached new_contour) verbs positions 0

-- ---- what `parallelogram` asks of the segments

-- the ends of lines
abbrev pub line_points_of : List Segment → List Position
line_points_of [] = []
line_points_of (segment.Line x y ∷ ss) = record { x = x; y = y } ∷ line_points_of ss
line_points_of (segment.Cubic a b c d x y ∷ ss) = line_points_of ss

-- `segments.iter().all(|segment| matches!(segment, Segment::Line(_)))`
abbrev pub all_lines_of : List Segment → Bool
all_lines_of [] = true
all_lines_of (segment.Line x y ∷ ss) = all_lines_of ss
all_lines_of (segment.Cubic a b c d x y ∷ ss) = false

-- What an answer hands over at the C boundary: its number, and the floats that it writes. 'A call is done, or turned
-- away by number.' The numbers of ordinary outcomes: Outcomes.antt. (Of a drawing and a laying-on: `outcome_number` of
-- mask/specs/Calls.antt.) Definitions only.
use Rattle.std.specs.Prelude.{ℕ, Bool, cond, List, [], ◌∷◌, ℤ, drop, Float, Option, Some, None, Result, Ok, Err}
use Rattle.fault.specs.declared.Fault.{Fault}
use Rattle.fault.specs.Number.{number_of}
use Rattle.geometry.specs.declared.Bounds.{Bounds}
use Rattle.shape.specs.declared.RoundedBox.{RoundedBox}
use Rattle.clip_coverage.specs.declared.ClipCoverage.{ClipCoverage}
use Rattle.cells.specs.declared.MaskRecord.{MaskRecord}
use Rattle.rounded.specs.declared.Fitted.{Fitted}
use Rattle.inside.specs.declared.Inside.{Inside}
use Rattle.inside.specs.declared.Inside.TheVariants as insides
use Rattle.fill.specs.declared.RectFill.{RectFill}
use Rattle.fill.specs.declared.RectFill.TheVariants as fill
use Rattle.lent_floats.specs.Lent.{box_floats, coverage_floats, bounds_floats, outline_floats, cut_outline_floats, over}
use Rattle.boundary.specs.Outcomes.{Ordinary, ordinary_number, done, none, yes, no, no_frame, shared, covered, cut, counted}

pub record Handed : Type 0 where
  pub number : ℕ
  pub floats : List Float

-- an outcome with floats, which are written; done, with floats
abbrev pub written_as : Ordinary → List Float → Handed
written_as o floats = record { number = ordinary_number o; floats = floats }

abbrev pub written : List Float → Handed
written floats = written_as done floats

-- an outcome without floats
abbrev pub plain : Ordinary → Handed
plain o = record { number = ordinary_number o; floats = [] }

-- turned away: 'Left as it was: all lent'
abbrev pub turned_away : Fault → Handed
turned_away f = record { number = number_of f; floats = [] }

-- what is lent for an answer, afterwards
abbrev pub after : Handed → List Float → List Float
after h lent = over h.floats lent

-- ---- each kind of answer

-- an answer that may be nothing, and one that may be turned away
abbrev pub optional : {A : Type 0} → (A → Handed) → Option A → Handed
optional handed (Some a) = handed a
optional handed None = plain none

abbrev pub unless_refused : {A : Type 0} → (A → Handed) → Result A Fault → Handed
unless_refused handed (Ok a) = handed a
unless_refused handed (Err f) = turned_away f

abbrev pub whole_box : RoundedBox → Handed
whole_box b = written (box_floats b)

abbrev pub whole_box_handed : Result RoundedBox Fault → Handed
whole_box_handed = unless_refused whole_box

abbrev pub box_handed : Result (Option RoundedBox) Fault → Handed
box_handed = unless_refused (optional whole_box)

abbrev pub whole_coverage : ClipCoverage → Handed
whole_coverage k = written (coverage_floats k)

abbrev pub coverage_handed : Result (Option ClipCoverage) Fault → Handed
coverage_handed = unless_refused (optional whole_coverage)

abbrev pub whole_bounds : Bounds → Handed
whole_bounds b = written (bounds_floats b)

abbrev pub bounds_handed : Result Bounds Fault → Handed
bounds_handed = unless_refused whole_bounds

abbrev pub whole_distance : Float → Handed
whole_distance x = written (x ∷ [])

abbrev pub distance_handed : Result Float Fault → Handed
distance_handed = unless_refused whole_distance

-- a box and its coverage, written apart
abbrev pub both_box_handed : Result (Option (RoundedBox × ClipCoverage)) Fault → Handed
both_box_handed (Ok (Some (b, k))) = written (box_floats b)
both_box_handed (Ok None) = plain none
both_box_handed (Err f) = turned_away f

abbrev pub both_coverage_handed : Result (Option (RoundedBox × ClipCoverage)) Fault → Handed
both_coverage_handed (Ok (Some (b, k))) = written (coverage_floats k)
both_coverage_handed (Ok None) = plain none
both_coverage_handed (Err f) = turned_away f

-- 'a shared box or a covered one, both carrying the box'
abbrev pub rect_fill_handed : RectFill → Handed
rect_fill_handed (fill.Shared b) = written_as shared (box_floats b)
rect_fill_handed (fill.Covered b) = written_as covered (box_floats b)

abbrev pub fill_handed : Result (Option RectFill) Fault → Handed
fill_handed = unless_refused (optional rect_fill_handed)

-- 'a box, its strays, and the cut box where one side is square'
abbrev pub whole_outline : RoundedBox × Float → Handed
whole_outline (b, strays) = written (outline_floats b strays)

abbrev pub outline_handed : Result (Option (RoundedBox × Float)) Fault → Handed
outline_handed = unless_refused (optional whole_outline)

abbrev pub cut_by : RoundedBox → Float → Option RoundedBox → Handed
cut_by b strays (Some by) = written_as cut (cut_outline_floats b strays by)
cut_by b strays None = written (outline_floats b strays)

abbrev pub whole_cut : Fitted → Handed
whole_cut f = cut_by f.shape f.strays f.cut

abbrev pub cut_handed : Result (Option Fitted) Fault → Handed
cut_handed = unless_refused (optional whole_cut)

-- a coverage of one everywhere has no bounds
abbrev pub reach_handed : Option Bounds → Handed
reach_handed = optional whole_bounds

-- answers without floats

abbrev pub test_number : Result Bool Fault → ℕ
test_number (Ok found) = cond found (ordinary_number yes) (ordinary_number no)
test_number (Err f) = number_of f

-- the place, 'a 16-bit number' (document 02, change 7), 'counted from 0', or "no frame"
abbrev pub touch_number : Result (Option ℕ) Fault → ℕ
touch_number (Ok (Some k)) = ordinary_number (counted k)
touch_number (Ok None) = ordinary_number no_frame
touch_number (Err f) = number_of f

-- yes for all inside, the lowest place outside, or "no box" (document 02, change 10)
abbrev pub inside_number : Result (Option Inside) Fault → ℕ
inside_number (Ok (Some insides.All)) = ordinary_number yes
inside_number (Ok (Some (insides.Outside k))) = ordinary_number (counted k)
inside_number (Ok None) = ordinary_number none
inside_number (Err f) = number_of f

-- ---- files (document 02, changes 4 and 8)

-- 'The writer returns the file's length'
abbrev pub write_number : Result ℕ Fault → ℕ
write_number (Ok n) = ordinary_number (counted n)
write_number (Err f) = number_of f

abbrev pub read_number : Result MaskRecord Fault → ℕ
read_number (Ok r) = ordinary_number done
read_number (Err f) = number_of f

-- what is lent for the record of a mask that is read, afterwards: for its size, its width, its height, and what was past
-- them
abbrev pub size_after : Result MaskRecord Fault → List ℕ → List ℕ
size_after (Ok r) lent = r.size.width ∷ r.size.height ∷ drop 2 lent
size_after (Err f) lent = lent

-- and for its corner (change 8), x, y, and what was past them
abbrev pub corner_after : Result MaskRecord Fault → List ℤ → List ℤ
corner_after (Ok r) lent = r.corner.x ∷ r.corner.y ∷ drop 2 lent
corner_after (Err f) lent = lent

-- The box calls on lent slices, outright: what each answers, from what is lent to it. What an answer hands over, its
-- number and its floats: boundary/specs/Answers.antt. Definitions only.
use Rattle.std.specs.Prelude.{Bool, cond, List, ltb, Float, length, Option, Result, Err}
use Rattle.fault.specs.declared.Fault.TheVariants.{BufferTooShort}
use Rattle.shape.specs.Calls.{transformed_call, bounds_call}
use Rattle.clip_coverage.specs.Calls.{distance_call, contains_call}
use Rattle.covering.specs.Calls.{coverage_call}
use Rattle.beside.specs.Calls.{parallel_call}
use Rattle.sides.specs.Calls.{rect_intersection_call}
use Rattle.overlap.specs.Calls.{intersection_call}
use Rattle.inside.specs.Inside.{inside_call}
use Rattle.shape.specs.declared.RoundedBox.{RoundedBox}
use Rattle.fault.specs.declared.Fault.{Fault}
use Rattle.lent_floats.specs.Lent.{frame_in, box_in, coverage_in}
use Rattle.clip_coverage.specs.declared.ClipCoverage.{ClipCoverage}
use Rattle.geometry.specs.declared.Bounds.{Bounds}
use Rattle.inside.specs.declared.Inside.{Inside}

-- Where fewer are lent than a box, a frame, a coverage or an answer takes, number 4,
-- before all else

abbrev pub transformed_lent : List Float → List Float → List Float → Result RoundedBox Fault
transformed_lent b frame out =
    cond (ltb (length b) 10) (Err BufferTooShort)
    (cond (ltb (length frame) 6) (Err BufferTooShort)
    (cond (ltb (length out) 10) (Err BufferTooShort) (transformed_call (box_in b) (frame_in frame))))

abbrev pub intersection_lent : List Float → List Float → Float → List Float → Result (Option RoundedBox) Fault
intersection_lent one two fringe out =
    cond (ltb (length one) 10) (Err BufferTooShort)
    (cond (ltb (length two) 10) (Err BufferTooShort)
    (cond (ltb (length out) 10) (Err BufferTooShort) (intersection_call (box_in one) (box_in two) fringe)))

abbrev pub rect_intersection_lent : List Float → List Float → List Float → Result (Option RoundedBox) Fault
rect_intersection_lent one two out =
    cond (ltb (length one) 10) (Err BufferTooShort)
    (cond (ltb (length two) 10) (Err BufferTooShort)
    (cond (ltb (length out) 10) (Err BufferTooShort) (rect_intersection_call (box_in one) (box_in two))))

abbrev pub coverage_lent : List Float → Float → List Float → Result (Option ClipCoverage) Fault
coverage_lent b fringe out =
    cond (ltb (length b) 10) (Err BufferTooShort)
    (cond (ltb (length out) 11) (Err BufferTooShort) (coverage_call (box_in b) fringe))

abbrev pub bounds_lent : List Float → List Float → Result Bounds Fault
bounds_lent b out =
    cond (ltb (length b) 10) (Err BufferTooShort) (cond (ltb (length out) 4) (Err BufferTooShort) (bounds_call (box_in b)))

abbrev pub distance_lent : List Float → Float → Float → List Float → Result Float Fault
distance_lent k x y out =
    cond (ltb (length k) 11) (Err BufferTooShort)
    (cond (ltb (length out) 1) (Err BufferTooShort) (distance_call (coverage_in k) (record { x = x; y = y })))

abbrev pub parallel_lent : List Float → List Float → Result Bool Fault
parallel_lent one two =
    cond (ltb (length one) 10) (Err BufferTooShort)
    (cond (ltb (length two) 10) (Err BufferTooShort) (parallel_call (box_in one) (box_in two)))

abbrev pub contains_lent : List Float → List Float → Result Bool Fault
contains_lent k b =
    cond (ltb (length k) 11) (Err BufferTooShort)
    (cond (ltb (length b) 10) (Err BufferTooShort) (contains_call (coverage_in k) (box_in b)))

-- of a list and a safe area (document 02, change 10) the area is lent so; the list is lent as boxes
abbrev pub inside_lent : List RoundedBox → List Float → Float → Result (Option Inside) Fault
inside_lent bs safe fringe = cond (ltb (length safe) 10) (Err BufferTooShort) (inside_call bs (box_in safe) fringe)

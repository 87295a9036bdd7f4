-- The calls on scissors, fills and device bounds on lent slices, outright: what each answers, from what is lent to it.
-- What an answer hands over, its number and its floats: boundary/specs/Answers.antt. Definitions only.
use Rattle.std.specs.Prelude.{ℕ, Bool, cond, List, ltb, Float, length, Option, Result, Ok, Err}
use Rattle.fault.specs.declared.Fault.TheVariants.{BufferTooShort}
use Rattle.scissor.specs.Calls.{with_scissor_call, trimmed_scissor_call}
use Rattle.fill.specs.Calls.{rect_fill_call}
use Rattle.upright_rect.specs.Calls.{upright_rect_call}
use Rattle.device_bounds.specs.Reach.{reach_of}
use Rattle.device_bounds.specs.Holds.{holds_of}
use Rattle.lent_floats.specs.Lent.{frame_in, box_in, coverage_in, bounds_in}
use Rattle.fault.specs.declared.Fault.{Fault}
use Rattle.boundary.specs.Answers.{Handed, turned_away, reach_handed}
use Rattle.shape.specs.declared.RoundedBox.{RoundedBox}
use Rattle.clip_coverage.specs.declared.ClipCoverage.{ClipCoverage}
use Rattle.fill.specs.declared.RectFill.{RectFill}

-- Where fewer are lent than a box, a frame, a coverage, bounds or an answer takes, number 4, before all else

-- ten floats are lent for the box and eleven for its coverage
abbrev pub with_scissor_lent : List Float → List Float → Float → List Float → List Float → Result (Option (RoundedBox × ClipCoverage)) Fault
with_scissor_lent clip s fringe out coverage =
    cond (ltb (length clip) 10) (Err BufferTooShort)
    (cond (ltb (length s) 10) (Err BufferTooShort)
    (cond (ltb (length out) 10) (Err BufferTooShort)
    (cond (ltb (length coverage) 11) (Err BufferTooShort) (with_scissor_call (box_in clip) (box_in s) fringe))))

abbrev pub trimmed_scissor_lent : List Float → List Float → Float → List Float → Result (Option RoundedBox) Fault
trimmed_scissor_lent clip s fringe out =
    cond (ltb (length clip) 10) (Err BufferTooShort)
    (cond (ltb (length s) 10) (Err BufferTooShort)
    (cond (ltb (length out) 10) (Err BufferTooShort) (trimmed_scissor_call (box_in clip) (box_in s) fringe)))

abbrev pub rect_fill_lent : List Float → List Float → Float → List Float → Result (Option RectFill) Fault
rect_fill_lent clip fill fringe out =
    cond (ltb (length clip) 10) (Err BufferTooShort)
    (cond (ltb (length fill) 10) (Err BufferTooShort)
    (cond (ltb (length out) 10) (Err BufferTooShort) (rect_fill_call (box_in clip) (box_in fill) fringe)))

abbrev pub upright_rect_lent : List ℕ → List Float → List Float → List Float → Result (Option RoundedBox) Fault
upright_rect_lent verbs positions frame out =
    cond (ltb (length frame) 6) (Err BufferTooShort)
    (cond (ltb (length out) 10) (Err BufferTooShort) (upright_rect_call verbs positions (frame_in frame)))

-- `reach` and `holds` refuse nothing besides
abbrev pub reach_lent : List Float → List Float → Handed
reach_lent k out =
    cond (ltb (length k) 11) (turned_away BufferTooShort)
    (cond (ltb (length out) 4) (turned_away BufferTooShort) (reach_handed (reach_of (coverage_in k))))

abbrev pub holds_lent : List Float → List Float → Result Bool Fault
holds_lent k bounds =
    cond (ltb (length k) 11) (Err BufferTooShort)
    (cond (ltb (length bounds) 4) (Err BufferTooShort) (Ok (holds_of (coverage_in k) (bounds_in bounds))))

-- The fitter of document 01, before curves were taken: its definitions as they stood. Document 02, change 5: 'Straight
-- outlines fit as before.' `StraightAsBefore` is proved in proofs/Straight.antt.
use Rattle.std.specs.Prelude.{◌≡◌, cond, List, [], ◌∷◌, ℕ, leb, eqb, length, Float, Option, Some, None, Result, Ok, Err}
use Rattle.float.specs.Ops.{f0}
use Rattle.fault.specs.declared.Fault.{Fault}
use Rattle.fault.specs.declared.Fault.TheVariants as fault
use Rattle.fault.specs.Check.{Check, unless_of, ◌and_then◌, answer_unless}
use Rattle.geometry.specs.declared.Position.{Position}
use Rattle.path.specs.declared.PackedVerb.{PackedVerb}
use Rattle.path.specs.declared.PackedVerb.TheVariants as packed
use Rattle.path.specs.Verbs.{unpacked_of}
use Rattle.shape.specs.declared.RoundedBox.{RoundedBox}
use Rattle.shape.specs.Checks.{numbers_check_of}
use Rattle.outline.specs.declared.Segment.{Segment}
use Rattle.outline.specs.Outline.{floats_needed_of, all_in_range_of, most_verbs}
use Rattle.outline.specs.Contour.{Contour, Walked, stopped, reached, contour_of, empty_of, all_lines_of}
use Rattle.rounded.specs.declared.Fitted.{Fitted}
use Rattle.fit.specs.Fit.{parallelogram_of, closed_of, points_of}
use Rattle.fit.specs.Calls.{fit_call, fit_outline_call, fit_with_cut_call}

-- ---- the refusals. The cause with number 10, 'a curve verb given to the fitter', is gone from the causes: `ten` stands
-- for it here, and may be any

abbrev pub straight_check_of : Fault → PackedVerb → Check
straight_check_of ten packed.MoveTo = Ok tt
straight_check_of ten packed.LineTo = Ok tt
straight_check_of ten packed.BezierTo = Err ten
straight_check_of ten packed.Solid = Ok tt
straight_check_of ten packed.Hole = Ok tt
straight_check_of ten packed.Close = Ok tt

abbrev pub straight_unpacked_check_of : Fault → Result PackedVerb Fault → Check
straight_unpacked_check_of ten (Ok p) = straight_check_of ten p
straight_unpacked_check_of ten (Err f) = Err f

unfoldable pub straight_verb_check_of : Fault → ℕ → Check
straight_verb_check_of ten byte = straight_unpacked_check_of ten (unpacked_of byte)

unfoldable pub straight_verbs_check_of : Fault → List ℕ → Check
straight_verbs_check_of ten [] = Ok tt
straight_verbs_check_of ten (byte ∷ bytes) = straight_verb_check_of ten byte and_then straight_verbs_check_of ten bytes

unfoldable pub straight_outline_check_of : Fault → List ℕ → List Float → Check
straight_outline_check_of ten verbs positions =
    unless_of (leb (length verbs) most_verbs) fault.TooManyVerbs
    and_then straight_verbs_check_of ten verbs
    and_then unless_of (eqb (floats_needed_of verbs) (length positions)) fault.PositionsMismatch
    and_then numbers_check_of (all_in_range_of positions)

-- ---- the box: where there is a curve, none

abbrev pub straight_segments_box_of : Position → List Segment → Option RoundedBox
straight_segments_box_of start segments = cond (all_lines_of segments) (parallelogram_of start (points_of start segments)) None

unfoldable pub straight_contour_box_of : Contour → Option RoundedBox
straight_contour_box_of k =
    cond k.started (cond (empty_of (closed_of k)) None (straight_segments_box_of k.start (closed_of k))) None

abbrev pub straight_walked_box_of : Walked → Option RoundedBox
straight_walked_box_of stopped = None
straight_walked_box_of (reached k) = straight_contour_box_of k

unfoldable pub straight_fit_of : List ℕ → List Float → Option RoundedBox
straight_fit_of verbs positions = straight_walked_box_of (contour_of verbs positions)

-- the public call
abbrev pub straight_fit_call : Fault → List ℕ → List Float → Result (Option RoundedBox) Fault
straight_fit_call ten verbs positions = answer_unless (straight_outline_check_of ten verbs positions) (straight_fit_of verbs positions)

-- ---- as before

-- no verb is a curve, which is 2
abbrev pub WithoutCurve : List ℕ → Type 0
WithoutCurve [] = Unit
WithoutCurve (byte ∷ bytes) = (byte ≡ 2 → ⊥) × WithoutCurve bytes

-- the box of an answer with strays of +0, and no cut
abbrev pub without_strays : Result (Option RoundedBox) Fault → Result (Option (RoundedBox × Float)) Fault
without_strays (Ok (Some b)) = Ok (Some (b, f0))
without_strays (Ok None) = Ok None
without_strays (Err f) = Err f

abbrev pub without_cut : Result (Option RoundedBox) Fault → Result (Option Fitted) Fault
without_cut (Ok (Some b)) = Ok (Some (record { shape = b; strays = f0; cut = None }))
without_cut (Ok None) = Ok None
without_cut (Err f) = Err f

-- each call's answer by that of document 01's fitter, whatever the cause that is gone
pub record StraightAsBefore (ten : Fault) (verbs : List ℕ) (positions : List Float) : Type 0 where
  pub fit : fit_call verbs positions ≡ straight_fit_call ten verbs positions
  pub fit_outline : fit_outline_call verbs positions ≡ without_strays (straight_fit_call ten verbs positions)
  pub fit_with_cut : fit_with_cut_call verbs positions ≡ without_cut (straight_fit_call ten verbs positions)

abbrev pub StraightFits : Type 0
StraightFits = (ten : Fault) (verbs : List ℕ) (positions : List Float) → WithoutCurve verbs → StraightAsBefore ten verbs positions

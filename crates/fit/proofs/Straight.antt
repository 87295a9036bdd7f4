-- Straight outlines fit as before (specs/Straight.antt): no verb is a curve, so no segment is. Assumes nothing.
use mathlib.Core.Path.{◌≡◌, refl, ap, ◌∙◌}
use mathlib.Core.Bool.{Bool, true, false, cond, not, ◌||◌}
use mathlib.Core.List.{List, [], ◌∷◌, ◌++◌}
use Prim.Native.Nat.{ℕ, zero, suc, ◌+◌, ◌≤◌, ◌<◌}
use native.Mathlib.Omega.{arith}
use lib.Dec.{eqb}
use borrow.Author.Tests.{ne_eqb}
use lib.Ieee.{Float}
use Rattle.fault.specs.declared.Fault.{Fault}
use Rattle.fault.specs.declared.Fault.TheVariants.{UnknownVerb}
use Rattle.fault.specs.Check.{Check, answer_unless}
use Rattle.std.specs.Prelude.{Option, Some, None, Ok, Err}
use Rattle.geometry.specs.declared.Position.{Position}
use Rattle.path.specs.Verbs.{unpacked_of}
use Rattle.shape.specs.declared.RoundedBox.{RoundedBox}
use Rattle.outline.specs.declared.Segment.TheVariants as segment
use Rattle.outline.specs.Outline.{verb_check_of, verbs_check_of, outline_check_of, floats_of}
use Rattle.outline.specs.Contour.{Contour, Walked, stopped, reached, empty_of, same_place_of, move_of, draw_of, byte_step_of, contour_from, contour_of, all_lines_of}
use Rattle.outline.proofs.Walking.{lines_and_line}
use Rattle.rounded.specs.declared.Fitted.{Fitted}
use Rattle.fit.specs.Fit.{whole_of, closed_of, segments_fitted_of, contour_fitted_of, walked_fitted_of, fit_with_cut_of, box_alone, fit_of}
use Rattle.fit.specs.Calls.{outline_answer}
use Rattle.fit.specs.Straight.{
  straight_verb_check_of,
  straight_verbs_check_of,
  straight_outline_check_of,
  straight_contour_box_of,
  straight_walked_box_of,
  straight_fit_of,
  WithoutCurve,
  without_strays,
  without_cut,
  StraightFits,
}

-- ---- the refusals

-- a byte above 5 is no verb
above : (byte : ℕ) → 5 < byte → unpacked_of byte ≡ Err UnknownVerb
unfolding unpacked_of
above byte l =
    let not : (n : ℕ) → n ≤ 5 → eqb byte n ≡ false = λ n h. ne_eqb byte n (λ e. omega arith) in
    rw (not 0 (omega arith), not 1 (omega arith), not 2 (omega arith), not 3 (omega arith), not 4 (omega arith), not 5 (omega arith))

verb_as_before : (ten : Fault) (byte : ℕ) → (byte ≡ 2 → ⊥) → verb_check_of byte ≡ straight_verb_check_of ten byte
unfolding verb_check_of straight_verb_check_of unpacked_of
verb_as_before ten zero h = refl
verb_as_before ten (suc zero) h = refl
verb_as_before ten (suc (suc zero)) h = absurd (h refl)
verb_as_before ten (suc (suc (suc zero))) h = refl
verb_as_before ten (suc (suc (suc (suc zero)))) h = refl
verb_as_before ten (suc (suc (suc (suc (suc zero))))) h = refl
verb_as_before ten (suc (suc (suc (suc (suc (suc n)))))) h = rw (above (suc (suc (suc (suc (suc (suc n)))))) (omega arith))

verbs_as_before : (ten : Fault) (verbs : List ℕ) → WithoutCurve verbs → verbs_check_of verbs ≡ straight_verbs_check_of ten verbs
unfolding verbs_check_of straight_verbs_check_of
verbs_as_before ten [] h = refl
verbs_as_before ten (byte ∷ bytes) h = rw (verb_as_before ten byte h.0, verbs_as_before ten bytes h.1)

check_as_before : (ten : Fault) (verbs : List ℕ) (positions : List Float) → WithoutCurve verbs
    → outline_check_of verbs positions ≡ straight_outline_check_of ten verbs positions
unfolding outline_check_of straight_outline_check_of
check_as_before ten verbs positions h = rw (verbs_as_before ten verbs h)

-- ---- all segments are lines

abbrev Lines : Walked → Type 0
Lines stopped = Unit
Lines (reached k) = all_lines_of k.segments ≡ true

lines_if : (b : Bool) (z : Walked) (w : Walked) → Lines z → Lines w → Lines (cond b z w)
lines_if true z w p q = p
lines_if false z w p q = q

move_lines : (k : Contour) (p : Position) → Lines (reached k) → Lines (move_of k p)
unfolding move_of
move_lines k p h = lines_if (empty_of k.segments) _ _ h tt

draw_lines : (k : Contour) (x y : Float) → Lines (reached k) → Lines (draw_of k (segment.Line x y))
unfolding draw_of
draw_lines k x y h =
    lines_if (k.closed || not k.started) _ _ tt
    (lines_if (same_place_of (record { x = x; y = y }) k.last) _ _ h (lines_and_line k.segments x y ∙ h))

-- a verb's byte that is not a curve's
unpacked_lines : (k : Contour) (byte : ℕ) → (byte ≡ 2 → ⊥) → (positions : List Float) (at : ℕ) → Lines (reached k)
    → Lines (byte_step_of k (unpacked_of byte) positions at)
unfolding unpacked_of
unpacked_lines k zero h positions at l = move_lines k _ l
unpacked_lines k (suc zero) h positions at l = draw_lines k _ _ l
unpacked_lines k (suc (suc zero)) h positions at l = absurd (h refl)
unpacked_lines k (suc (suc (suc zero))) h positions at l = l
unpacked_lines k (suc (suc (suc (suc zero)))) h positions at l = l
unpacked_lines k (suc (suc (suc (suc (suc zero))))) h positions at l = l
unpacked_lines k (suc (suc (suc (suc (suc (suc n)))))) h positions at l = rw (above (suc (suc (suc (suc (suc (suc n)))))) (omega arith)) tt

from_lines : (z : Walked) (verbs : List ℕ) (positions : List Float) (at : ℕ) → WithoutCurve verbs → Lines z → Lines (contour_from z verbs positions at)
unfolding contour_from
from_lines z [] positions at h l = l
from_lines stopped (byte ∷ bytes) positions at h l = tt
from_lines (reached k) (byte ∷ bytes) positions at h l =
    from_lines (byte_step_of k (unpacked_of byte) positions at) bytes positions (at + floats_of byte) h.1 (unpacked_lines k byte h.0 positions at l)

-- ---- the box

closed_lines : (k : Contour) → all_lines_of k.segments ≡ true → all_lines_of (closed_of k) ≡ true
closed_lines k h = go (same_place_of k.last k.start)
  where
    go : (b : Bool) → all_lines_of (cond b k.segments (k.segments ++ (segment.Line k.start.x k.start.y ∷ []))) ≡ true
    go true = h
    go false = lines_and_line k.segments k.start.x k.start.y ∙ h

whole_if : (b : Bool) (x y : Option RoundedBox) → cond b (whole_of x) (whole_of y) ≡ whole_of (cond b x y)
whole_if true x y = refl
whole_if false x y = refl

walked_as_before : (z : Walked) → Lines z → walked_fitted_of z ≡ whole_of (straight_walked_box_of z)
unfolding contour_fitted_of straight_contour_box_of segments_fitted_of
walked_as_before stopped h = refl
walked_as_before (reached k) h =
    rw (closed_lines k h)
    (ap (λ (r : Option Fitted). cond k.started r None) (whole_if (empty_of (closed_of k)) None _)
    ∙ whole_if k.started _ None)

fitted_as_before : (verbs : List ℕ) (positions : List Float) → WithoutCurve verbs → fit_with_cut_of verbs positions ≡ whole_of (straight_fit_of verbs positions)
unfolding fit_with_cut_of straight_fit_of
fitted_as_before verbs positions h = walked_as_before (contour_of verbs positions) (from_lines _ verbs positions 0 h refl)

-- ---- the calls

record Answered (c : Check) (b : Option RoundedBox) : Type 0 where
  fit : answer_unless c (box_alone (whole_of b)) ≡ answer_unless c b
  fit_outline : answer_unless c (outline_answer (whole_of b)) ≡ without_strays (answer_unless c b)
  fit_with_cut : answer_unless c (whole_of b) ≡ without_cut (answer_unless c b)

answered : (c : Check) (b : Option RoundedBox) → Answered c b
answered (Ok tt) (Some b) = record { fit = refl; fit_outline = refl; fit_with_cut = refl }
answered (Ok tt) None = record { fit = refl; fit_outline = refl; fit_with_cut = refl }
answered (Err f) b = record { fit = refl; fit_outline = refl; fit_with_cut = refl }

pub straight_fits : StraightFits
unfolding fit_of
straight_fits ten verbs positions h =
    let a = answered (straight_outline_check_of ten verbs positions) (straight_fit_of verbs positions) in
    let check = check_as_before ten verbs positions h in
    let found = fitted_as_before verbs positions h in
    record {
      fit = rw (check, found) a.fit;
      fit_outline = rw (check, found) a.fit_outline;
      fit_with_cut = rw (check, found) a.fit_with_cut;
    }

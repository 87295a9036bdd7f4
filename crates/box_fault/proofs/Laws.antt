-- The calls that document 02's changes 1, 5 and 10 add, `fit` and touch are refused exactly for their first cause
-- (specs/Laws.antt). Assumes nothing.
use mathlib.Core.Path.{◌≡◌}
use mathlib.Core.List.{List}
use Prim.Native.Nat.{ℕ}
use native.Mathlib.Omega.{arith}
use borrow.Author.Tests.{lt-leb}
use lib.Ieee.{Float}
use lib.ListN.{length}
use Rattle.std.specs.Prelude.{Result, Ok, Err}
use Rattle.fault.specs.declared.Fault.{Fault}
use Rattle.fault.specs.Check.{answer_unless}
use Rattle.fault.proofs.Decided.{told, good}
use Rattle.scissor.specs.Scissor.{with_scissor_of, trimmed_scissor_of}
use Rattle.fill.specs.Fill.{rect_fill_of}
use Rattle.outline.specs.Outline.{outline_check_of}
use Rattle.upright_rect.specs.UprightRect.{upright_rect_of}
use Rattle.box_fault.specs.Laws.{OutlineTaken, RefusedExactlyWhen, NoBoxPastEight}
use Rattle.box_fault.proofs.Boxes.{pair_refused, pair_passes, pair_decided, touch_refused, touch_passes, touch_decided}
use Rattle.box_fault.proofs.Boxes.{inside_refused, inside_passes, inside_decided}
use Rattle.box_fault.proofs.Outlines.{outline_refused, outline_passes, outline_decided, framed_refused, framed_passes, framed_decided}

-- what is answered where all is well is no refusal
done : {A : Type 0} (found : A) (f : Fault) → ◌≡◌ {A = Result A Fault} (Ok found) (Err f) → ⊥
done found f e = let z : ◌≡◌ {A = ℕ} 0 1 = cc in omega arith

-- ---- the calls

-- an outline that is fitted, whatever answers it
module _ {A : Type 0} (found : A) (verbs : List ℕ) (positions : List Float) where
  taken : OutlineTaken (answer_unless (outline_check_of verbs positions) found) verbs positions
  taken =
      let passes = outline_passes verbs positions in
      let causes = outline_refused verbs positions in
      let d = outline_decided verbs positions in
      record {
        refused_when = told found passes causes d;
        done_when = record { only = good found passes causes d; always = λ g f e. done found f (rw (passes g) at e) };
      }

pub refused_exactly_when : RefusedExactlyWhen
refused_exactly_when = record {
  fit = λ verbs positions. taken _ verbs positions;
  fit_outline = λ verbs positions. taken _ verbs positions;
  fit_with_cut = λ verbs positions. taken _ verbs positions;
  with_scissor = λ clip s fringe. told _ (pair_passes clip s fringe) (pair_refused clip s fringe) (pair_decided clip s fringe);
  trimmed_scissor = λ clip s fringe. told _ (pair_passes clip s fringe) (pair_refused clip s fringe) (pair_decided clip s fringe);
  rect_fill = λ clip fill fringe.
      told _ (pair_passes clip fill fringe) (pair_refused clip fill fringe) (pair_decided clip fill fringe);
  upright_rect = λ verbs positions t.
      told _ (framed_passes verbs positions t) (framed_refused verbs positions t) (framed_decided verbs positions t);
  touch = λ bs fringe p. told _ (touch_passes bs fringe p) (touch_refused bs fringe p) (touch_decided bs fringe p);
  all_inside = λ bs safe fringe.
      told _ (inside_passes bs safe fringe) (inside_refused bs safe fringe) (inside_decided bs safe fringe);
}

pub no_box_past_eight : NoBoxPastEight
unfolding upright_rect_of
no_box_past_eight verbs positions t outline frame many = rw (framed_passes verbs positions t (outline, frame), lt-leb (length verbs) 8 many)

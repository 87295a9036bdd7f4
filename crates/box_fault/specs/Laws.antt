-- The calls that document 02's changes 1, 5 and 10 add, `fit` and touch are refused exactly for their first cause
-- (Causes.antt), and the fits done exactly where nothing is at fault. `reach` and `holds` refuse nothing. Proved in
-- proofs/Laws.antt.
use Rattle.std.specs.Prelude.{◌≡◌, List, ℕ, ◌<◌, Float, length, None, Result, Ok, Err}
use Rattle.fault.specs.declared.Fault.{Fault}
use Rattle.fault.specs.Check.{ForItsFirstCause}
use Rattle.geometry.specs.declared.Position.{Position}
use Rattle.geometry.specs.declared.Transform2D.{Transform2D}
use Rattle.shape.specs.declared.RoundedBox.{RoundedBox}
use Rattle.scissor.specs.Calls.{with_scissor_call, trimmed_scissor_call}
use Rattle.fill.specs.Calls.{rect_fill_call}
use Rattle.upright_rect.specs.Calls.{upright_rect_call}
use Rattle.fit.specs.Calls.{fit_call, fit_outline_call, fit_with_cut_call}
use Rattle.touch.specs.Touch.{touch_call}
use Rattle.inside.specs.Inside.{inside_call}
use Rattle.box_fault.specs.Causes.{InRange, frame_numbers, PairFault, TouchFault, InsideFault, OutlineFault, FaultlessOutline, OutlineFrameFault}

-- an answer is no refusal exactly when all is well
pub record DoneExactlyWhen {A : Type 0} (answer : Result A Fault) (Good : Type 0) : Type 0 where
  pub only : ((f : Fault) → answer ≡ Err f → ⊥) → Good
  pub always : Good → (f : Fault) → answer ≡ Err f → ⊥

-- an outline that is fitted: document 02, change 5. A curve is no cause
pub record OutlineTaken {A : Type 0} (answer : Result A Fault) (verbs : List ℕ) (positions : List Float) : Type 0 where
  pub refused_when : ForItsFirstCause answer (OutlineFault verbs positions)
  pub done_when : DoneExactlyWhen answer (FaultlessOutline verbs positions)

pub record RefusedExactlyWhen : Type 0 where
  pub fit : (verbs : List ℕ) (positions : List Float) → OutlineTaken (fit_call verbs positions) verbs positions
  pub fit_outline : (verbs : List ℕ) (positions : List Float) → OutlineTaken (fit_outline_call verbs positions) verbs positions
  pub fit_with_cut : (verbs : List ℕ) (positions : List Float) → OutlineTaken (fit_with_cut_call verbs positions) verbs positions
  pub with_scissor : (clip s : RoundedBox) (fringe : Float)
      → ForItsFirstCause (with_scissor_call clip s fringe) (PairFault clip s fringe)
  pub trimmed_scissor : (clip s : RoundedBox) (fringe : Float)
      → ForItsFirstCause (trimmed_scissor_call clip s fringe) (PairFault clip s fringe)
  pub rect_fill : (clip fill : RoundedBox) (fringe : Float)
      → ForItsFirstCause (rect_fill_call clip fill fringe) (PairFault clip fill fringe)
  pub upright_rect : (verbs : List ℕ) (positions : List Float) (t : Transform2D)
      → ForItsFirstCause (upright_rect_call verbs positions t) (OutlineFrameFault verbs positions t)
  pub touch : (bs : List RoundedBox) (fringe : Float) (p : Position)
      → ForItsFirstCause (touch_call bs fringe p) (TouchFault bs fringe p)
  pub all_inside : (bs : List RoundedBox) (safe : RoundedBox) (fringe : Float)
      → ForItsFirstCause (inside_call bs safe fringe) (InsideFault bs safe fringe)

-- Document 02, change 1: 'A done call of `upright_rect` gives no box for a straight outline of more than 8 verbs'; nor for
-- a curved one, as in the Rust
abbrev pub NoBoxPastEight : Type 0
NoBoxPastEight = (verbs : List ℕ) (positions : List Float) (t : Transform2D)
    → FaultlessOutline verbs positions → InRange (frame_numbers t) → 8 < length verbs → upright_rect_call verbs positions t ≡ Ok None

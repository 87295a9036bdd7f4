-- Document 02, change 1: 'A trim can come out with a negative half extent .. any later call whose first fault is that
-- box meets number 2, or 1 where a number in it is over 2^20.' Stated of every call that takes a box, in each place
-- where it takes one, whatever else is given. Proved in proofs/FirstFaulty.antt.
use Rattle.std.specs.Prelude.{◌≡◌, Bool, true, cond, ◌||◌, List, ◌∷◌, ◌++◌, ◌≤◌, Float, length, Result, Err}
use Rattle.std.specs.Float.Ieee.{lt}
use Rattle.float.specs.Ops.{f0}
use Rattle.fault.specs.declared.Fault.{Fault}
use Rattle.fault.specs.declared.Fault.TheVariants.{NumberOutOfRange, ImproperBox}
use Rattle.fault.specs.Number.{number_of}
use Rattle.geometry.specs.declared.Transform2D.{Transform2D}
use Rattle.geometry.specs.declared.Position.{Position}
use Rattle.shape.specs.declared.RoundedBox.{RoundedBox}
use Rattle.shape.specs.Calls.{transformed_call, bounds_call}
use Rattle.clip_coverage.specs.declared.ClipCoverage.{ClipCoverage}
use Rattle.clip_coverage.specs.Calls.{contains_call}
use Rattle.covering.specs.Calls.{coverage_call, touches_call}
use Rattle.beside.specs.Calls.{parallel_call}
use Rattle.sides.specs.Calls.{rect_intersection_call}
use Rattle.overlap.specs.Calls.{intersection_call}
use Rattle.scissor.specs.Calls.{with_scissor_call, trimmed_scissor_call}
use Rattle.fill.specs.Calls.{rect_fill_call}
use Rattle.boxes.specs.Checks.{most_boxes}
use Rattle.boxes.specs.Laws.{All}
use Rattle.touch.specs.Touch.{touch_call}
use Rattle.inside.specs.Inside.{inside_call}
use Rattle.outline.specs.Outline.{all_in_range_of}
use Rattle.box_fault.specs.Causes.{box_numbers, Faultless, FaultlessList}

-- 'a negative half extent'
abbrev pub below_zero_of : RoundedBox → Bool
below_zero_of b = lt b.ex f0 || lt b.ey f0

-- 'number 2, or 1 where a number in it is over 2^20', of any of the ten
abbrev pub cause_of : RoundedBox → Fault
cause_of b = cond (all_in_range_of (box_numbers b)) ImproperBox NumberOutOfRange

-- what a call answers to such a box, which it takes at some place
abbrev pub Meets : {A : Type 0} → (RoundedBox → Result A Fault) → Type 0
Meets call = (b : RoundedBox) → below_zero_of b ≡ true → call b ≡ Err (cause_of b)

-- as the only box or the first: no cause comes before it
pub record AsFirst : Type 0 where
  pub transformed : (t : Transform2D) → Meets (λ b. transformed_call b t)
  pub bounds : Meets bounds_call
  pub coverage : (fringe : Float) → Meets (λ b. coverage_call b fringe)
  pub touches : (fringe : Float) (p : Position) → Meets (λ b. touches_call b fringe p)
  pub contains : (k : ClipCoverage) → Meets (λ b. contains_call k b)
  pub parallel : (two : RoundedBox) → Meets (λ b. parallel_call b two)
  pub rect_intersection : (two : RoundedBox) → Meets (λ b. rect_intersection_call b two)
  pub intersection : (two : RoundedBox) (fringe : Float) → Meets (λ b. intersection_call b two fringe)
  pub with_scissor : (s : RoundedBox) (fringe : Float) → Meets (λ b. with_scissor_call b s fringe)
  pub trimmed_scissor : (s : RoundedBox) (fringe : Float) → Meets (λ b. trimmed_scissor_call b s fringe)
  pub rect_fill : (fill : RoundedBox) (fringe : Float) → Meets (λ b. rect_fill_call b fill fringe)

-- as the second: the first is without fault
pub record AsSecond (one : RoundedBox) : Type 0 where
  pub parallel : Meets (λ b. parallel_call one b)
  pub rect_intersection : Meets (λ b. rect_intersection_call one b)
  pub intersection : (fringe : Float) → Meets (λ b. intersection_call one b fringe)
  pub with_scissor : (fringe : Float) → Meets (λ b. with_scissor_call one b fringe)
  pub trimmed_scissor : (fringe : Float) → Meets (λ b. trimmed_scissor_call one b fringe)
  pub rect_fill : (fringe : Float) → Meets (λ b. rect_fill_call one b fringe)

-- in a list, at any place: the list is short enough and the boxes before are without fault, touched or inside or not
pub record Listed (before after : List RoundedBox) (b : RoundedBox) (fringe : Float) : Type 0 where
  pub touch : (p : Position) → touch_call (before ++ b ∷ after) fringe p ≡ Err (cause_of b)
  pub all_inside : (safe : RoundedBox) → inside_call (before ++ b ∷ after) safe fringe ≡ Err (cause_of b)

-- as the safe area: the list is without fault
abbrev pub AsSafeArea : List RoundedBox → Type 0
AsSafeArea bs = (fringe : Float) → Meets (λ b. inside_call bs b fringe)

pub record FirstFaultyBox : Type 0 where
  pub number : (b : RoundedBox) → number_of (cause_of b) ≡ cond (all_in_range_of (box_numbers b)) 2 1
  pub first : AsFirst
  pub second : (one : RoundedBox) → Faultless one → AsSecond one
  pub listed : (before after : List RoundedBox) (b : RoundedBox) (fringe : Float)
      → length (before ++ b ∷ after) ≤ most_boxes → All Faultless before → below_zero_of b ≡ true → Listed before after b fringe
  pub safe_area : (bs : List RoundedBox) → FaultlessList bs → AsSafeArea bs

-- No outcome's number is a cause's: a caller that is handed 1 to 31 was refused, for the cause of that number, and any
-- other number is an outcome's. Proved in proofs/Numbers.antt.
use Rattle.std.specs.Prelude.{ℕ, ◌≤◌, ◌≡◌, Option, Result, Err}
use Rattle.fault.specs.declared.Fault.{Fault}
use Rattle.fault.specs.Number.{number_of, CauseNumbers}
use Rattle.mask.specs.Calls.{outcome_number}
use Rattle.geometry.specs.declared.Bounds.{Bounds}
use Rattle.boundary.specs.Outcomes.{Ordinary, ordinary_number}
use Rattle.boundary.specs.Answers.{whole_box_handed, box_handed, coverage_handed, bounds_handed, distance_handed, both_box_handed, fill_handed, outline_handed, cut_handed}
use Rattle.boundary.specs.Answers.{reach_handed, test_number, touch_number, inside_number, write_number, read_number}

-- of answers that may be turned away, and a way to number them: a number is a cause's exactly when the answer is the
-- refusal with that cause; from 1 to 31 there is nothing else; and no number is 10. Document 02, change 5: 'Number 10 no
-- longer occurs, and that is shown'
pub record CauseExactlyWhen {A : Type 0} (number : Result A Fault → ℕ) : Type 0 where
  pub only : (a : Result A Fault) (f : Fault) → number a ≡ number_of f → a ≡ Err f
  pub always : (f : Fault) → number (Err f) ≡ number_of f
  pub within : (a : Result A Fault) → 1 ≤ number a → number a ≤ 31 → (f : Fault) × (a ≡ Err f)
  pub never_ten : (a : Result A Fault) → number a ≡ 10 → ⊥

pub record NumbersApart : Type 0 where
  -- every cause has a number of its own, from 1 to 31 (fault/specs/Number.antt)
  pub causes : CauseNumbers
  -- no outcome's number is a cause's, and two outcomes have two numbers
  pub apart : (o : Ordinary) (f : Fault) → ordinary_number o ≡ number_of f → ⊥
  pub outcomes : (o p : Ordinary) → ordinary_number o ≡ ordinary_number p → o ≡ p
  -- each kind of answer that the exported calls give
  pub outcome : CauseExactlyWhen outcome_number
  pub whole_box : CauseExactlyWhen (λ a. (whole_box_handed a).number)
  pub box : CauseExactlyWhen (λ a. (box_handed a).number)
  pub coverage : CauseExactlyWhen (λ a. (coverage_handed a).number)
  pub bounds : CauseExactlyWhen (λ a. (bounds_handed a).number)
  pub distance : CauseExactlyWhen (λ a. (distance_handed a).number)
  pub both : CauseExactlyWhen (λ a. (both_box_handed a).number)
  pub fill : CauseExactlyWhen (λ a. (fill_handed a).number)
  pub outline : CauseExactlyWhen (λ a. (outline_handed a).number)
  pub cut : CauseExactlyWhen (λ a. (cut_handed a).number)
  -- `reach` is never refused
  pub reach : (a : Option Bounds) (f : Fault) → (reach_handed a).number ≡ number_of f → ⊥
  pub reach_never_ten : (a : Option Bounds) → (reach_handed a).number ≡ 10 → ⊥
  pub test : CauseExactlyWhen test_number
  pub touch : CauseExactlyWhen touch_number
  pub all_inside : CauseExactlyWhen inside_number
  pub write : CauseExactlyWhen write_number
  pub read : CauseExactlyWhen read_number

-- The first place of a list whose box passes a test, counted from 0. Definitions only.
use Rattle.std.specs.Prelude.{◌≡◌, ◌<◌, ℕ, suc, Bool, cond, List, [], ◌∷◌, Option, Some, None, Result, Ok, Err}
use Rattle.fault.specs.declared.Fault.{Fault}
use Rattle.fault.specs.Check.{answer_unless}
use Rattle.shape.specs.declared.RoundedBox.{RoundedBox}
use Rattle.boxes.specs.Checks.{most_boxes, list_check_of}

-- the first place whose box passes, of boxes that stand at place k and after it
abbrev pub first_from : ℕ → List RoundedBox → (RoundedBox → Bool) → Option ℕ
first_from k [] test = None
first_from k (b ∷ bs) test = cond (test b) (Some k) (first_from (suc k) bs test)

-- the list's check, then the first place
abbrev pub first_place_of : List RoundedBox → (RoundedBox → Bool) → Result (Option ℕ) Fault
first_place_of bs test = answer_unless (list_check_of bs) (first_from 0 bs test)

-- what a function answers of each box is what the test says
abbrev pub Tells : (RoundedBox → Bool → Type 0) → (RoundedBox → Bool) → Type 0
Tells Answers test = (b : RoundedBox) (r : Bool) → Answers b r → r ≡ test b

-- a place that is found is below the limit: 16 bits hold it
abbrev pub PlaceFits : Result (Option ℕ) Fault → Type 0
PlaceFits (Ok (Some k)) = k < most_boxes
PlaceFits (Ok None) = Unit
PlaceFits (Err f) = Unit

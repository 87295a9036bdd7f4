-- How many boxes a list has: few where it is not refused, and too many exactly where it is refused with number 12.
-- Assumes nothing.
use Rattle.std.specs.Prelude.{Ok, Err}
use Prim.Native.Nat.{ℕ, ◌≤◌}
use mathlib.Core.Path.{◌≡◌, refl}
use mathlib.Core.Bool.{Bool, true, false, cond}
use mathlib.Core.List.{List, [], ◌∷◌}
use native.Mathlib.Omega.{arith}
use lib.Dec.{ltb}
use lib.ListN.{length}
use borrow.Author.Tests.{ltb-true, ltb-false, lt-ltb}
use Rattle.fault.specs.declared.Fault.TheVariants as fault
use Rattle.fault.specs.Check.{Check, ◌and_then◌}
use Rattle.fault.proofs.Passing.{both_pass}
use Rattle.shape.specs.declared.RoundedBox.{RoundedBox}
use Rattle.shape.specs.Checks.{box_in_range_of, improper_of, box_check_of, numbers_check_of}
use Rattle.boxes.specs.Checks.{most_boxes, boxes_check_of, list_check_of}
use Rattle.boxes.specs.Laws.{TooManyExactlyWhen}

abbrev Passes : Check → Type 0
Passes c = c ≡ Ok tt

counted : (over : Bool) → Passes (cond over (Err fault.TooManyBoxes) (Ok tt)) → over ≡ false
counted true e = let z : ◌≡◌ {A = ℕ} 0 1 = cc in absurd (omega arith)
counted false e = refl

pub few : (bs : List RoundedBox) → list_check_of bs ≡ Ok tt → length bs ≤ most_boxes
few bs e = ltb-false most_boxes (length bs) (counted (ltb most_boxes (length bs)) (both_pass _ (boxes_check_of bs) e).0)

-- ---- number 12 is the count's alone

abbrev pub Twelve : Check → Type 0
Twelve c = c ≡ Err fault.TooManyBoxes

-- where the second of two checks never says 12, the first does
pub of_first : (a b : Check) → (Twelve b → ⊥) → Twelve (a and_then b) → Twelve a
of_first (Ok _) b never e = absurd (never e)
of_first (Err f) b never e = e

of_box_by : (good improper : Bool)
    → Twelve (cond good (cond improper (Err fault.ImproperBox) (Ok tt)) (Err fault.NumberOutOfRange)) → ⊥
of_box_by true true e = let z : ◌≡◌ {A = ℕ} 0 1 = cc in absurd (omega arith)
of_box_by true false e = let z : ◌≡◌ {A = ℕ} 0 1 = cc in absurd (omega arith)
of_box_by false improper e = let z : ◌≡◌ {A = ℕ} 0 1 = cc in absurd (omega arith)

pub of_box : (b : RoundedBox) → Twelve (box_check_of b) → ⊥
unfolding box_check_of
of_box b = of_box_by (box_in_range_of b) (improper_of b)

pub of_numbers : (good : Bool) → Twelve (numbers_check_of good) → ⊥
of_numbers true e = let z : ◌≡◌ {A = ℕ} 0 1 = cc in absurd (omega arith)
of_numbers false e = let z : ◌≡◌ {A = ℕ} 0 1 = cc in absurd (omega arith)

of_boxes : (bs : List RoundedBox) → Twelve (boxes_check_of bs) → ⊥
of_boxes [] e = let z : ◌≡◌ {A = ℕ} 0 1 = cc in absurd (omega arith)
of_boxes (b ∷ bs) e = of_box b (of_first (box_check_of b) (boxes_check_of bs) (of_boxes bs) e)

of_count : (over : Bool) → Twelve (cond over (Err fault.TooManyBoxes) (Ok tt)) → over ≡ true
of_count true e = refl
of_count false e = let z : ◌≡◌ {A = ℕ} 0 1 = cc in absurd (omega arith)

pub too_many_exactly_when : TooManyExactlyWhen
too_many_exactly_when = record {
  only = λ bs e. ltb-true 4096 (length bs) (of_count (ltb most_boxes (length bs)) (of_first _ (boxes_check_of bs) (of_boxes bs) e));
  always = λ bs l. rw (lt-ltb 4096 (length bs) l);
}

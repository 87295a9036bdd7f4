-- The walk over a list: at place i, the place found so far and the boxes that are left give what the whole list gives.
-- Assumes nothing.
use mathlib.Core.Path.{◌≡◌, refl}
use mathlib.Core.Bool.{Bool, true, false, cond}
use mathlib.Core.List.{List, [], ◌∷◌}
use Prim.Native.Nat.{ℕ, suc, ◌+◌}
use native.Mathlib.Numerals.{add-one}
use Rattle.std.specs.Prelude.{Option, Some, None, Result, Ok, Err}
use Rattle.fault.specs.declared.Fault.{Fault}
use Rattle.fault.specs.Check.{answer_unless}
use Rattle.shape.specs.declared.RoundedBox.{RoundedBox}
use Rattle.shape.specs.Checks.{box_check_of}
use Rattle.boxes.specs.Checks.{boxes_check_of}
use Rattle.boxes.specs.First.{first_from}

-- a place that was found, or else the next one
abbrev pub or_else : Option ℕ → Option ℕ → Option ℕ
or_else (Some k) next = Some k
or_else None next = next

-- what comes of a place found before place i, where `rest` are the boxes from there on
abbrev pub result_of : Option ℕ → ℕ → List RoundedBox → (RoundedBox → Bool) → Result (Option ℕ) Fault
result_of found i rest test = answer_unless (boxes_check_of rest) (or_else found (first_from i rest test))

-- what is found after a box at place i
abbrev pub found_after : Option ℕ → ℕ → Bool → Option ℕ
found_after (Some k) i passes = Some k
found_after None i passes = cond passes (Some i) None

-- a box that is no fault's is passed
asked : (found : Option ℕ) (i : ℕ) (passes : Bool) (rest : List RoundedBox) (test : RoundedBox → Bool)
    → answer_unless (boxes_check_of rest) (or_else found (cond passes (Some i) (first_from (suc i) rest test)))
    ≡ result_of (found_after found i passes) (suc i) rest test
asked (Some k) i passes rest test = refl
asked None i true rest test = refl
asked None i false rest test = refl

pub passed : (found : Option ℕ) (i : ℕ) (b : RoundedBox) (rest : List RoundedBox) (test : RoundedBox → Bool)
    → box_check_of b ≡ Ok tt → result_of found i (b ∷ rest) test ≡ result_of (found_after found i (test b)) (i + 1) rest test
passed found i b rest test e = rw (e, add-one i) (asked found i (test b) rest test)

-- a box at fault ends the walk
pub refused : (found : Option ℕ) (i : ℕ) (b : RoundedBox) (rest : List RoundedBox) (test : RoundedBox → Bool) {f : Fault}
    → box_check_of b ≡ Err f → result_of found i (b ∷ rest) test ≡ Err f
refused found i b rest test e = rw e

-- after the last box
pub ended : (found : Option ℕ) (i : ℕ) (test : RoundedBox → Bool) → result_of found i [] test ≡ Ok found
ended (Some k) i test = refl
ended None i test = refl

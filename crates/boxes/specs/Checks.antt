-- What is refused of a list of boxes. Document 01: 'Boxes: 12, then per box 1, 2, first box before second'.
-- Definitions only.
use Rattle.std.specs.Prelude.{ℕ, cond, List, [], ◌∷◌, ltb, length, Ok, Err}
use Rattle.fault.specs.declared.Fault.TheVariants as fault
use Rattle.fault.specs.Check.{Check, ◌and_then◌}
use Rattle.shape.specs.declared.RoundedBox.{RoundedBox}
use Rattle.shape.specs.Checks.{box_check_of}

-- Document 02, change 7: 'A touch list may have up to 4,096 boxes.' The limit of every list of boxes
abbrev pub most_boxes : ℕ
most_boxes = 4096

-- number 12, of n boxes where at most `most` are taken
abbrev pub count_check_within : ℕ → ℕ → Check
count_check_within most n = cond (ltb most n) (Err fault.TooManyBoxes) (Ok tt)

-- 'Number 12 is now for more than 4,096'
abbrev pub count_check_of : ℕ → Check
count_check_of n = count_check_within most_boxes n

-- 'per box 1, 2, first box before second'
abbrev pub boxes_check_of : List RoundedBox → Check
boxes_check_of [] = Ok tt
boxes_check_of (b ∷ bs) = box_check_of b and_then boxes_check_of bs

-- 'Boxes: 12, then per box'
abbrev pub list_check_of : List RoundedBox → Check
list_check_of bs = count_check_of (length bs) and_then boxes_check_of bs

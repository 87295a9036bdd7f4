-- Document 01, 'Touch': 'Given a list of boxes, a fringe and a point, the call answers the place of some box whose
-- coverage exists and whose distance at the point is at most' 0.5 since document 02, change 2, 'counted from 0. "No
-- frame" comes only when there is no such box.' Which box it is, document 02 says, change 3; change 7: 'the place named
-- is a 16-bit number'. Definitions only.
use Rattle.std.specs.Prelude.{ℕ, suc, cond, List, [], ◌∷◌, Float, length, Option, Some, None, Result}
use Rattle.geometry.specs.declared.Position.{Position}
use Rattle.shape.specs.declared.RoundedBox.{RoundedBox}
use Rattle.fault.specs.declared.Fault.{Fault}
use Rattle.fault.specs.Check.{Check, answer_unless, ◌and_then◌}
use Rattle.shape.specs.Checks.{fringe_check_of, point_check_of}
use Rattle.boxes.specs.Checks.{most_boxes, count_check_within, boxes_check_of}
use Rattle.covering.specs.Touches.{touches_of}

abbrev pub point_of : Float → Float → Position
point_of x y = record { x = x; y = y }

-- ---- refusals

-- 'Boxes: 12, then per box 1, 2, first box before second, then 1 for a lone frame, fringe and point', where at most
-- `most` boxes are taken
abbrev pub touch_check_within : ℕ → List RoundedBox → Float → Position → Check
touch_check_within most bs fringe p =
    count_check_within most (length bs) and_then boxes_check_of bs and_then fringe_check_of fringe and_then point_check_of p

abbrev pub touch_check_of : List RoundedBox → Float → Position → Check
touch_check_of bs fringe p = touch_check_within most_boxes bs fringe p

-- ---- the answer

-- 'Name the lowest place whose box holds the touch', of boxes that stand at place k and after it
abbrev pub first_touched_from : ℕ → List RoundedBox → Float → Position → Option ℕ
first_touched_from k [] fringe p = None
first_touched_from k (b ∷ bs) fringe p = cond (touches_of b fringe p) (Some k) (first_touched_from (suc k) bs fringe p)

-- the whole list is checked before a place is named; places are counted from 0
abbrev pub touch_within : ℕ → List RoundedBox → Float → Position → Result (Option ℕ) Fault
touch_within most bs fringe p = answer_unless (touch_check_within most bs fringe p) (first_touched_from 0 bs fringe p)

-- document 02, change 7: 'A touch list may have up to 4,096 boxes'
abbrev pub touch_call : List RoundedBox → Float → Position → Result (Option ℕ) Fault
touch_call bs fringe p = touch_within most_boxes bs fringe p

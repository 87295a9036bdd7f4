-- What `all_inside` asks of each box, and how what is found becomes the answer: what its functions promise to each
-- other. Definitions only.
use Rattle.std.specs.Prelude.{ℕ, Bool, false, not, Float, Option, Some, None, Result, Ok, Err}
use Rattle.fault.specs.declared.Fault.{Fault}
use Rattle.fault.specs.Check.{answer_unless, ◌and_then◌}
use Rattle.shape.specs.declared.RoundedBox.{RoundedBox}
use Rattle.shape.specs.Checks.{box_check_of, fringe_check_of}
use Rattle.clip_coverage.specs.declared.ClipCoverage.{ClipCoverage}
use Rattle.clip_coverage.specs.Distance.{contains_of}
use Rattle.inside.specs.declared.Inside.{Inside}
use Rattle.inside.specs.declared.Inside.TheVariants as inside

-- `contains` of the safe area's coverage 'fails'; nothing is asked where there is none
abbrev pub lies_outside_of : Option ClipCoverage → RoundedBox → Bool
lies_outside_of (Some area) b = not (contains_of area b)
lies_outside_of None b = false

-- what was found
abbrev pub inside_of : Option ℕ → Inside
inside_of (Some k) = inside.Outside k
inside_of None = inside.All

-- the same where there is a coverage
abbrev pub answer_of : Option ClipCoverage → Option ℕ → Option Inside
answer_of (Some area) place = Some (inside_of place)
answer_of None place = None

-- safe area and fringe are refused after the boxes
abbrev pub finish_of : Result (Option ℕ) Fault → Option ClipCoverage → RoundedBox → Float → Result (Option Inside) Fault
finish_of (Ok place) area safe fringe = answer_unless (box_check_of safe and_then fringe_check_of fringe) (answer_of area place)
finish_of (Err f) area safe fringe = Err f

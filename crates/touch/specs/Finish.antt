-- How what is found becomes the answer: what the call's functions promise to each other. Definitions only.
use Rattle.std.specs.Prelude.{ℕ, Float, Option, Result, Ok, Err}
use Rattle.fault.specs.declared.Fault.{Fault}
use Rattle.fault.specs.Check.{answer_unless, ◌and_then◌}
use Rattle.geometry.specs.declared.Position.{Position}
use Rattle.shape.specs.Checks.{fringe_check_of, point_check_of}

-- fringe and point are refused after the boxes
abbrev pub finish_of : Result (Option ℕ) Fault → Float → Position → Result (Option ℕ) Fault
finish_of (Ok found) fringe p = answer_unless (fringe_check_of fringe and_then point_check_of p) found
finish_of (Err f) fringe p = Err f

-- The public call: document 01's refusals in its order, then what shape.rs answers. Definitions only.
use Rattle.std.specs.Prelude.{Float, Result, Bool}
use Rattle.fault.specs.declared.Fault.{Fault}
use Rattle.fault.specs.Check.{Check, answer_unless, ◌and_then◌}
use Rattle.shape.specs.declared.RoundedBox.{RoundedBox}
use Rattle.shape.specs.Checks.{box_check_of, fringe_check_of}
use Rattle.beside.specs.Alongside.{parallel_of}

-- Document 01: 'per box 1, 2, first box before second, then 1 for a lone frame, fringe and point'

-- two boxes
abbrev pub pair_check_of : RoundedBox → RoundedBox → Check
pair_check_of b other = box_check_of b and_then box_check_of other

-- two boxes, then a fringe
abbrev pub pair_fringe_check_of : RoundedBox → RoundedBox → Float → Check
pair_fringe_check_of b other fringe = pair_check_of b other and_then fringe_check_of fringe

abbrev pub parallel_call : RoundedBox → RoundedBox → Result Bool Fault
parallel_call b other = answer_unless (pair_check_of b other) (parallel_of b other)

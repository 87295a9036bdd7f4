-- The public call: document 01's refusals in its order, then what shape.rs answers. Definitions only.
use Rattle.std.specs.Prelude.{Float, Option, Result}
use Rattle.shape.specs.declared.RoundedBox.{RoundedBox}
use Rattle.beside.specs.Calls.{pair_fringe_check_of}
use Rattle.overlap.specs.Overlap.{intersection_of}
use Rattle.fault.specs.declared.Fault.{Fault}
use Rattle.fault.specs.Check.{answer_unless}

-- Document 01: 'per box 1, 2, first box before second, then 1 for a lone frame, fringe and point'
abbrev pub intersection_call : RoundedBox → RoundedBox → Float → Result (Option RoundedBox) Fault
intersection_call b other fringe = answer_unless (pair_fringe_check_of b other fringe) (intersection_of b other fringe)

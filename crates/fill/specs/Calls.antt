-- The public call: document 01's refusals in its order, then what shape.rs answers. Definitions only.
use Rattle.std.specs.Prelude.{Float, Option, Result}
use Rattle.fault.specs.declared.Fault.{Fault}
use Rattle.fault.specs.Check.{Check, answer_unless}
use Rattle.shape.specs.declared.RoundedBox.{RoundedBox}
use Rattle.beside.specs.Calls.{pair_fringe_check_of}
use Rattle.fill.specs.Fill.{rect_fill_of}
use Rattle.fill.specs.declared.RectFill.{RectFill}

-- Document 01: 'per box 1, 2, first box before second, then 1 for a lone frame, fringe and point'
abbrev pub rect_fill_call : RoundedBox → RoundedBox → Float → Result (Option RectFill) Fault
rect_fill_call clip f fringe = answer_unless (pair_fringe_check_of clip f fringe) (rect_fill_of clip f fringe)

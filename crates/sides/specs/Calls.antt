-- The public call: document 01's refusals in its order, then what shape.rs answers. Definitions only.
use Rattle.std.specs.Prelude.{Option, Result}
use Rattle.shape.specs.declared.RoundedBox.{RoundedBox}
use Rattle.beside.specs.Calls.{pair_check_of}
use Rattle.sides.specs.Shared.{rect_intersection_of}
use Rattle.fault.specs.declared.Fault.{Fault}
use Rattle.fault.specs.Check.{answer_unless}

abbrev pub rect_intersection_call : RoundedBox → RoundedBox → Result (Option RoundedBox) Fault
rect_intersection_call b other = answer_unless (pair_check_of b other) (rect_intersection_of b other)

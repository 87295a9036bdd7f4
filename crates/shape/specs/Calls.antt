-- The public calls: document 01's refusals in its order, then what shape.rs answers. Definitions only.
use Rattle.std.specs.Prelude.{Result}
use Rattle.fault.specs.declared.Fault.{Fault}
use Rattle.fault.specs.Check.{answer_unless, ◌and_then◌}
use Rattle.geometry.specs.declared.Transform2D.{Transform2D}
use Rattle.geometry.specs.declared.Bounds.{Bounds}
use Rattle.shape.specs.declared.RoundedBox.{RoundedBox}
use Rattle.shape.specs.Checks.{box_check_of, frame_check_of}
use Rattle.shape.specs.Outline.{transformed_of, bounds_of}

-- ---- the calls. Document 01: 'per box 1, 2, first box before second, then 1 for a lone frame, fringe and point'

abbrev pub transformed_call : RoundedBox → Transform2D → Result RoundedBox Fault
transformed_call b t = answer_unless (box_check_of b and_then frame_check_of t) (transformed_of b t)

abbrev pub bounds_call : RoundedBox → Result Bounds Fault
bounds_call b = answer_unless (box_check_of b) (bounds_of b)

-- The public call: the refusals in their order, then what shape.rs answers. Definitions only.
use Rattle.std.specs.Prelude.{List, ℕ, Float, Option, Result}
use Rattle.fault.specs.declared.Fault.{Fault}
use Rattle.fault.specs.Check.{Check, answer_unless, ◌and_then◌}
use Rattle.geometry.specs.declared.Transform2D.{Transform2D}
use Rattle.shape.specs.Checks.{frame_check_of}
use Rattle.outline.specs.Outline.{outline_check_of}
use Rattle.upright_rect.specs.UprightRect.{upright_rect_of}
use Rattle.shape.specs.declared.RoundedBox.{RoundedBox}

-- Document 02, change 1: 'Whatever else is given with an outline is checked after it'
abbrev pub outline_frame_check_of : List ℕ → List Float → Transform2D → Check
outline_frame_check_of verbs positions t = outline_check_of verbs positions and_then frame_check_of t

abbrev pub upright_rect_call : List ℕ → List Float → Transform2D → Result (Option RoundedBox) Fault
upright_rect_call verbs positions t = answer_unless (outline_frame_check_of verbs positions t) (upright_rect_of verbs positions t)

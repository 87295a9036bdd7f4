-- The public calls: document 01's refusals in its order, then what shape.rs answers. Document 02, change 1: 'A scissor's
-- frame and extent, where it has one, are checked as a box's': a scissor is a box, and its radii are checked too.
-- Definitions only.
use Rattle.std.specs.Prelude.{Float, Option, Result}
use Rattle.fault.specs.declared.Fault.{Fault}
use Rattle.fault.specs.Check.{Check, answer_unless}
use Rattle.shape.specs.declared.RoundedBox.{RoundedBox}
use Rattle.beside.specs.Calls.{pair_fringe_check_of}
use Rattle.scissor.specs.Scissor.{with_scissor_of, trimmed_scissor_of}
use Rattle.clip_coverage.specs.declared.ClipCoverage.{ClipCoverage}

-- ---- the calls. Document 01: 'per box 1, 2, first box before second, then 1 for a lone frame, fringe and point'

abbrev pub with_scissor_call : RoundedBox → RoundedBox → Float → Result (Option (RoundedBox × ClipCoverage)) Fault
with_scissor_call clip s fringe = answer_unless (pair_fringe_check_of clip s fringe) (with_scissor_of clip s fringe)

abbrev pub trimmed_scissor_call : RoundedBox → RoundedBox → Float → Result (Option RoundedBox) Fault
trimmed_scissor_call clip s fringe = answer_unless (pair_fringe_check_of clip s fringe) (trimmed_scissor_of clip s fringe)

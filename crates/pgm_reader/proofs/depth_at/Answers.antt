-- `pgm_reader::depth_at` meets its contract. Assumes nothing.
use mathlib.Core.Path.{sym, ◌∙◌}
use lib.ListN.{length, drop}
use Rattle.pgm_reader.specs.Reading.{read_field}
use Rattle.pgm_reader.proofs.Places.{field_at, none_read}
use Rattle.pgm_reader.proofs.Steps.{depth_none, depth_end, depth_other, depth_there}
use Rattle.pgm_reader.proofs.depth_at.Goals as goal
use Rattle.pgm_reader.proofs.depth_at.Goals.{else-depth-file-via-then-depth-file+else-is_space, else-depth-file-via-else-depth-file}

pub returns-in_err-depth : goal.returns-in_err-depth
returns-in_err-depth c =
    let args = c.args in
    let total = length args.file.now in
    let here = drop args.from args.file.now in
    c.from_residual.ensures ∙ depth_none total args.size here (none_read total (read_field here) (sym c.field_at.ensures ∙ c.in_err-depth.was))

pub returns-then-is_space : goal.returns-then-is_space
returns-then-is_space c =
    let depth = c.in_ok-depth.depth in
    let was = field_at c.args.file.now c.args.from (sym c.field_at.ensures ∙ c.in_ok-depth.was) in
    let byte = sym c.is_space.ensures ∙ c.if-is_space.true in
    depth_there c.args.file.now c.args.size (drop c.args.from c.args.file.now) depth.number depth.at was.0 c.if-depth-file.true byte

pub returns-else-depth-file : goal.returns-else-depth-file
returns-else-depth-file c =
    let depth = c.in_ok-depth.depth in
    let was = field_at c.args.file.now c.args.from (sym c.field_at.ensures ∙ c.in_ok-depth.was) in
    let here = drop c.args.from c.args.file.now in
    elim c.else-depth-file.branch [
      | else-depth-file-via-then-depth-file+else-is_space w ↦
          depth_other c.args.file.now c.args.size here depth.number depth.at was.0 w.if-depth-file.true (sym w.is_space.ensures ∙ w.if-is_space.false)
      | else-depth-file-via-else-depth-file w ↦ depth_end c.args.file.now c.args.size here depth.number depth.at was.0 w.if-depth-file.false
    ]

-- `pgm_reader::positive_at` meets its contract. Assumes nothing.
use mathlib.Core.Path.{sym, ◌∙◌}
use lib.ListN.{length, drop}
use Rattle.pgm_reader.specs.Reading.{read_field}
use Rattle.pgm_reader.proofs.Places.{field_at, none_read}
use Rattle.pgm_reader.proofs.Steps.{positive_none, positive_zero, positive_number}
use Rattle.pgm_reader.proofs.positive_at.Goals as goal

pub returns-in_err-field : goal.returns-in_err-field
returns-in_err-field c =
    let args = c.args in
    let total = length args.file.now in
    let here = drop args.from args.file.now in
    c.from_residual.ensures ∙ positive_none total here (none_read total (read_field here) (sym c.field_at.ensures ∙ c.in_err-field.was))

pub returns-then-field-eq0 : goal.returns-then-field-eq0
returns-then-field-eq0 c =
    let file = c.args.file.now in
    let field = c.in_ok-field.field in
    let was = field_at c.args.file.now c.args.from (sym c.field_at.ensures ∙ c.in_ok-field.was) in
    positive_zero (length file) (drop c.args.from file) field.number (drop field.at file) was.0 c.if-field-eq0.true

pub returns : goal.returns
returns c =
    let field = c.in_ok-field.field in
    let was = field_at c.args.file.now c.args.from (sym c.field_at.ensures ∙ c.in_ok-field.was) in
    positive_number c.args.file.now c.args.from field.number field.at was.0 was.1 c.if-field-eq0.false

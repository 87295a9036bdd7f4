-- `pgm_reader::fields_at` meets its contract. Assumes nothing.
use mathlib.Core.Path.{sym, ap, ◌∙◌}
use lib.ListN.{length, drop}
use Rattle.pgm_reader.specs.Reading.{read_positive}
use Rattle.pgm_reader.specs.Steps.{header_of}
use Rattle.pgm_reader.proofs.Laws.{fields_are}
use Rattle.pgm_reader.proofs.Places.{positive_at, none_read}
use Rattle.pgm_reader.proofs.Steps.{fields_none, fields_half}
use Rattle.pgm_reader.proofs.fields_at.Goals as goal

pub returns-in_err-width : goal.returns-in_err-width
returns-in_err-width c =
    let args = c.args in
    let total = length args.file.now in
    let here = drop args.from args.file.now in
    c.from_residual.ensures ∙ fields_none total here (none_read total (read_positive here) (sym c.positive_at.ensures ∙ c.in_err-width.was))

pub returns-in_err-height : goal.returns-in_err-height
returns-in_err-height c =
    let file = c.args.file.now in
    let width = c.in_ok-width.width in
    let width_was = positive_at file c.args.from (sym c.positive_at.ensures ∙ c.in_ok-width.was) in
    let m = drop width.at file in
    c.from_residual-in_err-height.ensures
    ∙ fields_half (length file) (drop c.args.from file) width.number m width_was.0
    (none_read (length file) (read_positive m) (sym c.positive_at-2.ensures ∙ c.in_err-height.was))

pub returns : goal.returns
returns c =
    let file = c.args.file.now in
    let width = c.in_ok-width.width in
    let height = c.in_ok-height.height in
    let width_was = positive_at file c.args.from (sym c.positive_at.ensures ∙ c.in_ok-width.was) in
    let height_was = positive_at file width.at (sym c.positive_at-2.ensures ∙ c.in_ok-height.was) in
    c.depth_at.ensures
    ∙ ap (header_of (length file)) (fields_are (drop c.args.from file) width.number (drop width.at file) height.number (drop height.at file) width_was.0 height_was.0)

-- `words::point_at` meets its contract. Assumes nothing.
use mathlib.Core.Path.{sym, ◌∙◌}
use Prim.Native.Nat.{◌+◌}
use lib.ListN.{drop}
use Rattle.word_reader.proofs.Reader.{coordinate_of}
use Rattle.words.proofs.Steps.{exits, point_first, point_second}
use Rattle.words.proofs.point_at.Goals as goal

pub returns-in_err-coordinate : goal.returns-in_err-coordinate
returns-in_err-coordinate c =
    let args = c.args in
    let x = coordinate_of (drop args.at args.words.now) c.coordinate.ensures c.pair_at-point.ensures.0 in
    exits c.from_residual.result c.in_err-coordinate.field-0.0 c.from_residual.ensures.1
    ∙ point_first args.words.now args.at c.in_err-coordinate.field-0.0 (sym c.in_err-coordinate.was ∙ x)

pub returns : goal.returns
returns c =
    let args = c.args in
    let x = coordinate_of (drop args.at args.words.now) c.coordinate.ensures c.pair_at-point.ensures.0 in
    let y = coordinate_of (drop (args.at + 1) args.words.now) c.coordinate-2.ensures c.pair_at-point.ensures.1 in
    y ∙ point_second args.words.now args.at (sym x ∙ c.in_ok-coordinate.was)

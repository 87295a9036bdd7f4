-- `words::contour_at` meets its contract. Assumes nothing.
use mathlib.Core.Path.{◌∙◌}
use native.Mathlib.Omega.{arith}
use Rattle.words.proofs.Steps.{exits, count_there, count_refused, contour_count, contour_many, contour_points}
use Rattle.words.proofs.contour_at.Goals as goal

pub returns-in_err-n : goal.returns-in_err-n
returns-in_err-n c =
    let words = c.args.words.now in
    exits c.from_residual.result c.in_err-n.field-0.0 c.from_residual.ensures.1
    ∙ contour_count words c.args.from.at c.args.from.points c.in_err-n.field-0.0 (count_refused words c.args.from.at c.count_at.ensures c.in_err-n.was)

pub returns-then-from-n : goal.returns-then-from-n
returns-then-from-n c =
    contour_many (count_there c.args.words.now c.args.from.at c.count_at.ensures c.in_ok-n.was) c.args.from.points c.if-from-n.true

pub overflow_add-first : goal.overflow_add-first
overflow_add-first c = let n = count_there c.args.words.now c.args.from.at c.count_at.ensures c.in_ok-n.was in omega arith

pub points_at-requires : goal.points_at-requires
points_at-requires c =
    let n = count_there c.args.words.now c.args.from.at c.count_at.ensures c.in_ok-n.was in
    (omega (arith, c.if-from-n.false, c.requires), omega arith)

pub returns : goal.returns
returns c =
    let n = count_there c.args.words.now c.args.from.at c.count_at.ensures c.in_ok-n.was in
    contour_points n c.args.from.points c.requires c.if-from-n.false c.points_at.ensures

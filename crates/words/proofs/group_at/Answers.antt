-- `words::group_at` meets its contract. Assumes nothing.
use mathlib.Core.Path.{◌∙◌}
use native.Mathlib.Omega.{arith}
use Prim.Native.Nat.{◌+◌}
use Rattle.words.proofs.Steps.{exits, count_there, count_refused, group_fault, group_contours}
use Rattle.words.proofs.group_at.Goals as goal

pub overflow_add-first : goal.overflow_add-first
overflow_add-first c =
    let n = count_there c.args.words.now (c.args.from.at + 1) c.head_at.ensures.1 c.in_ok-n.was in
    omega arith

pub contours_at-requires : goal.contours_at-requires
contours_at-requires c =
    let n = count_there c.args.words.now (c.args.from.at + 1) c.head_at.ensures.1 c.in_ok-n.was in
    (c.requires, omega arith)

pub returns-in_err-n : goal.returns-in_err-n
returns-in_err-n c =
    let e = count_refused c.args.words.now (c.args.from.at + 1) c.head_at.ensures.1 c.in_err-n.was in
    exits c.from_residual.result c.in_err-n.field-0.0 c.from_residual.ensures.1
    ∙ group_fault c.args.words.now c.args.from.at c.args.from.points c.in_err-n.field-0.0 e

pub returns : goal.returns
returns c =
    let n = count_there c.args.words.now (c.args.from.at + 1) c.head_at.ensures.1 c.in_ok-n.was in
    group_contours c.args.from.at c.args.from.points n c.contours_at.ensures

-- `words::points_at` meets its contract. Assumes nothing.
use mathlib.Core.Path.{◌≡◌, sym, ◌∙◌}
use Prim.Native.Nat.{◌+◌, ◌-◌, ◌*◌}
use native.Mathlib.Omega.{arith}
use Rattle.words.proofs.Steps.{exits, point_there, points_stop, points_more, points_end}
use Rattle.words.proofs.points_at.Goals as goal

pub returns-in_err-point_at : goal.returns-in_err-point_at
returns-in_err-point_at c =
    exits c.from_residual.result c.in_err-point_at.field-0.0 c.from_residual.ensures.1
    ∙ points_stop c.loop-i.invariant (omega arith) c.point_at.ensures c.in_err-point_at.was

pub loop-i-preserved : goal.loop-i-preserved
loop-i-preserved c =
    let p = point_there c.args.words.now (c.args.from.at + 2 * c.loop-i.i) (sym c.point_at.ensures ∙ c.in_ok-point_at.was) in
    let place : c.args.from.at + 2 * c.loop-i.i + 2 ≡ c.args.from.at + 2 * (c.loop-i.i + 1) = omega arith in
    let left : c.args.n - c.loop-i.i - 1 ≡ c.args.n - (c.loop-i.i + 1) = omega arith in
    let more = points_more c.loop-i.invariant (omega arith) p in
    rw (place, left) at more

pub returns : goal.returns
returns c =
    let i : c.loop-i.i ≡ c.args.n = omega arith in
    let end = points_end c.loop-i.invariant (omega arith) in
    rw i at end

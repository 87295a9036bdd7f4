-- `words::contours_at` meets its contract. Assumes nothing.
use mathlib.Core.Path.{◌≡◌, ◌∙◌}
use Prim.Native.Nat.{◌+◌, ◌-◌}
use native.Mathlib.Omega.{arith}
use Rattle.words.proofs.Steps.{exits, contours_stop, contours_more, contours_end}
use Rattle.words.proofs.contours_at.Goals as goal

pub returns-in_err-scan : goal.returns-in_err-scan
returns-in_err-scan c =
    exits c.from_residual.result c.in_err-scan.field-0.0 c.from_residual.ensures.1
    ∙ contours_stop c.loop.invariant (omega arith) c.contour_at.ensures c.in_err-scan.was

pub loop-preserved : goal.loop-preserved
loop-preserved c =
    let left : c.args.n - c.loop.counter - 1 ≡ c.args.n - (c.loop.counter + 1) = omega arith in
    let more = contours_more c.loop.invariant (omega arith) c.contour_at.ensures c.in_ok-scan.was in
    rw left at more

pub returns : goal.returns
returns c = contours_end c.loop.invariant (omega arith)

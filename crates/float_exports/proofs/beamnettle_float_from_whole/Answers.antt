-- `float_exports::beamnettle_float_from_whole` meets its contract: the smaller of n and 2 ^ 24. Assumes nothing.
use Prim.Native.Nat.{◌^◌, min}
use mathlib.Core.Path.{◌≡◌, ap, ◌∙◌}
use native.Mathlib.Omega.{arith}
use Rattle.whole.specs.Whole.{of_whole}
use Rattle.float_exports.proofs.beamnettle_float_from_whole.Goals as goal

pub returns-then-n-lt16777216 : goal.returns-then-n-lt16777216
returns-then-n-lt16777216 c =
    let e : c.args.n ≡ min c.args.n (2 ^ 24) = omega arith in
    c.from_whole.ensures ∙ ap of_whole e

pub returns : goal.returns
returns c =
    let e : 2 ^ 24 ≡ min c.args.n (2 ^ 24) = omega arith in
    c.from_whole-2.ensures ∙ ap of_whole e

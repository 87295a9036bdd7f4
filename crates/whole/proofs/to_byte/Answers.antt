-- `whole::to_byte` meets its contract: a byte is a column held at 255. Assumes nothing.
use Rattle.whole.proofs.Cast.{cut_narrower}
use native.Mathlib.Omega.{arith}
use Rattle.whole.proofs.to_byte.Goals as goal

pub returns-then-n-lt255 : goal.returns-then-n-lt255
returns-then-n-lt255 c =
    let e = c.to_column-n.ensures in
    omega (arith, cut_narrower 8 13 c.args.x (omega arith))

pub returns : goal.returns
returns c =
    let e = c.to_column-n.ensures in
    omega (arith, cut_narrower 8 13 c.args.x (omega arith))

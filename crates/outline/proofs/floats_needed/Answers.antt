-- `outline::floats_needed` meets its contract: the sum so far with what the verbs left need is what all need. Assumes
-- nothing.
use Rattle.outline.proofs.Scan.{sum_next, sum_all}
use native.Mathlib.Omega.{arith}
use Rattle.outline.proofs.floats_needed.Goals as goal

pub overflow_add-sum : goal.overflow_add-sum
overflow_add-sum c =
    let l = c.loop-byte-test.true in
    let next = sum_next c.loop-byte.invariant l c.floats-sum.ensures in
    omega arith

pub loop-byte-preserved : goal.loop-byte-preserved
loop-byte-preserved c = sum_next c.loop-byte.invariant c.loop-byte-test.true c.floats-sum.ensures

pub returns : goal.returns
returns c = sum_all c.loop-byte.invariant c.loop-byte-test.false

-- `fit::parallelogram` meets its contract: the turning points are the definition's, and there are four of them or not.
-- Assumes nothing.
use Prim.Native.Nat.{◌≤◌}
use native.Mathlib.Omega.{arith}
use lib.ListN.{length}
use Rattle.std.specs.Float.{nan}
use Rattle.fit.proofs.Turning.{not_four_in, first_four}
use Rattle.fit.specs.Fit.{parallelogram_of}
use Rattle.fit.proofs.parallelogram.Goals as goal

pub returns-then-m-ne4 : goal.returns-then-m-ne4
unfolding parallelogram_of
returns-then-m-ne4 c = rw (← c.size-size.ensures) (not_four_in c.turning_points-m.ensures c.if-m-ne4.true)

pub returns : goal.returns
unfolding parallelogram_of
returns c =
    let kept = c.turning_points-m.new.corners in
    let m = c.if-m-ne4.false in
    let four : 4 ≤ length kept = omega arith in
    let found = c.turning_points-m.ensures.corners (omega arith) in
    rw (← c.size-size.ensures, ← found, m, first_four kept (record { x = nan; y = nan }) four) c.parallelogram.ensures

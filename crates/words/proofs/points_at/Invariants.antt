-- `words::points_at` meets its contract. Assumes nothing.
use Prim.Native.Nat.{◌+◌, ◌-◌, ◌*◌}
use Rattle.words.proofs.Steps.{PointsAt}
use Rattle.words.proofs.points_at.Given as goal

abbrev pub invariant-loop-i : goal.invariant-loop-i
invariant-loop-i l = PointsAt l.words l.from.at l.n l.from.points (l.from.at + 2 * l.i) (l.n - l.i)

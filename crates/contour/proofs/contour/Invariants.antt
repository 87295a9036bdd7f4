-- `contour::contour` meets its contract: the walk around the contour. Assumes nothing.
use mathlib.Core.Path.{◌≡◌}
use Prim.Native.Nat.{◌+◌, ◌*◌}
use lib.ListN.{length}
use Rattle.contour.proofs.Walking.{Walk}
use Rattle.contour.proofs.contour.Given as goal

abbrev pub invariant-loop-i : goal.invariant-loop-i
invariant-loop-i l =
    (length l.floats ≡ length l.initial.floats)
    × Walk l.height l.words l.at l.n l.initial.floats l.edges l.stored (l.at + 2 * l.i) l.floats l.from.x l.from.y l.count

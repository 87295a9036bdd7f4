-- `contour::contours` meets its contract. Assumes nothing.
use Prim.Native.Nat.{◌-◌}
use Rattle.contour.proofs.Several.{Going}
use Rattle.contour.proofs.contours.Given as goal

abbrev pub invariant-loop : goal.invariant-loop
invariant-loop l =
    Going l.height l.words l.from l.n l.initial.floats l.edges l.floats l.at l.count (l.n - l.counter)

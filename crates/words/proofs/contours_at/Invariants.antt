-- `words::contours_at` meets its contract. Assumes nothing.
use Prim.Native.Nat.{◌-◌}
use Rattle.words.proofs.Steps.{ContoursAt}
use Rattle.words.proofs.contours_at.Given as goal

abbrev pub invariant-loop : goal.invariant-loop
invariant-loop l = ContoursAt l.words l.fn.from.at l.n l.fn.from.points l.scan.at l.scan.points (l.n - l.counter)

-- `root_digits::root_by_digits` meets its contract: proofs/RootLoop.antt has the invariant and shows that a turn keeps
-- it. Assumes nothing.
use Rattle.root_digits.proofs.RootLoop.{Digits}
use Rattle.root_digits.proofs.root_by_digits.Given as goal

abbrev pub invariant-loop-step : goal.invariant-loop-step
invariant-loop-step l = Digits l.a l.steps l.left l.root l.rest l._step

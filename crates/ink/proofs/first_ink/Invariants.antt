-- `ink::first_ink` meets its contract: no byte before `i` has ink. Assumes nothing.
use Rattle.ink.specs.Steps.{Passed}
use Rattle.ink.proofs.first_ink.Given as goal

abbrev pub invariant-loop-i : goal.invariant-loop-i
invariant-loop-i l = Passed l.line 0 l.i

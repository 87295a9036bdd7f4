-- `ink::end_ink` meets its contract. Assumes nothing.
use lib.ListN.{length}
use Rattle.ink.specs.Steps.{Passed}
use Rattle.ink.proofs.end_ink.Given as goal

abbrev pub invariant-loop-i : goal.invariant-loop-i
invariant-loop-i l = Passed l.line l.i (length l.line)

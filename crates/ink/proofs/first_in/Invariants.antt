-- `ink::first_in` meets its contract. Assumes nothing.
use Rattle.ink.proofs.Blocks.{FirstSoFar}
use Rattle.ink.proofs.first_in.Given as goal

abbrev pub invariant-loop-i : goal.invariant-loop-i
invariant-loop-i l = FirstSoFar l.block l.first l.i

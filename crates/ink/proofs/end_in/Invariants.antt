-- `ink::end_in` meets its contract. Assumes nothing.
use Rattle.ink.proofs.Blocks.{EndSoFar}
use Rattle.ink.proofs.end_in.Given as goal

abbrev pub invariant-loop-i : goal.invariant-loop-i
invariant-loop-i l = EndSoFar l.block l.end l.i

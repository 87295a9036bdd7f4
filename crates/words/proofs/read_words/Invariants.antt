-- `words::read_words` meets its contract. Assumes nothing.
use Prim.Native.Nat.{◌-◌}
use lib.ListN.{length}
use Rattle.words.proofs.Steps.{Going}
use Rattle.words.proofs.read_words.Given as goal

abbrev pub invariant-loop-scan : goal.invariant-loop-scan
invariant-loop-scan l = Going l.words l.scan.at l.scan.points

abbrev pub decreases-loop-scan : goal.decreases-loop-scan
decreases-loop-scan l = length l.words - l.scan.at

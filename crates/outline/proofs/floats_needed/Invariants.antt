-- `outline::floats_needed` meets its contract: the sum so far with what the verbs left need is what all need. Assumes
-- nothing.
use Rattle.outline.proofs.Scan.{Summed}
use Rattle.outline.proofs.floats_needed.Given as goal

abbrev pub invariant-loop-byte : goal.invariant-loop-byte
invariant-loop-byte l = Summed l.verbs l.sum l.byte-index

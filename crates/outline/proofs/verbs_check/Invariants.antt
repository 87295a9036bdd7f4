-- `outline::verbs_check` meets its contract: the verbs passed so far pass their checks, so the first fault is among
-- those left. Assumes nothing.
use Rattle.outline.proofs.Scan.{Left}
use Rattle.outline.specs.Outline.{verbs_check_of}
use Rattle.outline.proofs.verbs_check.Given as goal

abbrev pub invariant-loop-byte : goal.invariant-loop-byte
invariant-loop-byte l = Left verbs_check_of l.verbs l.byte-index

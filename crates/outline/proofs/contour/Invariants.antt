-- `outline::contour` meets its contract: the walk so far stands for a contour, from which the verbs left lead to
-- where all lead. Assumes nothing.
use Rattle.outline.proofs.Contouring.{Walking}
use Rattle.outline.proofs.Ends.{Ends}
use Rattle.outline.proofs.contour.Given as goal

abbrev pub invariant-loop-byte : goal.invariant-loop-byte
invariant-loop-byte l = Walking (Ends l.points) l.outline.verbs.now l.outline.positions.now l.walk l.byte-index l.at

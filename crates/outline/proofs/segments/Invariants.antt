-- `outline::segments` meets its contract: the walk so far stands for a contour, from which the verbs left lead to
-- where all lead, and its segments are kept. Assumes nothing.
use Rattle.outline.proofs.Contouring.{Walking}
use Rattle.outline.proofs.Storing.{Pieces}
use Rattle.outline.proofs.segments.Given as goal

abbrev pub invariant-loop-byte : goal.invariant-loop-byte
invariant-loop-byte l = Walking (Pieces l.segments.items) l.outline.verbs.now l.outline.positions.now l.walk l.byte-index l.at

-- The measure of `row::span`: how many ends of the piece lie outside the row.
use lib.ListN.{length}
use Rattle.row.proofs.Clip.{outside}
use Rattle.row.proofs.+span.Given as goal

abbrev pub decreases-span : goal.decreases-span
decreases-span l = outside (length l.cells.now) l.xa l.xb

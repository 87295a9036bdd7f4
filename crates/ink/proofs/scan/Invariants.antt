-- `ink::scan` meets its contract: row by row, what is left to do is done as before. Assumes nothing.
use Prim.Native.Nat.{◌*◌}
use Rattle.ink.proofs.Scans.{AtRow}
use Rattle.ink.proofs.scan.Given as goal

abbrev pub invariant-loop-row : goal.invariant-loop-row
invariant-loop-row l = AtRow (record { width = l.width; height = l.height }) l.mask l.initial.ink l.ink (l.row * l.width) (2 * l.row) l.row

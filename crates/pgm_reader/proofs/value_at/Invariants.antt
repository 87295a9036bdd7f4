-- `pgm_reader::value_at` meets its contract: the value of the first i digits, below 10 to the i. Assumes nothing.
use mathlib.Core.Path.{◌≡◌}
use Prim.Native.Nat.{◌<◌}
use lib.ListN.{take, drop}
use Rattle.pgm_reader.specs.Reading.{value_of}
use Rattle.pgm_reader.proofs.Runs.{ten}
use Rattle.pgm_reader.proofs.value_at.Given as goal

abbrev pub invariant-loop-i : goal.invariant-loop-i
invariant-loop-i l = (l.value ≡ value_of 0 (take l.i (drop l.from l.file))) × (l.value < ten l.i)

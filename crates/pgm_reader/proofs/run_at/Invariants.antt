-- `pgm_reader::run_at` meets its contract: what is left of the run is that of the place reached. Assumes nothing.
use mathlib.Core.Path.{◌≡◌}
use mathlib.Core.Bool.{Bool}
use Prim.Native.Nat.{ℕ, ◌+◌, ◌-◌}
use lib.ListN.{drop}
use Rattle.pgm_reader.specs.Reading.{leading}
use Rattle.pgm_reader.specs.Steps.{Tells}
use Rattle.pgm_reader.proofs.run_at.Given as goal

abbrev pub invariant-loop-at : goal.invariant-loop-at
invariant-loop-at g l =
    (kind : ℕ → Bool) → Tells (goal.F-post g l.test) kind → leading kind (drop l.from l.file) ≡ (l.at - l.from) + leading kind (drop l.at l.file)

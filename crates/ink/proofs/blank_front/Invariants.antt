-- `ink::blank_front` meets its contract: no byte from the first up to `from` has ink. Assumes nothing.
use Prim.Native.Nat.{◌-◌}
use lib.ListN.{length}
use Rattle.ink.specs.Steps.{Passed}
use Rattle.ink.proofs.blank_front.Given as goal

abbrev pub invariant-loop-from : goal.invariant-loop-from
invariant-loop-from l = Passed l.line l.first l.from

abbrev pub decreases-loop-from : goal.decreases-loop-from
decreases-loop-from l = length l.line - l.from

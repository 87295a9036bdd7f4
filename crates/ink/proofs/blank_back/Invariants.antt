-- `ink::blank_back` meets its contract: no byte from `to` up to the end has ink. Assumes nothing.
use Rattle.ink.specs.Steps.{Passed}
use Rattle.ink.proofs.blank_back.Given as goal

abbrev pub invariant-loop-to : goal.invariant-loop-to
invariant-loop-to l = Passed l.line l.to l.end

abbrev pub decreases-loop-to : goal.decreases-loop-to
decreases-loop-to l = l.to

-- `sweep::sweep_word` meets its contract: before each bit the state of proofs/Words.antt. Assumes nothing.
use Rattle.sweep.proofs.Words.{InWord}
use Rattle.sweep.proofs.sweep_word.Given as goal

abbrev pub invariant-loop-bits : goal.invariant-loop-bits
invariant-loop-bits l =
    InWord l.even_odd l.initial.line l.initial.cells l.initial.run l.base l.line l.cells l.run l.bits

abbrev pub decreases-loop-bits : goal.decreases-loop-bits
decreases-loop-bits l = l.bits

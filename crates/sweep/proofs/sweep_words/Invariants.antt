-- `sweep::sweep_words` meets its contract: before each word the state of proofs/Words.antt. Assumes nothing.
use Rattle.sweep.proofs.Words.{InRow}
use Rattle.sweep.proofs.sweep_words.Given as goal

abbrev pub invariant-loop-words : goal.invariant-loop-words
invariant-loop-words l =
    InRow l.even_odd l.initial.line l.initial.cells l.initial.touched l.line l.cells l.touched l.run l.words

abbrev pub decreases-loop-words : goal.decreases-loop-words
decreases-loop-words l = l.words

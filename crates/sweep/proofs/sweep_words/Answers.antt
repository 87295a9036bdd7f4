-- `sweep::sweep_words` meets its contract: before each word the state of proofs/Words.antt. Assumes nothing.
use mathlib.Core.Path.{refl}
use native.Mathlib.Omega.{arith}
use lib.Count.{count_trailing_zeros, trailing_le}
use Rattle.sweep.proofs.Lowest.{positive}
use Rattle.sweep.proofs.Words.{back, row_start, row_past, row_word, row_turn}
use Rattle.sweep.proofs.sweep_words.Goals as goal

pub loop-words-init : goal.loop-words-init
loop-words-init c =
    row_start refl (c.slice_known-4-1.given 0).fits c.requires.ready c.requires.line_len

pub returns-then-touched-at : goal.returns-then-touched-at
returns-then-touched-at c =
    let inv = c.loop-words.invariant in
    record {
      moved = inv.moved;
      words_done = row_past inv (positive c.loop-words-test.true) c.if-touched-at.true;
    }

pub sweep_word-run-requires : goal.sweep_word-run-requires
sweep_word-run-requires c =
    let e = back (count_trailing_zeros 64 c.loop-words.words) in
    let t = trailing_le 64 c.loop-words.words in
    record {
      reached = c.loop-words.invariant.moved.reached;
      mark_word = rw e (row_word c.loop-words.invariant (positive c.loop-words-test.true));
      base_bound = omega arith;
    }

pub loop-words-preserved : goal.loop-words-preserved
loop-words-preserved c =
    let e = back (count_trailing_zeros 64 c.loop-words.words) in
    row_turn c.loop-words.invariant (positive c.loop-words-test.true) c.if-touched-at.false
    c.sweep_word-run.auto.line c.sweep_word-run.auto.cells c.sweep_word-run.ensures.moved (rw e at c.sweep_word-run.ensures.word_done)

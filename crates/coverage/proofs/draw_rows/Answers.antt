-- `coverage::draw_rows` meets its contract: before each row the state of proofs/AllRows.antt, and the ink kept. Assumes nothing.
use native.Mathlib.Omega.{arith}
use Rattle.cells.proofs.Rows.{line_long}
use Rattle.coverage.proofs.AllRows.{rows_start, joining, drawable, rows_turn, rows_done}
use Rattle.coverage.proofs.Inking.{ink_turn}
use Rattle.coverage.proofs.draw_rows.Goals as goal

pub loop-row-init : goal.loop-row-init
loop-row-init c = (rows_start c.requires.rows_ready c.mark_words-words.ensures, c.requires.ink_kept)

pub join-n-requires : goal.join-n-requires
join-n-requires c = joining c.requires.rows_ready c.loop-row.invariant.0 c.loop-row-test.true

pub draw_row-done-requires : goal.draw_row-done-requires
draw_row-done-requires c =
    let pre = c.requires.rows_ready in
    let more = c.loop-row-test.true in
    let inv = c.loop-row.invariant.0 in
    let h = pre.size_allowed.1 in
    record {
      drawable = drawable pre inv more c.join-n.ensures.joined c.join-n.ensures.heads_after c.join-n.auto.floats;
      line_len = (line_long inv.rows more, omega arith, h);
    }

pub loop-row-preserved : goal.loop-row-preserved
loop-row-preserved c =
    let more = c.loop-row-test.true in
    let pre = c.requires.rows_ready in
    let inv = c.loop-row.invariant in (
      rows_turn pre inv.0 more c.join-n.ensures.joined c.join-n.ensures.heads_after c.join-n.auto.floats
          c.draw_row-done.auto.line c.draw_row-done.ensures.line_after c.draw_row-done.ensures.drawn c.draw_row-done.ensures.drawable_2 c.draw_row-done.auto.floats,
      ink_turn inv.0.rows pre.bytes inv.1 more c.draw_row-done.new.line c.draw_row-done.auto.line c.draw_row-done.result.ink c.draw_row-done.ensures.ink_value,
    )

pub returns : goal.returns
returns c =
    let done = rows_done c.requires.rows_ready c.loop-row.invariant.0 c.loop-row-test.false in
    record {
      mask_after = done.0;
      clean = done.1;
      ink_kept_2 = c.loop-row.invariant.1;
    }

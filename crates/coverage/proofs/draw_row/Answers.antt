-- `coverage::draw_row` meets its contract. Assumes nothing.
use mathlib.Core.Path.{ap, ◌∙◌}
use Prim.Native.Nat.{ℕ}
use lib.ListN.{take, replicate}
use Rattle.float.specs.Ops.{f0}
use Rattle.sweep.specs.Bytes.{bytes_of}
use Rattle.coverage.proofs.OneRow.{no_edges, pieces_made, row_drawn}
use Rattle.coverage.proofs.Inking.{row_grown}
use Rattle.coverage.proofs.draw_row.Goals as goal

pub returns-then-n-eq0 : goal.returns-then-n-eq0
returns-then-n-eq0 c =
    let d = no_edges c.requires.drawable c.if-n-eq0.true c.requires.line_len.0 (λ i. (c.slice_known-1.given i).fits) in
    record {
      line_after = d.bytes;
      drawn = d.drawn;
      drawable_2 = d.drawable;
      ink_value = λ e. e;
    }

pub returns : goal.returns
returns c =
    let tall = c.from_whole.ensures in
    let bottom = c.from_whole-bottom.ensures in
    let top = c.from_whole-top.ensures in
    let made = pieces_made tall top bottom c.pieces-below.ensures.pieces c.pieces-below.auto.floats in
    let marks = c.sweep-t.ensures.touched_after ∙ ap (λ (i : ℕ). replicate i 0) c.pieces-below.auto.touched in
    let r = row_drawn c.requires.drawable made c.sweep-t.ensures.line_after c.sweep-t.ensures.cells_after marks in
    let bytes = bytes_of c.args.even_odd f0 (take c.args.l.width c.pieces-below.new.floats) in
    record {
      line_after = r.bytes;
      drawn = r.drawn;
      drawable_2 = r.drawable;
      ink_value = λ e. c.grown.ensures c.args.line.now e (row_grown bytes c.sweep-t.ensures.line_after c.sweep-t.ensures.same_outside);
    }

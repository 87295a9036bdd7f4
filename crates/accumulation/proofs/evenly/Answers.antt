-- `accumulation::evenly` meets its contract: a part of the row is raised, and marked. Assumes nothing.
use mathlib.Core.Path.{◌≡◌, ap, ◌∙◌}
use Prim.Native.Nat.{◌-◌, ◌<◌}
use native.Mathlib.Omega.{arith}
use lib.ListN.{length, length-take, length-drop}
use borrow.Rule.Slice.PartMut.{put_mid, same_len_mid}
use Rattle.accumulation.proofs.Marks.{ready_marked}
use Rattle.accumulation.proofs.Adding.{evenly_run, evenly_zero, evenly_beyond, part_apart}
use Rattle.accumulation.proofs.evenly.Goals as goal

pub returns-then-area : goal.returns-then-area
returns-then-area c =
    let a = c.args in
    let cells = a.cells.now in
    let n = c.min-end.result in
    let ys = c.raise.new.cells in
    let h : a.from < n = c.if-from-end.true in
    let k : length ys ≡ n - a.from = c.raise.auto.cells ∙ simp (length-take, length-drop) (omega (arith, c.min-end.ensures)) in
    let apart = part_apart cells ys a.from n (omega arith) (omega (arith, c.min-end.ensures)) k in
    record {
      cells_after = ap (put_mid a.from (n - a.from) cells) c.raise.ensures ∙ evenly_run cells a.from a.to a.area c.min-end.ensures h c.if-area.true;
      ready = ready_marked c.requires c.mark_run.ensures (same_len_mid a.from (n - a.from) cells ys c.raise.auto.cells) apart;
    }

pub returns-else-area : goal.returns-else-area
returns-else-area c =
    let args = c.args in
    record {
      cells_after = evenly_zero args.cells.now args.from args.to args.area c.if-area.false;
      ready = c.requires;
    }

pub returns-else-from-end : goal.returns-else-from-end
returns-else-from-end c =
    let args = c.args in
    record {
      cells_after = evenly_beyond args.cells.now args.from args.to args.area (omega (arith, c.min-end.ensures));
      ready = c.requires;
    }

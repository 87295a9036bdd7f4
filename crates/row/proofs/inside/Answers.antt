-- `row::inside` meets its contract: its two columns are below 8,192. Assumes nothing.
use native.Mathlib.Omega.{arith}
use lib.Ieee.Casts.{to_unsigned-lt}
use Rattle.row.proofs.Within.{ceil_le, inside_single, inside_across}
use Rattle.row.proofs.inside.Goals as goal

pub overflow_add-cell : goal.overflow_add-cell
overflow_add-cell c = omega (arith, to_unsigned-lt 13 c.args.lo)

pub from_whole-requires : goal.from_whole-requires
from_whole-requires c = omega (arith, to_unsigned-lt 13 c.args.lo)

pub single-requires : goal.single-requires
single-requires c =
    record {
      ready = c.requires;
      cell_bound = omega (arith, to_unsigned-lt 13 c.args.lo);
    }

pub across-requires : goal.across-requires
across-requires c =
    let most = rw (← c.ceil_column-last.ensures) at (ceil_le c.args.hi) in
    record {
      ready = c.requires;
      cell_bound = (c.if-last-cell.false, most);
    }

pub returns-then-last-cell : goal.returns-then-last-cell
returns-then-last-cell c =
    let args = c.args in
    record {
      cells_after = inside_single args.cells.now args.lo args.hi args.area c.to_column-cell.ensures c.ceil_column-last.ensures
          c.if-last-cell.true c.from_whole.ensures c.single.ensures.cells_after;
      ready = c.single.ensures.ready_2;
    }

pub returns-else-last-cell : goal.returns-else-last-cell
returns-else-last-cell c =
    let args = c.args in
    record {
      cells_after = inside_across args.cells.now args.lo args.hi args.area c.to_column-cell.ensures c.ceil_column-last.ensures
          c.if-last-cell.false c.across.ensures.cells_after;
      ready = c.across.ensures.ready_2;
    }

-- `sweep::sweep_cell` meets its contract: past the run, and past the cell. Assumes nothing.
use mathlib.Core.Path.{refl}
use Rattle.sweep.proofs.Runs.{cell_moved}
use Rattle.sweep.proofs.sweep_cell.Goals as goal

pub returns : goal.returns
returns c =
    let area = c.slice_known-4-1.given c.args.cell in
    let moved = cell_moved c.requires.reached c.args.cell c.requires.from_le_cell.0 c.requires.from_le_cell.1 c.requires.from_le_cell.2 c.fill_run.ensures in
    record {
      moved = moved area c.covered-coverage.ensures c.saturating_add.ensures;
      from_value = (refl, refl);
    }

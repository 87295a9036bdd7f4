-- A mask whose cells were written: it is as long as it was, its ink is that of the cells, and by its ink it is printed.
-- Assumes nothing.
use mathlib.Core.Path.{◌≡◌, sym, ap, ◌∙◌}
use mathlib.Core.List.{List, ◌++◌}
use Prim.Native.Nat.{ℕ}
use native.Mathlib.Omega.{arith}
use lib.ListN.{length, drop}
use lib.Seq.{take_at}
use Rattle.cells.specs.declared.Size.{Size}
use Rattle.cells.specs.Cells.{cells_of}
use Rattle.cells.proofs.Places.{whole_length}
use Rattle.ink.specs.Ink.{ink_of_rows, ink_after}
use Rattle.ink.specs.Lent.{lent, LentEnough}
use Rattle.ink.specs.Print.{PrintsTheMask}
use Rattle.ink.proofs.Laws.{only_cells, numbers_of_rows, stretches_print_the_mask}

module _ (size : Size) (cells mask : List ℕ) (long : length cells ≡ cells_of size) where
  abbrev Written : List ℕ → Type 0
  Written after = after ≡ cells ++ drop (cells_of size) mask

  pub still_enough : (ink after : List ℕ) → Written after → LentEnough size (lent mask ink) → LentEnough size (lent after ink)
  still_enough ink after e enough =
      let h = ap length e ∙ whole_length size cells mask long enough.cells in
      let room = enough.cells in
      record { cells = omega arith; ink = enough.ink }

  pub written_ink : ink_of_rows size cells ≡ ink_of_rows size (cells ++ drop (cells_of size) mask)
  written_ink =
      ap (ink_of_rows size) (sym (take_at cells (drop (cells_of size) mask) (cells_of size) long)) ∙ only_cells size (cells ++ drop (cells_of size) mask)

  pub prints : (ink after : List ℕ) → Written after → LentEnough size (lent mask ink) → PrintsTheMask size after (ink_after size after ink)
  prints ink after e enough =
      stretches_print_the_mask size after (ink_after size after ink) (still_enough ink after e enough).cells (numbers_of_rows.rows size after ink)

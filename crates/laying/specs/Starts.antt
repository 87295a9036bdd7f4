-- The starts of rows that laying on keeps (document 02, change 6). Definitions only.
use Rattle.std.specs.Prelude.{◌≡◌, ℕ, zero, suc, ◌*◌, ◌-◌, ◌<◌, ◌≤◌, ℤ, pos, ◌+ℤ◌, ◌*ℤ◌}
use Rattle.cells.specs.declared.Size.{Size}
use Rattle.laying.specs.declared.Start.{Start}
use Rattle.laying.specs.Laying.{Laying}
use Rattle.laying.specs.Lines.{row_met}

-- 'keep the start of each row as a running value, .. growing by its own mask's width from row to row'
unfoldable pub running_start : ℤ → ℕ → ℕ → ℤ
running_start first width zero = first
running_start first width (suc row) = running_start first width row +ℤ pos width

-- 'for both masks, each': the mask's begins at 0
abbrev pub own_start : Laying → ℕ → ℤ
own_start l row = running_start (pos 0) l.size.width row

-- the other's begins where its row `offset y` starts, which row 0 meets: below 0, if that lies before its first row
abbrev pub other_start : Laying → ℕ → ℤ
other_start l row = running_start (l.offset.y *ℤ pos l.other_size.width) l.other_size.width row

-- 'At every row that lies in its mask it is shown equal to row times width': of two starts, at a row of the mask and at
-- the row of the other that it meets, which is row + offset y
pub record RowStarts (l : Laying) (row : ℕ) (own other : ℤ) : Type 0 where
  pub own_is : row < l.size.height → own ≡ pos (row * l.size.width)
  pub other_is : (met : ℕ) → pos row +ℤ l.offset.y ≡ pos met → met < l.other_size.height → other ≡ pos (met * l.other_size.width)

-- the starts kept are such, at every row
abbrev pub StartsKept : Type 0
StartsKept = (l : Laying) (row : ℕ) → RowStarts l row (own_start l row) (other_start l row)

-- the other's alone, by where rows first meet: what laying a row asks of the start that it is given
abbrev pub MetRowStart : Start → Size → ℕ → ℤ → Type 0
MetRowStart y size row start = y.own ≤ row → row_met y row < size.height → start ≡ pos (row_met y row * size.width)

-- how many rows meet one of the other mask's, which has `height`, from the first that does
abbrev pub rows_met : Start → ℕ → ℕ
rows_met y height = height - y.other

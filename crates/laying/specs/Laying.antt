-- One mask laid on another: `intersect` of coverage.rs (document 01, 'Laying on'). Definitions only.
use Rattle.std.specs.Prelude.{ℕ, zero, suc, ◌+◌, ◌*◌, ◌/◌, cond, ◌&&◌, List, [], ◌∷◌, ltb, ℤ, pos, negsuc, ◌+ℤ◌}
use Rattle.cells.specs.declared.Size.{Size}
use Rattle.cells.specs.Cells.{byte_at}
use Rattle.cells.specs.Rows.{rows_from}
use Rattle.laying.specs.declared.Offset.{Offset}

-- what a laying-on is given beside the bytes of the two masks: their sizes, and the offset
pub record Laying : Type 0 where
  pub size : Size
  pub other_size : Size
  pub offset : Offset

abbrev pub laying : Size → Size → Offset → Laying
laying size other_size offset = record { size = size; other_size = other_size; offset = offset }

-- 'It becomes (cell × other + 127) / 255, rounded down'
abbrev pub laid_byte : ℕ → ℕ → ℕ
laid_byte cell other = (cell * other + 127) / 255

-- a cell that meets the other mask, of this size, at the place (x, y): '.. or 0 where the other has no cell'
abbrev pub met_at : Size → List ℕ → ℕ → ℤ → ℤ → ℕ
met_at size other cell (pos x) (pos y) = cond (ltb x size.width && ltb y size.height) (laid_byte cell (byte_at size other x y)) 0
met_at size other cell (pos x) (negsuc y) = 0
met_at size other cell (negsuc x) y = 0

-- 'Cell (column, row) meets the other mask at (column + offset x, row + offset y), offsets any signed 32-bit numbers.'
abbrev pub laid_cell : Laying → List ℕ → ℕ → ℕ → ℕ → ℕ
laid_cell l other cell column row = met_at l.other_size other cell (pos column +ℤ l.offset.x) (pos row +ℤ l.offset.y)

-- n cells of a row, from a column on
unfoldable pub laid_line : Laying → List ℕ → List ℕ → ℕ → ℕ → ℕ → List ℕ
laid_line l mask other row zero column = []
laid_line l mask other row (suc n) column =
    laid_cell l other (byte_at l.size mask column row) column row ∷ laid_line l mask other row n (suc column)

abbrev pub laid_row : Laying → List ℕ → List ℕ → ℕ → List ℕ
laid_row l mask other row = laid_line l mask other row l.size.width 0

-- the whole mask, rows first
abbrev pub laying_of : Laying → List ℕ → List ℕ → List ℕ
laying_of l mask other = rows_from (laid_row l mask other) l.size.height 0

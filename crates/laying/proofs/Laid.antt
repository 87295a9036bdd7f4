-- A laid mask as it is defined, cell by cell. Assumes nothing.
use mathlib.Core.Path.{◌≡◌, refl, ap, ap₂, ◌∙◌}
use mathlib.Core.List.{List, ◌∷◌, ◌++◌}
use Prim.Native.Nat.{ℕ, zero, suc, ◌+◌, ◌*◌, ◌<◌, ◌≤◌}
use native.Mathlib.Nat.{not-suc-le-zero, le_of_suc-le-suc}
use native.Mathlib.Omega.{arith}
use lib.ListN.{length, get_or, take}
use lib.Seq.{get_or-take}
use Rattle.cells.specs.Cells.{cells_of, byte_at}
use Rattle.cells.specs.Rows.{rows_from}
use Rattle.cells.proofs.Rows.{row_room}
use Rattle.cells.proofs.Places.{mask_length, mask_byte}
use Rattle.laying.specs.Laying.{Laying, laid_cell, laid_line, laid_row, laying_of}

module _ (l : Laying) (mask other : List ℕ) where
  -- what a cell becomes
  abbrev pub met : ℕ → ℕ → ℕ
  met column row = laid_cell l other (byte_at l.size mask column row) column row

  line_length : (row n column : ℕ) → length (laid_line l mask other row n column) ≡ n
  unfolding laid_line
  line_length row zero column = refl
  line_length row (suc n) column = ap suc (line_length row n (suc column))

  line_get : (row n column c : ℕ) → c < n → get_or (laid_line l mask other row n column) c 0 ≡ met (column + c) row
  unfolding laid_line
  line_get row zero column c h = absurd (not-suc-le-zero h)
  line_get row (suc n) column zero h = let e : column ≡ column + 0 = omega arith in ap (λ (k : ℕ). met k row) e
  line_get row (suc n) column (suc c) h =
      let e : suc column + c ≡ column + suc c = omega arith in
      line_get row n (suc column) c (le_of_suc-le-suc h) ∙ ap (λ (k : ℕ). met k row) e

  pub row_length : (row : ℕ) → length (laid_row l mask other row) ≡ l.size.width
  row_length row = line_length row l.size.width 0

  pub row_get : (row column : ℕ) → column < l.size.width → get_or (laid_row l mask other row) column 0 ≡ met column row
  row_get row column h = let z : 0 + column ≡ column = omega arith in line_get row l.size.width 0 column h ∙ ap (λ (k : ℕ). met k row) z

  pub laying_length : length (laying_of l mask other) ≡ cells_of l.size
  laying_length = mask_length l.size (laid_row l mask other) row_length

  pub laying_byte : (column row : ℕ) → column < l.size.width → row < l.size.height → byte_at l.size (laying_of l mask other) column row ≡ met column row
  laying_byte column row c r = mask_byte l.size (laid_row l mask other) row_length column row c r ∙ row_get row column c

  -- of the lent mask only the first width × height cells are looked at
  abbrev front : List ℕ
  front = take (cells_of l.size) mask

  line_front : (row n column : ℕ) → row < l.size.height → column + n ≤ l.size.width → laid_line l front other row n column ≡ laid_line l mask other row n column
  unfolding laid_line
  line_front row zero column r h = refl
  line_front row (suc n) column r h =
      let room = row_room row l.size.width l.size.height (cells_of l.size) r (omega arith) in
      ap₂ (λ (cell : ℕ) (cells : List ℕ). laid_cell l other cell column row ∷ cells)
      (get_or-take (cells_of l.size) mask (row * l.size.width + column) 0 (omega arith)) (line_front row n (suc column) r (omega arith))

  rows_front : (n row : ℕ) → row + n ≤ l.size.height → rows_from (laid_row l front other) n row ≡ rows_from (laid_row l mask other) n row
  unfolding rows_from
  rows_front zero row h = refl
  rows_front (suc n) row h =
      ap₂ (λ (a b : List ℕ). a ++ b) (line_front row l.size.width 0 (omega arith) (omega arith)) (rows_front n (suc row) (omega arith))

  pub laying_front : laying_of l front other ≡ laying_of l mask other
  laying_front = rows_front l.size.height 0 (omega arith)

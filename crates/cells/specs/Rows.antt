-- A mask as rows, one after another (document 01, 'The masks': 'rows first'). Definitions only.
use Rattle.std.specs.Prelude.{ℕ, zero, suc, List, [], ◌++◌, take, drop}

-- n rows from `row` on
unfoldable pub rows_from : (ℕ → List ℕ) → ℕ → ℕ → List ℕ
rows_from line zero row = []
rows_from line (suc n) row = line row ++ rows_from line n (suc row)

-- a mask whose n rows from `row` on, `width` bytes each, are changed, each line by its row's change
unfoldable pub rows_changed : (ℕ → List ℕ → List ℕ) → ℕ → ℕ → ℕ → List ℕ → List ℕ
rows_changed change width zero row mask = mask
rows_changed change width (suc n) row mask =
    change row (take width mask) ++ rows_changed change width n (suc row) (drop width mask)

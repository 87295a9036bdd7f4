-- How long a drawing is, and where a cell's byte stands in it. Assumes nothing.
use mathlib.Core.Path.{◌≡◌, refl, ap, ◌∙◌}
use mathlib.Core.List.{List, [], ◌∷◌}
use Prim.Native.Nat.{ℕ, suc, ◌<◌}
use lib.ListN.{length, get_or, replicate, length-replicate}
use Rattle.word_list.specs.Words.{Group}
use Rattle.cells.specs.declared.Size.{Size}
use Rattle.cells.specs.Cells.{cells_of, byte_at}
use Rattle.cells.proofs.Places.{mask_length, mask_byte}
use Rattle.sweep.specs.Bytes.{add_bytes}
use Rattle.coverage.specs.Drawing.{group_row, add_groups, drawing_row, drawing_of}

pub length_added : (line bytes : List ℕ) → length (add_bytes line bytes) ≡ length line
unfolding add_bytes
length_added [] bs = refl
length_added (a ∷ l) [] = refl
length_added (a ∷ l) (b ∷ bs) = ap suc (length_added l bs)

groups_length : (size : Size) (row : ℕ) (gs : List Group) (line : List ℕ) → length (add_groups size row line gs) ≡ length line
unfolding add_groups
groups_length size row [] line = refl
groups_length size row (g ∷ gs) line = groups_length size row gs (add_bytes line (group_row size g row)) ∙ length_added line (group_row size g row)

module _ (size : Size) (gs : List Group) where
  row_length : (row : ℕ) → length (drawing_row size gs row) ≡ size.width
  row_length row = groups_length size row gs (replicate size.width 0) ∙ length-replicate size.width 0

  pub drawing_length : length (drawing_of size gs) ≡ cells_of size
  drawing_length = mask_length size (drawing_row size gs) row_length

  pub drawing_byte : (column row : ℕ) → column < size.width → row < size.height
      → byte_at size (drawing_of size gs) column row ≡ get_or (drawing_row size gs row) column 0
  drawing_byte column row c r = mask_byte size (drawing_row size gs) row_length column row c r

-- A byte of a drawing is a byte. Assumes nothing.
use mathlib.Core.List.{List, [], ◌∷◌}
use Prim.Native.Nat.{ℕ, zero, suc, ◌≤◌}
use native.Mathlib.Omega.{arith}
use lib.ListN.{get_or, replicate}
use Rattle.word_list.specs.Words.{Group}
use Rattle.sweep.specs.Bytes.{add_bytes}
use Rattle.cells.specs.declared.Size.{Size}
use Rattle.coverage.specs.Drawing.{group_row, add_groups, drawing_row}

added_small : (line bytes : List ℕ) (c : ℕ) → ((i : ℕ) → get_or line i 0 ≤ 255) → get_or (add_bytes line bytes) c 0 ≤ 255
unfolding add_bytes
added_small [] bytes c h = h c
added_small (a ∷ l) [] c h = h c
added_small (a ∷ l) (b ∷ bs) zero h = omega arith
added_small (a ∷ l) (b ∷ bs) (suc c) h = added_small l bs c (λ i. h (suc i))

groups_small : (size : Size) (row : ℕ) (gs : List Group) (line : List ℕ) → ((i : ℕ) → get_or line i 0 ≤ 255) → (c : ℕ) → get_or (add_groups size row line gs) c 0 ≤ 255
unfolding add_groups
groups_small size row [] line h c = h c
groups_small size row (g ∷ gs) line h c = groups_small size row gs (add_bytes line (group_row size g row)) (λ i. added_small line (group_row size g row) i h) c

zeros_small : (n i : ℕ) → get_or (replicate n 0) i 0 ≤ 255
zeros_small zero zero = omega arith
zeros_small zero (suc i) = omega arith
zeros_small (suc n) zero = omega arith
zeros_small (suc n) (suc i) = zeros_small n i

pub drawn_small : (size : Size) (gs : List Group) (row column : ℕ) → get_or (drawing_row size gs row) column 0 ≤ 255
drawn_small size gs row column = groups_small size row gs (replicate size.width 0) (zeros_small size.width) column

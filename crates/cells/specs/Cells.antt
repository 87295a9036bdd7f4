-- A mask's size and its cells (document 01, 'The masks'). Definitions only.
use Rattle.std.specs.Prelude.{ℕ, ◌+◌, ◌*◌, ◌≤◌, ◌<◌, Bool, ◌||◌, List, ◌⊎◌, ltb, get_or}
use Rattle.cells.specs.declared.Size.{Size}

-- 'A mask is one byte a cell, rows first, in a lent buffer of at least width × height bytes.'
abbrev pub cells_of : Size → ℕ
cells_of size = size.width * size.height

abbrev pub byte_at : Size → List ℕ → ℕ → ℕ → ℕ
byte_at size mask column row = get_or mask (row * size.width + column) 0

-- 'a mask width or height over 4,096'
abbrev pub too_large : Size → Bool
too_large size = ltb 4096 size.width || ltb 4096 size.height

-- the same as statements, and that it is not so
abbrev pub TooLarge : Size → Type 0
TooLarge size = (4096 < size.width) ⊎ (4096 < size.height)

abbrev pub SizeAllowed : Size → Type 0
SizeAllowed size = (size.width ≤ 4096) × (size.height ≤ 4096)

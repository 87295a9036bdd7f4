-- What is lent for a mask that a call writes: its bytes, and beside them the numbers of its ink (document 02, change 9,
-- 'Which columns of a row have ink'). Definitions only.
use Rattle.std.specs.Prelude.{ℕ, ◌*◌, ◌≤◌, ◌<◌, Bool, ◌||◌, ◌⊎◌, List, ltb, length}
use Rattle.cells.specs.declared.Size.{Size}
use Rattle.cells.specs.Cells.{cells_of}

-- how many bytes and how many numbers
pub record Lent : Type 0 where
  pub mask : ℕ
  pub ink : ℕ

abbrev pub lent : List ℕ → List ℕ → Lent
lent mask ink = record { mask = length mask; ink = length ink }

-- 'It lives in lent memory of two 16-bit numbers a row.'
abbrev pub ink_needed : Size → ℕ
ink_needed size = 2 * size.height

-- 'mask .. too short', and 'Too little memory for it is number 4, with the mask'
abbrev pub lent_short : Size → Lent → Bool
lent_short size lent = ltb lent.mask (cells_of size) || ltb lent.ink (ink_needed size)

-- the same as statements, and that it is not so
abbrev pub LentShort : Size → Lent → Type 0
LentShort size lent = (lent.mask < cells_of size) ⊎ (lent.ink < ink_needed size)

pub record LentEnough (size : Size) (lent : Lent) : Type 0 where
  pub cells : cells_of size ≤ lent.mask
  pub ink : ink_needed size ≤ lent.ink

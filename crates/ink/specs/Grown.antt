-- Ink that is kept while bytes are added to a mask: what the functions that draw promise to each other. Definitions only.
use Rattle.std.specs.Prelude.{◌≡◌, ◌⊎◌, List, ℕ, ◌≤◌, ◌<◌, length, get_or}
use Rattle.cells.specs.declared.Size.{Size}
use Rattle.ink.specs.Ink.{Scanned}
use Rattle.ink.specs.Lent.{ink_needed}

-- a row to which bytes were added from one column up to another: the others are as they were, and none became 0
pub record Grown (before after : List ℕ) (from to : ℕ) : Type 0 where
  pub long : length after ≡ length before
  pub outside : (column : ℕ) → (column < from) ⊎ (to ≤ column) → get_or after column 0 ≡ get_or before column 0
  pub never_less : (column : ℕ) → get_or after column 0 ≡ 0 → get_or before column 0 ≡ 0

-- two numbers for each row of a mask, no more, and they are what a scan finds
pub record InkKept (size : Size) (mask ink : List ℕ) : Type 0 where
  pub long : length ink ≡ ink_needed size
  pub scanned : Scanned size mask ink

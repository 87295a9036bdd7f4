-- Which columns of a row have ink (document 02, change 9, 'Which columns of a row have ink'). Definitions only.
use Rattle.std.specs.Prelude.{ℕ, zero, suc, ◌*◌, ◌-◌, ◌≤◌, ◌<◌, ◌≡◌, ◌⊎◌, List, [], ◌∷◌, ◌++◌, length, get_or, take, drop}
use Rattle.cells.specs.declared.Size.{Size}
use Rattle.cells.specs.Rows.{rows_from}
use Rattle.ink.specs.declared.Stretch.{Stretch}
use Rattle.ink.specs.Lent.{ink_needed}

-- the stretch of a row, by its first byte and the stretch of the bytes behind it: a byte that is not 0 starts it; behind
-- a 0 it lies one column further, or there is none
abbrev pub ink_behind : ℕ → ℕ → ℕ → Stretch
ink_behind (suc byte) first end = record { first = 0; end = suc end }
ink_behind zero first zero = record { first = 0; end = 0 }
ink_behind zero first (suc end) = record { first = suc first; end = suc (suc end) }

-- 'the first column whose byte is not 0 and the column after the last such one, or 0 and 0 for a blank row'
unfoldable pub ink_of : List ℕ → Stretch
ink_of [] = record { first = 0; end = 0 }
ink_of (byte ∷ line) = ink_behind byte (ink_of line).first (ink_of line).end

-- a row's bytes
abbrev pub line_at : Size → List ℕ → ℕ → List ℕ
line_at size mask row = take size.width (drop (row * size.width) mask)

-- 'two 16-bit numbers a row'
abbrev pub ink_row : Size → List ℕ → ℕ → List ℕ
ink_row size mask row = (ink_of (line_at size mask row)).first ∷ (ink_of (line_at size mask row)).end ∷ []

-- 'what a scan of the mask finds', row by row
abbrev pub ink_of_rows : Size → List ℕ → List ℕ
ink_of_rows size mask = rows_from (ink_row size mask) size.height 0

-- the numbers after it: 'Numbers past the last row stay as they were.'
abbrev pub ink_after : Size → List ℕ → List ℕ → List ℕ
ink_after size mask ink = ink_of_rows size mask ++ drop (ink_needed size) ink

-- the two numbers of a row
abbrev pub stretch_at : List ℕ → ℕ → Stretch
stretch_at ink row = record { first = get_or ink (2 * row) 0; end = get_or ink (suc (2 * row)) 0 }

-- they are what a scan finds, at every row
abbrev pub Scanned : Size → List ℕ → List ℕ → Type 0
Scanned size mask ink = (row : ℕ) → row < size.height → stretch_at ink row ≡ ink_of (line_at size mask row)

-- ---- the sentence itself, of a row and a stretch

-- no byte has ink: both numbers are 0
pub record Blank (line : List ℕ) (s : Stretch) : Type 0 where
  pub first_0 : s.first ≡ 0
  pub end_0 : s.end ≡ 0
  pub zeros : (column : ℕ) → get_or line column 0 ≡ 0

-- the first and the last byte of the stretch have ink, and none outside it has
pub record Inked (line : List ℕ) (s : Stretch) : Type 0 where
  pub some : s.first < s.end
  pub within : s.end ≤ length line
  pub at_first : get_or line s.first 0 ≡ 0 → ⊥
  pub at_last : get_or line (s.end - 1) 0 ≡ 0 → ⊥
  pub before : (column : ℕ) → column < s.first → get_or line column 0 ≡ 0
  pub after : (column : ℕ) → s.end ≤ column → get_or line column 0 ≡ 0

abbrev pub IsInk : List ℕ → Stretch → Type 0
IsInk line s = Blank line s ⊎ Inked line s

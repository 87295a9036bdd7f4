-- Which cells of a row may hold area: `Row::touched` and `Row::words` of coverage.rs, a bit for each cell and before
-- them a bit for each word of those bits. Definitions only.
--
--     touched:  [ a bit for each word behind this one ][ a bit for each of 64 cells ][ .. of the next 64 ] ..
use Rattle.std.specs.Prelude.{◌≡◌, List, ℕ, ◌+◌, ◌/◌, ◌%◌, ◌^◌, ◌≤◌, ◌<◌, length, get_or}
use Rattle.std.specs.Float.{nan}
use Rattle.float.specs.Ops.{f0}
use Rattle.accumulation.specs.Area.{Cells}

-- how many words of marks a row has: one for each 64 of its cells, and the one before them
abbrev pub mark_words : ℕ → ℕ
mark_words width = (width + 63) / 64 + 1

-- the bit at a place of a word
abbrev pub bit_of : ℕ → ℕ → ℕ
bit_of word place = word / 2 ^ place % 2

-- a cell's bit is clear, and a word's is
abbrev pub Clear : List ℕ → ℕ → Type 0
Clear touched cell = bit_of (get_or touched (cell / 64 + 1) 0) (cell % 64) ≡ 0

abbrev pub WordClear : List ℕ → ℕ → Type 0
WordClear touched word = bit_of (get_or touched 0 0) word ≡ 0

-- a word whose bit is clear is 0
abbrev pub Summed : List ℕ → Type 0
Summed touched = (word : ℕ) → word < 64 → WordClear touched word → get_or touched (word + 1) 0 ≡ 0

-- a row and its marks: a cell whose bit is clear holds 0.0
pub record Ready (cells : Cells) (touched : List ℕ) : Type 0 where
  pub narrow : length cells ≤ 4096
  pub words : length touched ≡ mark_words (length cells)
  pub marked : (cell : ℕ) → cell < length cells → Clear touched cell → get_or cells cell nan ≡ f0
  pub summed : Summed touched

-- the marks after the cells from `from` up to `to` were marked: those are set, and each that was set still is
pub record Marked (before after : List ℕ) (from to : ℕ) : Type 0 where
  pub long : length after ≡ length before
  pub own : (cell : ℕ) → from ≤ cell → cell < to → Clear after cell → ⊥
  pub kept : (cell : ℕ) → Clear after cell → Clear before cell
  pub summed : Summed before → Summed after

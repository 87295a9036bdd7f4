-- What the functions of a row's sweep promise to each other. The bytes themselves are those of Bytes.antt.
-- Definitions only.
use Rattle.std.specs.Prelude.{◌≡◌, ◌⊎◌, Bool, List, ◌++◌, map, ℕ, ◌+◌, ◌-◌, ◌≤◌, ◌<◌, min, length, get_or, take, drop, Float}
use Rattle.std.specs.Float.{nan}
use Rattle.float.specs.Ops.{f0, ◌⊕◌}
use Rattle.accumulation.specs.Area.{Cells}
use Rattle.sweep.specs.Bytes.{covered_of, bytes_of, add_bytes}
use Rattle.accumulation.specs.Marks.{bit_of}
use Rattle.sweep.specs.declared.Run.{Run}

-- a byte more, stopping at 255
abbrev pub plus_of : ℕ → ℕ → ℕ
plus_of by a = min (a + by) 255

-- a line whose bytes from `from` up to `to` are `by` more
abbrev pub filled_of : ℕ → ℕ → ℕ → List ℕ → List ℕ
filled_of from to by line = take from line ++ (map (plus_of by) (take (to - from) (drop from line)) ++ drop (to - from) (drop from line))

-- the cells from `from` up to `to` hold 0.0
abbrev pub Blank : Cells → ℕ → ℕ → Type 0
Blank cells from to = (cell : ℕ) → from ≤ cell → cell < to → cell < length cells → get_or cells cell nan ≡ f0

-- the line that a row comes to, where a run of it is reached: the bytes before the run are right, and those from it
-- on are still to be added
abbrev pub line_from : Bool → List ℕ → Cells → Run → List ℕ
line_from even_odd line cells run = take run.from line ++ add_bytes (drop run.from line) (bytes_of even_odd run.winding (drop run.from cells))

-- adding 0.0 changes nothing
abbrev pub Steady : Float → Type 0
Steady winding = winding ⊕ f0 ≡ winding

-- A run of a row: its coverage is that of its winding, and 0.0 more leaves its winding as it is
pub record Reached (even_odd : Bool) (line : List ℕ) (cells : Cells) (run : Run) : Type 0 where
  pub same : length line ≡ length cells
  pub within : run.from ≤ length line
  pub steady : Steady run.winding
  pub byte : run.coverage ≡ covered_of even_odd run.winding

-- from a run to a later one: the line that the row comes to is the same, and the bytes from that run on are as they were
pub record Moved (even_odd : Bool) (line : List ℕ) (cells : Cells) (run : Run) (line' : List ℕ) (cells' : Cells) (run' : Run) : Type 0 where
  pub reached : Reached even_odd line' cells' run'
  pub line_same : line_from even_odd line cells run ≡ line_from even_odd line' cells' run'
  pub since : run.from ≤ run'.from
  pub behind : (column : ℕ) → run'.from ≤ column → get_or line' column 0 ≡ get_or line column 0

-- a word of marks, for the cells from `base` on: a cell from the run on whose bit is clear holds 0.0
pub record MarkWord (cells : Cells) (run : Run) (base word : ℕ) : Type 0 where
  pub ahead : run.from ≤ base
  pub clear : (cell : ℕ) → run.from ≤ cell → cell < base + 64 → cell < length cells → (base ≤ cell → bit_of word (cell - base) ≡ 0) → get_or cells cell nan ≡ f0

-- the word's cells are done: none from the run on holds area, and the others are as they were
pub record WordDone (cells cells' : Cells) (run run' : Run) (base : ℕ) : Type 0 where
  pub reach : run'.from ≤ base + 64
  pub blank : Blank cells' run.from (base + 64)
  pub kept : (cell : ℕ) → (cell < run.from) ⊎ (base + 64 ≤ cell) → get_or cells' cell nan ≡ get_or cells cell nan

-- a row's words are done: no cell holds area, and no word a mark
pub record WordsDone (cells : Cells) (touched : List ℕ) : Type 0 where
  pub blank : Blank cells 0 (length cells)
  pub words : (word : ℕ) → word + 1 < length touched → get_or touched (word + 1) 0 ≡ 0

-- the bytes before `from` and from `to` on are as they were
pub record SameOutside (before after : List ℕ) (from to : ℕ) : Type 0 where
  pub within : to ≤ length after
  pub same : (column : ℕ) → (column < from) ⊎ (to ≤ column) → get_or after column 0 ≡ get_or before column 0

-- Why the definitions of Row.antt may be believed, where they are not the Rust's letter by letter.
-- `proofs/Floor.antt` and `proofs/Clip.antt` have an element of each statement. Statements only.
use Rattle.std.specs.Prelude.{◌≡◌, true, ℕ, ◌+◌, ◌<◌, ℤ, Float}
use Rattle.std.specs.Float.{fin}
use Rattle.std.specs.Float.Ieee.{le}
use Rattle.float.specs.Ops.{f0}
use Rattle.whole.specs.Whole.{floor_of, ceil_of, column_of, of_whole}
use Rattle.accumulation.specs.Area.{Cells}
use Rattle.row.specs.Row.{ceil_column, span_by}

-- The Rust's `x.floor()` is x's column as a float, its `x.floor() as usize` is x's column, and its `x.ceil() as
-- usize` is `ceil_column x`
pub record Columns (x : Float) : Type 0 where
  pub floor : floor_of x ≡ of_whole (column_of x)
  pub floor_column : column_of (floor_of x) ≡ column_of x
  pub ceil_column_law : column_of (ceil_of x) ≡ ceil_column x

-- This holds of every number from 0 on, other than -0, whose column is below 8,191, so of every number within a row
-- but -0. (The floor of -0 is -0. A row takes two differences with a floor: 1 − (lo − floor), which is 1 for both
-- zeros, and the middle, which is over 0 there, less the floor)
abbrev pub ColumnsAre : Type 0
ColumnsAre = (x : Float) → le f0 x ≡ true → ((e : ℤ) → x ≡ fin true 0 e → ⊥) → column_of x < 8191 → Columns x

-- Document 01: `span` 'clips an end and calls itself with one end fewer outside'. Three calls are enough for every
-- piece, whatever floats it has: a fourth, and any number of further ones, change nothing
abbrev pub ThreeAreEnough : Type 0
ThreeAreEnough = (n : ℕ) (cells : Cells) (xa xb area : Float) → span_by (4 + n) cells xa xb area ≡ span_by 3 cells xa xb area

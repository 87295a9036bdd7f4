-- What an edge's piece adds to a row: `Row::span` of coverage.rs, let by let, over IEEE 754's binary32. Definitions
-- only. For a number from 0 to the width, -0 apart, the Rust's `lo.floor() as usize` is `column_of lo`, its
-- `lo.floor()` is that column as a float, and `hi.ceil() as usize` is `ceil_column hi` (`ColumnsAre` in Laws.antt,
-- which says what is with -0).
use Rattle.std.specs.Prelude.{ℕ, zero, suc, ◌+◌, cond, leb, length, Float}
use Rattle.std.specs.Float.Ieee.{lt, le}
use Rattle.float.specs.Ops.{◌⊕◌, ◌⊖◌, ◌⊗◌, ◌⊘◌, f0, f½, f1}
use Rattle.whole.specs.Whole.{column_of, of_whole}
use Rattle.accumulation.specs.Area.{Cells, add_of, single_of, across_of}

-- the first column that is not below hi
unfoldable pub ceil_column : Float → ℕ
ceil_column hi = cond (lt (of_whole (column_of hi)) hi) (column_of hi + 1) (column_of hi)

-- a piece that lies within the row
unfoldable pub inside_of : Cells → Float → Float → Float → Cells
unfolding single_of across_of ceil_column
inside_of cells lo hi area =
    cond (leb (ceil_column hi) (column_of lo + 1))
    (single_of cells (column_of lo) (f½ ⊗ (lo ⊕ hi) ⊖ of_whole (column_of lo)) area)
    (across_of cells lo hi (column_of lo) (ceil_column hi) area)

-- A piece from lo to hi, `onward` being `span` for what is left once an end is cut off at the row's side (document
-- 01: it 'clips an end and calls itself with one end fewer outside'). 'What lies left of the mask counts for every
-- cell of the row, what lies right of it for none.'
unfoldable pub clip_of : (Cells → Float → Float → Float → Cells) → Cells → Float → Float → Float → Cells
unfolding add_of inside_of
clip_of onward cells lo hi area =
    let width = of_whole (length cells) in
    let outside = lo ⊘ (lo ⊖ hi) in
    let inside = (width ⊖ lo) ⊘ (hi ⊖ lo) in
    cond (le width lo) cells
    (cond (le hi f0) (add_of cells 0 area)
    (cond (lt lo f0) (onward (add_of cells 0 (area ⊗ outside)) f0 hi (area ⊗ (f1 ⊖ outside)))
    (cond (lt width hi) (onward cells lo width (area ⊗ inside))
    (inside_of cells lo hi area))))

-- the end of a piece that lies further left, and the other
abbrev pub left_end : Float → Float → Float
left_end xa xb = cond (le xa xb) xa xb

abbrev pub right_end : Float → Float → Float
right_end xa xb = cond (le xa xb) xb xa

-- `Row::span`, of at most n calls of itself: the piece of an edge from xa at its top to xb at its bottom, `area` the
-- height that it spans, signed. Two ends can be cut off, so 3 calls are enough for every piece (`ThreeAreEnough` in
-- Laws.antt)
unfoldable pub span_by : ℕ → Cells → Float → Float → Float → Cells
unfolding clip_of
span_by zero cells xa xb area = cells
span_by (suc n) cells xa xb area = clip_of (span_by n) cells (left_end xa xb) (right_end xa xb) area

abbrev pub span_of : Cells → Float → Float → Float → Cells
span_of = span_by 3

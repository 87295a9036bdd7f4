-- The area in a row's cells, and what a piece of an edge within the row adds to it: part of `Row` of coverage.rs, let
-- by let, over IEEE 754's binary32. Definitions only. In `across_of`, `cell` is the Rust's floor of lo and `last`
-- its ceiling of hi (specs/Row.antt of crate row).
use Rattle.std.specs.Prelude.{ℕ, zero, suc, ◌+◌, ◌-◌, cond, List, ltb, eqb, length, get_or, set, Float}
use Rattle.std.specs.Float.{nan}
use Rattle.std.specs.Float.Ieee.{ne}
use Rattle.float.specs.Ops.{◌⊕◌, ◌⊖◌, ◌⊗◌, ◌⊘◌, f0, f½, f1}
use Rattle.whole.specs.Whole.{of_whole}

-- a row's cells, each with the signed area that it holds (`Row::area`)
abbrev pub Cells : Type 0
Cells = List Float

-- `Row::add`: `area` more in a cell of the row. Nothing of it lies right of the row
unfoldable pub add_of : Cells → ℕ → Float → Cells
add_of cells cell area = cond (ltb cell (length cells)) (cond (ne area f0) (set cells cell (get_or cells cell nan ⊕ area)) cells) cells

-- the same area in n cells from `cell` on (the loop over `between`)
unfoldable pub evenly_of : ℕ → Cells → ℕ → Float → Cells
unfolding add_of
evenly_of zero cells cell area = cells
evenly_of (suc n) cells cell area = evenly_of n (add_of cells cell area) (cell + 1) area

-- 'Inside one cell: what is right of the edge's middle is the cell's.'
unfoldable pub single_of : Cells → ℕ → Float → Float → Cells
unfolding add_of
single_of cells cell middle area = add_of (add_of cells cell (area ⊗ (f1 ⊖ middle))) (cell + 1) (area ⊗ middle)

-- what an edge across cells adds between its first cell and its last
unfoldable pub between_of : Cells → ℕ → ℕ → Float → Float → Float → Float → Float → Cells
unfolding add_of evenly_of
between_of cells cell last area per_cell enters head tail =
    let second = per_cell ⊗ (enters ⊕ f½) in
    let before_last = second ⊕ of_whole (last - cell - 3) ⊗ per_cell in
    cond (eqb last (cell + 2))
    (add_of cells (cell + 1) (area ⊗ (f1 ⊖ head ⊖ tail)))
    (add_of (evenly_of (last - 1 - (cell + 2)) (add_of cells (cell + 1) (area ⊗ (second ⊖ head))) (cell + 2) (area ⊗ per_cell)) (last - 1)
    (area ⊗ (f1 ⊖ before_last ⊖ tail)))

-- 'Across cells the edge's height is spread evenly along x: a triangle in the first and the last cell, a trapezoid in
-- between.'
unfoldable pub across_of : Cells → Float → Float → ℕ → ℕ → Float → Cells
unfolding add_of between_of
across_of cells lo hi cell last area =
    let per_cell = f1 ⊘ (hi ⊖ lo) in
    let enters = f1 ⊖ (lo ⊖ of_whole cell) in
    let leaves = hi ⊖ (of_whole last ⊖ f1) in
    let head = f½ ⊗ per_cell ⊗ enters ⊗ enters in
    let tail = f½ ⊗ per_cell ⊗ leaves ⊗ leaves in
    add_of (between_of (add_of cells cell (area ⊗ head)) cell last area per_cell enters head tail) last (area ⊗ tail)

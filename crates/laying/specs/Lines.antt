-- What the functions that lay a mask promise to each other. Definitions only.
use Rattle.std.specs.Prelude.{ℕ, suc, ◌+◌, ◌*◌, ◌-◌, cond, List, [], ◌∷◌, ◌++◌, ltb, ℤ, pos, negsuc, length, take, drop, replicate}
use Rattle.cells.specs.declared.Size.{Size}
use Rattle.laying.specs.declared.Start.{Start}
use Rattle.laying.specs.Laying.{laid_byte}

-- the first two that meet, where ours at n meets the other's at n + offset
abbrev pub start_of : ℤ → Start
start_of (pos n) = record { own = 0; other = n }
start_of (negsuc n) = record { own = suc n; other = 0 }

-- cells that meet others from their first on, and 0 past the others' last
unfoldable pub under_of : List ℕ → List ℕ → List ℕ
under_of [] others = []
under_of (cell ∷ cells) [] = 0 ∷ under_of cells []
under_of (cell ∷ cells) (other ∷ others) = laid_byte cell other ∷ under_of cells others

-- a line that meets a row of others from a start on
abbrev pub line_of : Start → List ℕ → List ℕ → List ℕ
line_of x line others = replicate (length (take x.own line)) 0 ++ under_of (drop x.own line) (drop x.other others)

-- the row of the other mask that a row from the start on meets
abbrev pub row_met : Start → ℕ → ℕ
row_met y row = row - y.own + y.other

-- a row's line, under the row of the other mask that it meets
abbrev pub row_of : Start → Start → Size → List ℕ → ℕ → List ℕ → List ℕ
row_of x y size other row line =
    cond (ltb row y.own) (replicate (length line) 0)
    (cond (ltb (row_met y row) size.height) (line_of x line (take size.width (drop (row_met y row * size.width) other))) (replicate (length line) 0))

-- Which edges count for a cell, and what a cell may differ by when only these are counted: at most as much as by
-- document 01's count, which takes every edge that crosses the cell's row, and often less (docs/BOUND.md). From the
-- exact edges of winding/specs alone. Definitions only.
use Rattle.std.specs.Prelude.{List, [], ◌∷◌, Bool, cond, ◌&&◌, ◌||◌, ℕ, suc, ◌+◌}
use Rattle.fraction.specs.Fraction.{Fraction, ltᵇ, natᶠ, ◌/2^◌, ◌+ᶠ◌, minᶠ, maxᶠ}
use Rattle.word_list.specs.Words.{Group}
use Rattle.winding.specs.Winding.{ExactPoint, ExactEdge, exact_edges, crossing, crosses}

-- Of an edge from its upper end a to its lower end b: somewhere in the row it is left of column + 2, so less than two
-- columns right of the cell's own. It is straight, so where it enters the row and where it leaves it decide
abbrev pub left_of : ExactPoint → ExactPoint → ℕ → ℕ → Bool
left_of a b column row =
    ltᵇ (crossing a b (maxᶠ a.y (natᶠ row))) (natᶠ (suc (suc column)))
    || ltᵇ (crossing a b (minᶠ b.y (natᶠ (suc row)))) (natᶠ (suc (suc column)))

-- the same of an edge that crosses the row, whichever way it goes
abbrev pub reaches : ExactEdge → ℕ → ℕ → Bool
reaches e column row = cond (ltᵇ e.«from».y e.to.y) (left_of e.«from» e.to column row) (left_of e.to e.«from» column row)

-- how many edges count for a cell: those that cross its row and reach it
abbrev pub count_at : List ExactEdge → ℕ → ℕ → ℕ
count_at [] column row = 0
count_at (e ∷ es) column row = cond (crosses e row && reaches e column row) 1 0 + count_at es column row

-- 1 for each edge that counts for the cell, plus a half for each group. Without groups it is 0
abbrev pub allowed_difference_at : List Group → ℕ → ℕ → Fraction
allowed_difference_at [] column row = natᶠ 0
allowed_difference_at (g ∷ gs) column row = natᶠ (count_at (exact_edges g.contours) column row) +ᶠ 1 /2^ 1 +ᶠ allowed_difference_at gs column row

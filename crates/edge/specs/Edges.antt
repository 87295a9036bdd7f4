-- The edge between two points, the row that it joins in and where it is at a height: `Edge` and `Coverage::edge` of
-- coverage.rs, let by let. Definitions only.
use Rattle.std.specs.Prelude.{ℕ, cond, ◌||◌, List, [], ◌∷◌, Float}
use Rattle.std.specs.Float.Ieee.{lt, le, eq}
use Rattle.float.specs.Ops.{◌⊕◌, ◌⊖◌, ◌⊗◌, ◌⊘◌, f0, f1, f_minus_1}
use Rattle.float.specs.Simple.{max_of}
use Rattle.whole.specs.Whole.{column_of, of_whole}
use Rattle.edge.specs.declared.Edge.{Edge}

-- ---- the edge between two points

-- an edge from its upper end to its lower, for a mask `height` high: none where it lies above the mask or below it
unfoldable pub sloped_of : ℕ → Float → Float → Float → Float → Float → List Edge
sloped_of height xa ya xb yb down =
    cond (le yb f0 || le (of_whole height) ya) []
    (record { x = xa; y = ya; bottom = yb; slope = (xb ⊖ xa) ⊘ (yb ⊖ ya); down = down } ∷ [])

-- `Coverage::edge`, between two points in cells: 'Level edges are dropped.' Downwards 1, upwards -1
unfoldable pub edge_between : ℕ → Float → Float → Float → Float → List Edge
unfolding sloped_of
edge_between height x0 y0 x1 y1 = cond (eq y0 y1) [] (cond (lt y0 y1) (sloped_of height x0 y0 x1 y1 f1) (sloped_of height x1 y1 x0 y0 f_minus_1))

-- ---- an edge by itself

-- `row_of`: the row that an edge joins in. One that starts above the mask joins in row 0
abbrev pub start_row : Edge → ℕ
start_row e = column_of (max_of e.y f0)

-- `Edge::at`: where an edge is at a height
abbrev pub at_of : Edge → Float → Float
at_of e y = e.x ⊕ (y ⊖ e.y) ⊗ e.slope

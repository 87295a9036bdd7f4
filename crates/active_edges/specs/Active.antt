-- The active edges of a row and their pieces: those of `Coverage::resolve` of coverage.rs. Definitions only.
use Rattle.std.specs.Prelude.{ℕ, zero, suc, cond, List, [], ◌∷◌, ◌++◌, eqb, Float}
use Rattle.std.specs.Float.Ieee.{lt}
use Rattle.float.specs.Ops.{◌⊖◌, ◌⊗◌}
use Rattle.float.specs.Simple.{min_of, max_of}
use Rattle.whole.specs.Whole.{of_whole}
use Rattle.accumulation.specs.Area.{Cells}
use Rattle.row.specs.Row.{span_of}
use Rattle.edge.specs.declared.Edge.{Edge}
use Rattle.edge.specs.Edges.{start_row, at_of}

-- ---- the edges that cross a row

-- those that join in a row, and those that reach below a height, in their order
unfoldable pub starting_in : ℕ → List Edge → List Edge
starting_in row [] = []
starting_in row (e ∷ es) = cond (eqb (start_row e) row) (e ∷ starting_in row es) (starting_in row es)

unfoldable pub reaching_below : Float → List Edge → List Edge
reaching_below y [] = []
reaching_below y (e ∷ es) = cond (lt y e.bottom) (e ∷ reaching_below y es) (reaching_below y es)

-- The active edges of a row, in the order in which the row sums them: those of the row above that reach below it,
-- then those that join. So they stand by the row in which they join, and then by their place in the list
unfoldable pub active_edges : List Edge → ℕ → List Edge
unfolding starting_in reaching_below
active_edges es zero = starting_in 0 es
active_edges es (suc row) = reaching_below (of_whole (suc row)) (active_edges es row) ++ starting_in (suc row) es

-- ---- their pieces

-- an edge's piece in the row from `top` to `bottom`, of a mask `height` high, added to the row's cells
unfoldable pub piece_of : Float → Float → Float → Cells → Edge → Cells
unfolding max_of min_of
piece_of height top bottom cells e =
    let y = max_of e.y top in
    let next = min_of (min_of bottom e.bottom) height in
    span_of cells (at_of e y) (at_of e next) ((next ⊖ y) ⊗ e.down)

unfoldable pub pieces_of : Float → Float → Float → Cells → List Edge → Cells
unfolding piece_of
pieces_of height top bottom cells [] = cells
pieces_of height top bottom cells (e ∷ es) = pieces_of height top bottom (piece_of height top bottom cells e) es

-- What a drawing holds, row by row: a row's bytes depend on the groups, the size and the row alone. `Coverage::resolve`
-- of coverage.rs. Definitions only.
use Rattle.std.specs.Prelude.{ℕ, suc, Bool, List, [], ◌∷◌, replicate}
use Rattle.float.specs.Ops.{f0}
use Rattle.whole.specs.Whole.{of_whole}
use Rattle.word_list.specs.Words.{Group, even_odd}
use Rattle.cells.specs.declared.Size.{Size}
use Rattle.cells.specs.Rows.{rows_from}
use Rattle.sweep.specs.Bytes.{bytes_of, add_bytes}
use Rattle.edge.specs.declared.Edge.{Edge}
use Rattle.active_edges.specs.Active.{active_edges, pieces_of}
use Rattle.contour.specs.Contours.{edges_of}

-- the bytes of active edges in a row: their pieces on a row of zeros, summed and folded by a rule
unfoldable pub edges_row : Bool → Size → ℕ → List Edge → List ℕ
unfolding bytes_of pieces_of
edges_row rule size row es =
    bytes_of rule f0 (pieces_of (of_whole size.height) (of_whole row) (of_whole (suc row)) (replicate size.width f0) es)

-- a group's bytes in a row: those of its active edges, by its rule
unfoldable pub group_row : Size → Group → ℕ → List ℕ
unfolding edges_row active_edges edges_of
group_row size g row = edges_row (even_odd g) size row (active_edges (edges_of size.height g.contours) row)

-- 'Drawing starts from a mask of zeros, and each group's bytes are added, stopping at 255.'
unfoldable pub add_groups : Size → ℕ → List ℕ → List Group → List ℕ
unfolding group_row add_bytes
add_groups size row line [] = line
add_groups size row line (g ∷ gs) = add_groups size row (add_bytes line (group_row size g row)) gs

abbrev pub drawing_row : Size → List Group → ℕ → List ℕ
drawing_row size gs row = add_groups size row (replicate size.width 0) gs

-- the whole drawing, rows first
abbrev pub drawing_of : Size → List Group → List ℕ
drawing_of size gs = rows_from (drawing_row size gs) size.height 0

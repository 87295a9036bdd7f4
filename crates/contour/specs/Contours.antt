-- The edges of contours, whose points are in 256ths of a cell: `Coverage::contour` of coverage.rs, let by let.
-- Definitions only.
use Rattle.std.specs.Prelude.{ℕ, List, [], ◌∷◌, ◌++◌, ℤ, Float}
use Rattle.std.specs.Float.{binary32}
use Rattle.std.specs.Float.Ieee.{of_bits, of_int}
use Rattle.float.specs.Ops.{◌⊘◌}
use Rattle.word_list.specs.Words.{Point}
use Rattle.edge.specs.declared.Edge.{Edge}
use Rattle.edge.specs.Edges.{edge_between}

-- `SUBPIXELS`, 256.0, and a coordinate word in cells
abbrev pub subpixels : Float
subpixels = of_bits binary32 0x4380_0000

abbrev pub coordinate_of : ℤ → Float
coordinate_of w = of_int binary32 w ⊘ subpixels

-- the edge between two points of a contour
abbrev pub edge_of : ℕ → Point → Point → List Edge
edge_of height p q = edge_between height (coordinate_of p.x) (coordinate_of p.y) (coordinate_of q.x) (coordinate_of q.y)

-- from a point through others
unfoldable pub walk_of : ℕ → Point → List Point → List Edge
unfolding edge_between
walk_of height p [] = []
walk_of height p (q ∷ qs) = edge_of height p q ++ walk_of height q qs

unfoldable pub last_of : Point → List Point → Point
last_of p [] = p
last_of p (q ∷ qs) = last_of q qs

-- `Coverage::contour`: 'A contour closes from its last point to its first', and that edge comes first
unfoldable pub contour_of : ℕ → List Point → List Edge
unfolding walk_of last_of
contour_of height [] = []
contour_of height (p ∷ ps) = walk_of height (last_of p ps) (p ∷ ps)

-- and all contours of a group
unfoldable pub edges_of : ℕ → List (List Point) → List Edge
unfolding contour_of
edges_of height [] = []
edges_of height (c ∷ cs) = contour_of height c ++ edges_of height cs

-- Every edge of a group starts in a row of the mask. Assumes nothing.
use mathlib.Core.Path.{◌≡◌, sym, subst}
use mathlib.Core.List.{List, [], ◌∷◌}
use Prim.Native.Nat.{ℕ, ◌+◌, ◌*◌, ◌≤◌, ◌<◌}
use lib.Ieee.{Float}
use Rattle.word_list.specs.Words.{Point}
use Rattle.edge.specs.Edges.{start_row}
use Rattle.edge.specs.Floats.{edge_at, edges_at}
use Rattle.edge.proofs.StartRows.{Below, both, edge_starts, below_at}
use Rattle.contour.specs.Contours.{coordinate_of, edge_of, walk_of, last_of, contour_of, edges_of}

module _ (height : ℕ) (some : 0 < height) (few : height ≤ 4096) where
  walk_starts : (p : Point) (ps : List Point) → Below height (walk_of height p ps)
  unfolding walk_of
  walk_starts p [] = tt
  walk_starts p (q ∷ qs) =
      let one = edge_starts height some few (coordinate_of p.x) (coordinate_of p.y) (coordinate_of q.x) (coordinate_of q.y) in
      both height (edge_of height p q) (walk_of height q qs) one (walk_starts q qs)

  contour_starts : (ps : List Point) → Below height (contour_of height ps)
  unfolding contour_of
  contour_starts [] = tt
  contour_starts (p ∷ ps) = walk_starts (last_of p ps) (p ∷ ps)

  edges_start : (cs : List (List Point)) → Below height (edges_of height cs)
  unfolding edges_of
  edges_start [] = tt
  edges_start (c ∷ cs) = both height (contour_of height c) (edges_of height cs) (contour_starts c) (edges_start cs)

-- of edges that are stored
pub starts_below : (height : ℕ) → 0 < height → height ≤ 4096 → (cs : List (List Point)) (fs : List Float) (at n : ℕ) → edges_at fs at n ≡ edges_of height cs
    → (j : ℕ) → j < n → start_row (edge_at fs (at + 5 * j)) < height
starts_below height some few cs fs at n e = below_at n height fs at (subst (Below height) (sym e) (edges_start height some few cs))

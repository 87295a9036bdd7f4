-- Edges in lent floats, five to an edge. Definitions only.
use Rattle.std.specs.Prelude.{◌≡◌, List, [], ◌∷◌, ◌++◌, ℕ, zero, suc, ◌+◌, ◌≤◌, ◌<◌, get_or, set, Float}
use Rattle.std.specs.Float.{nan}
use Rattle.edge.specs.declared.Edge.{Edge}

-- the edge that stands at a place, n edges from a place on, and an edge put to a place
unfoldable pub edge_at : List Float → ℕ → Edge
edge_at floats at =
    record { x = get_or floats at nan; y = get_or floats (at + 1) nan; bottom = get_or floats (at + 2) nan; slope = get_or floats (at + 3) nan; down = get_or floats (at + 4) nan }

unfoldable pub edges_at : List Float → ℕ → ℕ → List Edge
edges_at floats at zero = []
edges_at floats at (suc n) = edge_at floats at ∷ edges_at floats (at + 5) n

unfoldable pub put_edge : List Float → ℕ → Edge → List Float
put_edge floats at e = set (set (set (set (set floats at e.x) (at + 1) e.y) (at + 2) e.bottom) (at + 3) e.slope) (at + 4) e.down

-- `new` edges, at most `most`, behind `count` of them that stand from `edges` on; what stands before those is as it was
pub record Pushed (before after : List Float) (edges count r most : ℕ) (new : List Edge) : Type 0 where
  pub all : edges_at after edges r ≡ edges_at before edges count ++ new
  pub few : r ≤ count + most
  pub front : (i : ℕ) → i < edges → get_or after i nan ≡ get_or before i nan

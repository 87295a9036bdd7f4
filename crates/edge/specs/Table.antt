-- The edge table: for each row, the edges that start in it, linked in the order of the list. And what the functions
-- over it promise to each other. Definitions only.
use Rattle.std.specs.Prelude.{◌≡◌, cond, List, ℕ, zero, suc, ◌+◌, ◌*◌, ◌-◌, ◌≤◌, ◌<◌, eqb, length, get_or, Float}
use Rattle.std.specs.Float.{nan}
use Rattle.whole.specs.Whole.{of_whole}
use Rattle.edge.specs.declared.Edge.{Edge}
use Rattle.edge.specs.declared.Layout.{Layout}
use Rattle.edge.specs.Edges.{start_row}
use Rattle.edge.specs.Floats.{edge_at, edges_at}

-- ---- places

-- edge j, and the edges
abbrev pub nth : List Float → Layout → ℕ → Edge
nth floats l j = edge_at floats (l.width + 5 * j)

abbrev pub edges_in : List Float → Layout → List Edge
edges_in floats l = edges_at floats l.width l.count

-- the parts do not overlap, and there is room for every edge in each
pub record Placed (floats : List Float) (l : Layout) : Type 0 where
  pub edges : l.width + 5 * l.count ≤ l.nexts
  pub nexts : l.nexts + l.count ≤ l.active
  pub active : l.active + 5 * l.count ≤ length floats
  pub few : l.count ≤ 2048

-- ---- the table

-- one more than the place of the first of n edges from place j on that starts in a row, and 0 where none does
unfoldable pub first_in : List Float → Layout → ℕ → ℕ → ℕ → ℕ
first_in floats l row j zero = 0
first_in floats l row j (suc n) = cond (eqb (start_row (nth floats l j)) row) (j + 1) (first_in floats l row (j + 1) n)

-- the first behind edge j that starts in j's row
abbrev pub next_of : List Float → Layout → ℕ → ℕ
next_of floats l j = first_in floats l (start_row (nth floats l j)) (j + 1) (l.count - (j + 1))

-- each edge from place i on has its next as a float
abbrev pub Linked : List Float → Layout → ℕ → Type 0
Linked floats l i = (j : ℕ) → i ≤ j → j < l.count → get_or floats (l.nexts + j) nan ≡ of_whole (next_of floats l j)

-- the edges from place i on are in the table: each row's head is its first
pub record InTable (floats : List Float) (heads : List ℕ) (l : Layout) (i : ℕ) : Type 0 where
  pub head : (row : ℕ) → row < length heads → get_or heads row 0 ≡ first_in floats l row i (l.count - i)
  pub next : Linked floats l i

-- only the nexts have changed
pub record NextsChanged (before after : List Float) (l : Layout) : Type 0 where
  pub long : length after ≡ length before
  pub low : (i : ℕ) → i < l.nexts → get_or after i nan ≡ get_or before i nan
  pub high : (i : ℕ) → l.nexts + l.count ≤ i → get_or after i nan ≡ get_or before i nan

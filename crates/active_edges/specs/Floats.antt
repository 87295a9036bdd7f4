-- The active edges in lent floats, and what the functions over them promise to each other. Definitions only.
use Rattle.std.specs.Prelude.{◌≡◌, cond, List, [], ◌∷◌, ◌++◌, ℕ, zero, suc, ◌+◌, ◌*◌, ◌-◌, ◌≤◌, ◌<◌, length, get_or, take, Float}
use Rattle.std.specs.Float.{nan}
use Rattle.std.specs.Float.Ieee.{lt}
use Rattle.accumulation.specs.Marks.{Ready}
use Rattle.edge.specs.declared.Edge.{Edge}
use Rattle.edge.specs.declared.Layout.{Layout}
use Rattle.edge.specs.Floats.{edges_at, put_edge}
use Rattle.edge.specs.Table.{nth, edges_in, Placed, first_in, Linked}
use Rattle.active_edges.specs.Active.{starting_in, reaching_below, pieces_of}

-- the first n active edges
abbrev pub active_in : List Float → Layout → ℕ → List Edge
active_in floats l n = edges_at floats l.active n

-- ---- those that join

-- the edges of a row that are left where `at` is one more than the next one's place, or 0
unfoldable pub list_from : List Float → Layout → ℕ → ℕ → List Edge
list_from floats l row zero = []
list_from floats l row (suc k) = nth floats l k ∷ starting_in row (edges_at floats (l.width + 5 * (k + 1)) (l.count - (k + 1)))

-- what it takes for a row's edges to join the `kept` active ones
pub record Joining (floats : List Float) (heads : List ℕ) (l : Layout) (kept row : ℕ) : Type 0 where
  pub fits : Placed floats l
  pub inside : row < length heads
  pub first : get_or heads row 0 ≡ first_in floats l row 0 l.count
  pub next : Linked floats l 0
  pub room : kept + length (starting_in row (edges_in floats l)) ≤ l.count

-- they stand behind those
pub record Joined (before after : List Float) (l : Layout) (kept row r : ℕ) : Type 0 where
  pub all : active_in after l r ≡ active_in before l kept ++ starting_in row (edges_in before l)
  pub count : r ≡ kept + length (starting_in row (edges_in before l))
  pub low : (i : ℕ) → i < l.active → get_or after i nan ≡ get_or before i nan

-- ---- their pieces

-- the floats and the count after an active edge was kept for the next row, or not
pub record Kept (before : List Float) (l : Layout) (kept : ℕ) (e : Edge) (bottom : Float) (after : List Float) (r : ℕ) : Type 0 where
  pub floats : after ≡ cond (lt bottom e.bottom) (put_edge before (l.active + 5 * kept) e) before
  pub count : r ≡ cond (lt bottom e.bottom) (kept + 1) kept

-- n active edges, and a row's cells before them all
pub record ActiveRow (floats : List Float) (touched : List ℕ) (l : Layout) (n : ℕ) : Type 0 where
  pub apart : l.width ≤ l.active
  pub room : l.active + 5 * n ≤ length floats
  pub ready : Ready (take l.width floats) touched

-- their pieces are in the cells, and those that reach below the row are kept
pub record Pieces (before : List Float) (l : Layout) (n : ℕ) (height top bottom : Float) (after : List Float) (r : ℕ) : Type 0 where
  pub cells : take l.width after ≡ pieces_of height top bottom (take l.width before) (active_in before l n)
  pub kept : active_in after l r ≡ reaching_below bottom (active_in before l n)
  pub few : r ≤ n
  pub between : (i : ℕ) → l.width ≤ i → i < l.active → get_or after i nan ≡ get_or before i nan

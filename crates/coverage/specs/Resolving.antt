-- What the functions that draw a group promise to each other, and to a drawing. Definitions only.
use Rattle.std.specs.Prelude.{◌≡◌, Bool, List, ℕ, suc, ◌+◌, ◌*◌, ◌≤◌, ◌<◌, length, get_or, take, replicate, Float}
use Rattle.std.specs.Float.{nan}
use Rattle.float.specs.Ops.{f0}
use Rattle.whole.specs.Whole.{of_whole}
use Rattle.word_list.specs.Words.{Group, even_odd}
use Rattle.cells.specs.declared.Size.{Size}
use Rattle.cells.specs.Cells.{cells_of, SizeAllowed}
use Rattle.cells.specs.Rows.{rows_changed}
use Rattle.accumulation.specs.Marks.{mark_words}
use Rattle.sweep.specs.Bytes.{add_bytes}
use Rattle.edge.specs.declared.Edge.{Edge}
use Rattle.edge.specs.declared.Layout.{Layout}
use Rattle.active_edges.specs.Active.{active_edges, reaching_below}
use Rattle.edge.specs.Floats.{edges_at}
use Rattle.edge.specs.Table.{Placed, first_in, Linked}
use Rattle.active_edges.specs.Floats.{active_in}
use Rattle.contour.specs.Contours.{edges_of}
use Rattle.coverage.specs.Drawing.{edges_row}
use Rattle.coverage.specs.Scratch.{counters_needed}

-- ---- a group

-- its edges are stored behind the row's cells, and this is its rule
pub record GroupStored (floats : List Float) (size : Size) (count : ℕ) (rule : Bool) (g : Group) : Type 0 where
  pub edges : edges_at floats size.width count ≡ edges_of size.height g.contours
  pub is_rule : rule ≡ even_odd g

-- some group's are
pub record SomeGroupStored (floats : List Float) (size : Size) (count : ℕ) (rule : Bool) : Type 0 where
  pub group : Group
  pub stored : GroupStored floats size count rule group

-- ---- a mask's rows

-- each row has bytes added
abbrev pub add_row : (ℕ → List ℕ) → ℕ → List ℕ → List ℕ
add_row bytes row line = add_bytes line (bytes row)

abbrev pub rows_added : (ℕ → List ℕ) → Size → List ℕ → List ℕ
rows_added bytes size mask = rows_changed (add_row bytes) size.width size.height 0 mask

-- the bytes of edges, each row's from those that are active there, and all of them added to a mask
abbrev pub active_row : Bool → Size → List Edge → ℕ → List ℕ
active_row rule size es row = edges_row rule size row (active_edges es row)

abbrev pub edges_rows : Bool → Size → List Edge → List ℕ → List ℕ
edges_rows rule size es mask = rows_added (active_row rule size es) size mask

-- ---- one row drawn

-- the size of the mask that scratch is laid out for
abbrev pub size_of : Layout → ℕ → Size
size_of l height = record { width = l.width; height = height }

-- a row with n active edges that can be drawn: its cells hold no area, and no mark is set
pub record Drawable (floats : List Float) (touched : List ℕ) (l : Layout) (n : ℕ) : Type 0 where
  pub narrow : l.width ≤ 4096
  pub apart : l.width ≤ l.active
  pub room : l.active + 5 * n ≤ length floats
  pub words : length touched ≡ mark_words l.width
  pub cells : take l.width floats ≡ replicate l.width f0
  pub marks : touched ≡ replicate (length touched) 0

-- and a row that was drawn: r edges reach below it
pub record Drawn (before after : List Float) (l : Layout) (n row r : ℕ) : Type 0 where
  pub below : active_in after l r ≡ reaching_below (of_whole (suc row)) (active_in before l n)
  pub between : (i : ℕ) → l.width ≤ i → i < l.active → get_or after i nan ≡ get_or before i nan

-- ---- all rows

-- the edge table is made, behind the words of marks, and all else is clean
pub record RowsReady (mask : List ℕ) (floats : List Float) (counters : List ℕ) (l : Layout) (height : ℕ) : Type 0 where
  pub size_allowed : SizeAllowed (size_of l height)
  pub bytes : cells_of (size_of l height) ≡ length mask
  pub counters_enough : counters_needed (size_of l height) ≤ length counters
  pub placed : Placed floats l
  pub cells : take l.width floats ≡ replicate l.width f0
  pub marks : take (mark_words l.width) counters ≡ replicate (mark_words l.width) 0
  pub head : (row : ℕ) → row < height → get_or counters (mark_words l.width + row) 0 ≡ first_in floats l row 0 l.count
  pub next : Linked floats l 0

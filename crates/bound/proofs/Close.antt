-- THE THEOREM: every drawn byte is within its allowed difference of 255 times its exact share, by the edges that count
-- for the cell, and so by those that cross its row. Assumes nothing.
use mathlib.Core.Path.{◌≡◌, ap, ◌∙◌}
use mathlib.Core.List.{List, [], ◌∷◌}
use mathlib.Core.Bool.{Bool, true, false, cond, ◌&&◌}
use Prim.Native.Nat.{ℕ, ◌+◌, ◌≤◌, ◌<◌}
use native.Mathlib.Omega.{arith}
use lib.ListN.{get_or, drop}
use Rattle.fraction.specs.Fraction.{◌≤ᶠ◌, natᶠ, ◌/2^◌, ◌*ᶠ◌, Near}
use Rattle.fraction.proofs.Order.{refl≤, add_mono, nat_le}
use Rattle.fraction.proofs.Near.{near_weaken}
use Rattle.word_list.specs.Words.{Group, points_in, ok, read_words, groups_of}
use Rattle.word_list.specs.Writer.{GroupsInLimit, Allowed}
use Rattle.word_list.proofs.RoundTrip.{reads_what_is_written}
use Rattle.winding.specs.Winding.{ExactEdge, exact_edges, crosses}
use Rattle.winding.specs.Drawn.{drawn_share, crossings, allowed_difference}
use Rattle.cells.specs.declared.Size.{Size}
use Rattle.cells.specs.Cells.{cells_of, byte_at, SizeAllowed}
use Rattle.cells.proofs.Places.{front_byte}
use Rattle.coverage.specs.Drawing.{drawing_row, drawing_of}
use Rattle.coverage.proofs.Places.{drawing_length, drawing_byte}
use Rattle.std.specs.Prelude.{Ok}
use Rattle.ink.specs.Lent.{Lent, lent}
use Rattle.mask.specs.Calls.{Drawing, mask_after_drawing}
use Rattle.mask.specs.Laws.{CanDraw}
use Rattle.mask.proofs.Causes.{done_exactly_when}
use Rattle.bound.specs.Counted.{reaches, count_at, allowed_difference_at}
use Rattle.bound.specs.Close.{DrawnBytesAreClose, DrawnBytesAreCloseByCell}
use Rattle.bound.proofs.GroupRow.{group_ok}
use Rattle.bound.proofs.Drawing.{GroupsOk, row_near}

-- ---- so every group is shown
groups_ok : (size : Size) (row : ℕ) (gs : List Group) → SizeAllowed size → row < size.height → GroupsInLimit gs → points_in gs ≤ 2048 → GroupsOk size row gs
unfolding GroupsInLimit points_in
groups_ok size row [] s l n k = tt
groups_ok size row (g ∷ gs) s l n k = (group_ok size row g s l n.0 (omega arith), groups_ok size row gs s l n.1 (omega arith))

-- ---- a done drawing's cell: its byte in the buffer is that of its row
module _ (d : Drawing) (column row : ℕ) (c : column < d.size.width) (r : row < d.size.height) where
  abbrev gs : List Group
  gs = groups_of d.words

  byte_is : (mask : List ℕ) → byte_at d.size (mask_after_drawing (Ok tt) d mask) column row ≡ get_or (drawing_row d.size gs row) column 0
  byte_is mask =
      front_byte d.size (drawing_of d.size gs) (drop (cells_of d.size) mask) (drawing_length d.size gs) column row c r
      ∙ drawing_byte d.size gs column row c r

  allowed : {lent : Lent} → CanDraw d lent → Allowed gs
  allowed can =
      let e : read_words d.words ≡ ok can.groups [] = ap read_words can.written ∙ reads_what_is_written.back can.groups can.allowed in
      rw e can.allowed

  -- counted by cell
  by_cell : {lent : Lent} (mask : List ℕ) → CanDraw d lent
      → Near (natᶠ (byte_at d.size (mask_after_drawing (Ok tt) d mask) column row)) (natᶠ 255 *ᶠ drawn_share gs column row) (allowed_difference_at gs column row)
  by_cell mask can =
      let a = allowed can in
      rw (byte_is mask) (row_near d.size row gs column c (groups_ok d.size row gs can.size_allowed r a.in_limit a.few))

-- ---- counted by row: no more edges count for a cell than cross its row
count_le : (es : List ExactEdge) (c row : ℕ) → count_at es c row ≤ crossings es row
count_le [] c row = omega arith
count_le (e ∷ es) c row = go (crosses e row) (reaches e c row) (count_le es c row)
  where
    go : (a b : Bool) → count_at es c row ≤ crossings es row → cond (a && b) 1 0 + count_at es c row ≤ cond a 1 0 + crossings es row
    go true true h = omega arith
    go true false h = omega arith
    go false b h = omega arith

allowed_le : (gs : List Group) (c row : ℕ) → allowed_difference_at gs c row ≤ᶠ allowed_difference gs row
unfolding allowed_difference
allowed_le [] c row = refl≤ (natᶠ 0)
allowed_le (g ∷ gs) c row = add_mono (add_mono (nat_le (count_le (exact_edges g.contours) c row)) (refl≤ (1 /2^ 1))) (allowed_le gs c row)

pub drawn_bytes_are_close_by_cell : DrawnBytesAreCloseByCell
drawn_bytes_are_close_by_cell d mask ink done column row c r = by_cell d column row c r mask (done_exactly_when.only d (lent mask ink) done)

pub drawn_bytes_are_close : DrawnBytesAreClose
drawn_bytes_are_close d mask ink done column row c r =
    near_weaken (drawn_bytes_are_close_by_cell d mask ink done column row c r) (allowed_le (groups_of d.words) column row)

-- A drawing, one group more at a time: from a mask of zeros, `resolve` of each group in turn gives the drawing. Assumes
-- nothing.
use mathlib.Core.Path.{◌≡◌, refl, sym, ap, ◌∙◌}
use mathlib.Core.Bool.{Bool}
use mathlib.Core.List.{List, [], ◌∷◌}
use Prim.Native.Nat.{ℕ}
use lib.ListN.{length, replicate, length-replicate}
use lib.Ieee.{Float}
use Rattle.word_list.specs.Words.{Group, even_odd}
use Rattle.cells.specs.declared.Size.{Size}
use Rattle.cells.specs.Cells.{cells_of}
use Rattle.cells.specs.Rows.{rows_from}
use Rattle.cells.proofs.Rows.{rows_alike, rows_changed_lem, rows_of_zeros}
use Rattle.sweep.specs.Bytes.{add_bytes}
use Rattle.contour.specs.Contours.{edges_of}
use Rattle.edge.specs.Floats.{edges_at, Pushed}
use Rattle.edge.proofs.Floats.{take_same}
use Rattle.coverage.specs.Drawing.{group_row, add_groups, drawing_row, drawing_of}
use Rattle.coverage.specs.Scratch.{Room, Clean}
use Rattle.coverage.specs.Resolving.{GroupStored, add_row, rows_added}
use Rattle.coverage.proofs.Places.{length_added}

-- a mask where the groups `later` are still to be drawn
pub record Undrawn (size : Size) (all : List Group) (mask : List ℕ) (later : List Group) : Type 0 where
  pub line : ℕ → List ℕ
  pub long : (row : ℕ) → length (line row) ≡ size.width
  pub is : mask ≡ rows_from line size.height 0
  pub rest : (row : ℕ) → add_groups size row (line row) later ≡ drawing_row size all row

pub none_drawn : {size : Size} {all : List Group} {mask : List ℕ} → mask ≡ replicate (length mask) 0 → cells_of size ≡ length mask → Undrawn size all mask all
none_drawn {size} {all} {mask} zeros cells = record {
  line = λ r. replicate size.width 0;
  long = λ r. length-replicate size.width 0;
  is = zeros ∙ ap (λ (n : ℕ). replicate n 0) (sym cells) ∙ rows_of_zeros size.width size.height 0;
  rest = λ r. refl;
}

pub group_drawn : {size : Size} {all : List Group} {mask mask' : List ℕ} {g : Group} {later : List Group} → Undrawn size all mask (g ∷ later)
    → mask' ≡ rows_added (group_row size g) size mask → Undrawn size all mask' later
unfolding add_groups
group_drawn {size} {all} {mask} {mask'} {g} {later} u e = record {
  line = λ r. add_bytes (u.line r) (group_row size g r);
  long = λ r. length_added (u.line r) (group_row size g r) ∙ u.long r;
  is = e ∙ ap (rows_added (group_row size g) size) u.is ∙ rows_changed_lem (add_row (group_row size g)) u.line size.width u.long size.height 0;
  rest = u.rest;
}

pub all_drawn : {size : Size} {all : List Group} {mask : List ℕ} → Undrawn size all mask [] → mask ≡ drawing_of size all
unfolding add_groups
all_drawn {size} {all} u = u.is ∙ rows_alike u.line (drawing_row size all) u.rest size.height 0

-- ---- before a group is resolved

-- its edges were pushed behind the row's cells
module _ (size : Size) (g : Group) {fs gs : List Float} {r most : ℕ} (p : Pushed fs gs size.width 0 r most (edges_of size.height g.contours)) where
  pub group_stored : {rule : Bool} → rule ≡ even_odd g → GroupStored gs size r rule g
  unfolding edges_at
  group_stored e = record { edges = p.all; is_rule = e }

  pub still_clean : {cs : List ℕ} → length gs ≡ length fs → Clean fs cs size → Clean gs cs size
  still_clean long c = record { cells = take_same size.width gs fs long p.front ∙ c.cells; counts = c.counts }

-- buffers keep their lengths
pub room_same : {mask mask' : List ℕ} {fs fs' : List Float} {cs cs' : List ℕ} {size : Size} {points : ℕ}
    → length mask' ≡ length mask → length fs' ≡ length fs → length cs' ≡ length cs → Room mask fs cs size points → Room mask' fs' cs' size points
room_same a b c r =
    record { size_allowed = r.size_allowed; cells = r.cells ∙ sym a; few = r.few; floats_enough = rw b r.floats_enough; counters_enough = rw c r.counters_enough }

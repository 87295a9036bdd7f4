-- A list's faults, and the cells after a drawing (specs/Laws.antt, ListFaults and SameCells). Assumes nothing.
use mathlib.Core.Path.{◌≡◌, refl, sym, ◌∙◌}
use mathlib.Core.Logic.{◌⊎◌, inl, inr}
use mathlib.Core.List.{List}
use Prim.Native.Nat.{ℕ}
use lib.ListN.{take, drop}
use lib.Seq.{take_at}
use Rattle.fault.specs.declared.Fault.{Fault}
use Rattle.fault.specs.declared.Fault.TheVariants.{ListEndsEarly, CountOutOfRange, CoordinateOutOfRange}
use Rattle.word_list.specs.Words.{groups_of}
use Rattle.list_fault.specs.ListFault.{FaultOf, ends_early, at_count, at_coordinate}
use Rattle.list_fault.proofs.ListFault.{list_fault}
use Rattle.cells.specs.Cells.{cells_of}
use Rattle.coverage.specs.Drawing.{drawing_of}
use Rattle.coverage.proofs.Places.{drawing_length}
use Rattle.mask.specs.Calls.{mask_after_drawing}
use Rattle.mask.specs.Laws.{ListFaults, SameCells}
use Rattle.std.specs.Prelude.{Ok}

pub list_faults : ListFaults
list_faults words f e = go (list_fault.only words f e)
  where
    go : {g : Fault} → FaultOf words g → (g ≡ ListEndsEarly) ⊎ ((g ≡ CountOutOfRange) ⊎ (g ≡ CoordinateOutOfRange))
    go (ends_early h n) = inl refl
    go (at_count u n) = inr (inl refl)
    go (at_coordinate u h) = inr (inr refl)

pub same_cells : SameCells
same_cells d mask other h k = front mask ∙ sym (front other)
  where
    cells : List ℕ
    cells = drawing_of d.size (groups_of d.words)

    front : (m : List ℕ) → take (cells_of d.size) (mask_after_drawing (Ok tt) d m) ≡ cells
    front m = take_at cells (drop (cells_of d.size) m) (cells_of d.size) (drawing_length d.size (groups_of d.words))

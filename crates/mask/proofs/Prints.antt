-- A print loop by the ink that a done call leaves prints the mask (specs/Laws.antt, DonePrints). Assumes nothing.
use mathlib.Core.Path.{refl}
use mathlib.Core.List.{List, ◌++◌}
use Prim.Native.Nat.{ℕ}
use lib.ListN.{drop}
use Rattle.word_list.specs.Words.{groups_of}
use Rattle.cells.specs.Cells.{cells_of}
use Rattle.ink.specs.Ink.{ink_after}
use Rattle.ink.specs.Lent.{lent, LentEnough}
use Rattle.ink.specs.Print.{PrintsTheMask}
use Rattle.ink.proofs.Written.{prints}
use Rattle.coverage.specs.Drawing.{drawing_of}
use Rattle.coverage.proofs.Places.{drawing_length}
use Rattle.laying.specs.Laying.{Laying, laying_of}
use Rattle.laying.specs.Placed.{by_offset}
use Rattle.laying.proofs.Laid.{laying_length}
use Rattle.mask.specs.Laws.{DonePrints}
use Rattle.mask.proofs.Causes.{done_exactly_when}
use Rattle.mask.proofs.LayCauses.{laid_exactly_when}
use Rattle.mask.proofs.PlacedCauses.{laid_placed_exactly_when}

laid : (l : Laying) (mask ink other : List ℕ) → LentEnough l.size (lent mask ink) →
    let after = laying_of l mask other ++ drop (cells_of l.size) mask in
    PrintsTheMask l.size after (ink_after l.size after ink)
laid l mask ink other h = prints l.size (laying_of l mask other) mask (laying_length l mask other) ink _ refl h

pub done_prints : DonePrints
done_prints = record {
  drawn = λ d mask ink e.
      let gs = groups_of d.words in
      prints d.size (drawing_of d.size gs) mask (drawing_length d.size gs) ink _ refl (done_exactly_when.only d (lent mask ink) e).enough;
  laid = λ l mask ink other e. laid l mask ink other (laid_exactly_when.done_only l (lent mask ink) _ e).enough;
  laid_placed = λ p mask ink other e. laid (by_offset p) mask ink other (laid_placed_exactly_when.done_only p (lent mask ink) _ e).can_lay.enough;
}

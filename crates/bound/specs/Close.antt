-- THE STATEMENT about one drawing. Document 01: 'After the list each mask cell's byte differs from 255 times its share
-- by at most its allowed difference', for a list that is one done drawing. The byte is that of the buffer as
-- `rasterize_into` leaves it (mask/specs/Calls.antt); the share and the allowed difference are those of winding/specs.
-- `proofs/Close.antt` has an element of each statement. Definitions only.
use Rattle.std.specs.Prelude.{◌≡◌, List, ℕ, ◌<◌, Ok}
use Rattle.fraction.specs.Fraction.{Fraction, natᶠ, ◌*ᶠ◌, Near}
use Rattle.word_list.specs.Words.{Group, groups_of}
use Rattle.winding.specs.Drawn.{drawn_share, allowed_difference}
use Rattle.cells.specs.Cells.{byte_at}
use Rattle.ink.specs.Lent.{lent}
use Rattle.mask.specs.Calls.{Drawing, draw_answer, mask_after_drawing}
use Rattle.bound.specs.Counted.{allowed_difference_at}

-- for every done drawing and every cell: the byte differs from 255 times the share by at most what `difference` gives
-- for the groups, the column and the row
abbrev pub DrawnBytesWithin : (List Group → ℕ → ℕ → Fraction) → Type 0
DrawnBytesWithin difference =
    (d : Drawing) (mask ink : List ℕ) → draw_answer d (lent mask ink) ≡ Ok tt → (column row : ℕ) → column < d.size.width → row < d.size.height →
    let groups = groups_of d.words in
    Near (natᶠ (byte_at d.size (mask_after_drawing (Ok tt) d mask) column row)) (natᶠ 255 *ᶠ drawn_share groups column row) (difference groups column row)

-- document 01's allowed difference, by the edges that cross the cell's row
abbrev pub DrawnBytesAreClose : Type 0
DrawnBytesAreClose = DrawnBytesWithin (λ groups column row. allowed_difference groups row)

-- the same by the edges that count for the cell: the stronger statement, from which the other follows
abbrev pub DrawnBytesAreCloseByCell : Type 0
DrawnBytesAreCloseByCell = DrawnBytesWithin allowed_difference_at

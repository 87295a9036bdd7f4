-- One mask laid on another by where their corners lie on the sheet (document 02, change 8, 'Masks that know their place
-- on the sheet'). `MeetOnTheSheet` and `DifferencesFit` are proved in proofs/Placed.antt.
use Rattle.std.specs.Prelude.{ℕ, ◌≤◌, ◌≡◌, ℤ, pos, nat_abs, ◌+ℤ◌, ◌-ℤ◌}
use Rattle.cells.specs.declared.Corner.{Corner}
use Rattle.cells.specs.declared.MaskRecord.{MaskRecord}
use Rattle.cells.specs.Corner.{CornerAllowed}
use Rattle.laying.specs.declared.Offset.{Offset}
use Rattle.laying.specs.Laying.{Laying, laying}

-- what a laying-on by corners is given beside the bytes of the two masks: their records
pub record Placed : Type 0 where
  pub own : MaskRecord
  pub other : MaskRecord

abbrev pub placed : MaskRecord → MaskRecord → Placed
placed own other = record { own = own; other = other }

-- 'Laying on then takes the offset as own corner minus the other's.'
abbrev pub offset_between : Corner → Corner → Offset
offset_between own other = record { x = own.x -ℤ other.x; y = own.y -ℤ other.y }

-- the laying-on by that offset
abbrev pub by_offset : Placed → Laying
by_offset p = laying p.own.size p.other.size (offset_between p.own.corner p.other.corner)

-- Where the cell (column, row) of a mask lies on the sheet, 'in cells': its corner's numbers and its own, added
pub record At (corner : Corner) (column row x y : ℤ) : Type 0 where
  pub across : corner.x +ℤ column ≡ x
  pub down : corner.y +ℤ row ≡ y

-- so by that offset two cells meet exactly when they lie at one place of the sheet
pub record MeetOnTheSheet : Type 0 where
  pub only : (own other : Corner) (column row : ℕ) (x y : ℤ) → At own (pos column) (pos row) x y
      → At other (pos column +ℤ (offset_between own other).x) (pos row +ℤ (offset_between own other).y) x y
  pub always : (own other : Corner) (column row : ℕ) (other_column other_row x y : ℤ) → At own (pos column) (pos row) x y → At other other_column other_row x y
      → (other_column ≡ pos column +ℤ (offset_between own other).x) × (other_row ≡ pos row +ℤ (offset_between own other).y)

-- no difference of corners within the limit overflows: whatever is at most 2,147,483,647 from 0 is a signed 32-bit
-- number
abbrev pub DifferencesFit : Type 0
DifferencesFit = (own other : Corner) → CornerAllowed own → CornerAllowed other
    → (nat_abs (offset_between own other).x ≤ 2097152) × (nat_abs (offset_between own other).y ≤ 2097152)

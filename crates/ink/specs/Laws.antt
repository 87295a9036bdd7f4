-- What holds of the columns with ink (document 02, change 9). Proved in proofs/Laws.antt.
use Rattle.std.specs.Prelude.{ℕ, ◌≤◌, ◌≡◌, List, length, get_or, take}
use Rattle.cells.specs.declared.Size.{Size}
use Rattle.cells.specs.Cells.{cells_of}
use Rattle.ink.specs.declared.Stretch.{Stretch}
use Rattle.ink.specs.Ink.{ink_of, ink_of_rows, ink_after, Scanned, IsInk}
use Rattle.ink.specs.Lent.{ink_needed}
use Rattle.ink.specs.Print.{PrintsTheMask}

-- a row's stretch is what the sentence says of its bytes, and no other is
pub record InkPinned : Type 0 where
  pub is : (line : List ℕ) → IsInk line (ink_of line)
  pub only : (line : List ℕ) (s : Stretch) → IsInk line s → s ≡ ink_of line

-- the numbers after a scan, 'no matter what it held before'
pub record NumbersOfRows : Type 0 where
  pub rows : (size : Size) (mask ink : List ℕ) → Scanned size mask (ink_after size mask ink)
  pub past : (size : Size) (mask ink : List ℕ) (i : ℕ) → ink_needed size ≤ i → get_or (ink_after size mask ink) i 0 ≡ get_or ink i 0
  pub kept : (size : Size) (mask ink : List ℕ) → ink_needed size ≤ length ink → length (ink_after size mask ink) ≡ length ink

-- .. and of the mask only the first width × height cells are looked at
abbrev pub OnlyCells : Type 0
OnlyCells = (size : Size) (mask : List ℕ) → ink_of_rows size (take (cells_of size) mask) ≡ ink_of_rows size mask

-- a print loop by numbers that are what a scan finds prints the mask
abbrev pub StretchesPrintTheMask : Type 0
StretchesPrintTheMask = (size : Size) (mask ink : List ℕ) → cells_of size ≤ length mask → Scanned size mask ink → PrintsTheMask size mask ink

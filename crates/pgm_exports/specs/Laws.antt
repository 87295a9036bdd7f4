-- When a file is read on lent slices, and why not: as a file is read (pgm/specs/Laws.antt), and two numbers are lent for
-- its size and two for its corner. Proved in proofs/Laws.antt.
use Rattle.std.specs.Prelude.{◌≡◌, ◌⊎◌, List, ℕ, ◌≤◌, ◌<◌, Ok}
use Rattle.fault.specs.declared.Fault.{Fault}
use Rattle.fault.specs.declared.Fault.TheVariants.{BufferTooShort}
use Rattle.fault.specs.Check.{ForItsFirstCause}
use Rattle.cells.specs.declared.Size.{Size}
use Rattle.cells.specs.declared.MaskRecord.{MaskRecord}
use Rattle.cells.specs.Corner.{sheet_origin}
use Rattle.ink.specs.Lent.{Lent, LentEnough}
use Rattle.pgm.specs.Calls.{record_read}
use Rattle.pgm.specs.Laws.{Taken, FirstReadCause}
use Rattle.pgm_exports.specs.Calls.{read_lent}

-- 'the order is 13 field by field, 14, 3, 15, 4', of what is lent for a mask and its ink, and of so many numbers for its size
-- and for its corner: the record's 4 is given where nothing else is refused
pub data FirstLentCause (file : List ℕ) (lent : Lent) (size corner : ℕ) : Fault → Type 0 where
  of_file : {f : Fault} → FirstReadCause file lent f → FirstLentCause file lent size corner f
  record_short_law : (s : Size) (raster : List ℕ) → Taken file s raster → LentEnough s lent → (size < 2) ⊎ (corner < 2)
      → FirstLentCause file lent size corner BufferTooShort

pub record ReadLentExactlyWhen : Type 0 where
  pub done_only : (file : List ℕ) (lent : Lent) (size corner : ℕ) (r : MaskRecord) → read_lent file lent size corner ≡ Ok r
      → (raster : List ℕ) × (Taken file r.size raster × (LentEnough r.size lent × ((2 ≤ size) × ((2 ≤ corner) × (r.corner ≡ sheet_origin)))))
  pub done_always : (file : List ℕ) (lent : Lent) (size corner : ℕ) (s : Size) (raster : List ℕ) → Taken file s raster → LentEnough s lent → 2 ≤ size → 2 ≤ corner
      → read_lent file lent size corner ≡ Ok (record_read s)
  pub refused : (file : List ℕ) (lent : Lent) (size corner : ℕ)
      → ForItsFirstCause (read_lent file lent size corner) (FirstLentCause file lent size corner)

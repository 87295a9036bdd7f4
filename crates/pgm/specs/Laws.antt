-- What document 02, changes 4, 8 and 9, says of PGM files as a whole, stated of the definitions in Calls.antt. Proved in
-- proofs/Writing.antt, Reading.antt, Decimal.antt, RoundTrip.antt and Prints.antt.
use Rattle.std.specs.Prelude.{◌≡◌, ◌⊎◌, List, ◌++◌, ℕ, ◌+◌, ◌≤◌, ◌<◌, length, get_or, take, drop, Ok}
use Rattle.fault.specs.declared.Fault.{Fault}
use Rattle.fault.specs.declared.Fault.TheVariants.{MaskTooLarge, BufferTooShort, NotPgm, WrongDepth, WrongRaster}
use Rattle.fault.specs.Check.{ForItsFirstCause}
use Rattle.cells.specs.declared.Size.{Size}
use Rattle.cells.specs.declared.MaskRecord.{MaskRecord}
use Rattle.cells.specs.Cells.{cells_of, TooLarge, SizeAllowed}
use Rattle.cells.specs.Corner.{sheet_origin}
use Rattle.ink.specs.Lent.{Lent, lent as lent_of, LentShort, LentEnough}
use Rattle.ink.specs.Print.{PrintsTheMask}
use Rattle.pgm_reader.specs.Reading.{value_of}
use Rattle.pgm_reader.specs.Laws.{Digits, HeaderIs}
use Rattle.pgm_writer.specs.Text.{HasCells, decimal}
use Rattle.pgm.specs.Calls.{file_length, write_call, file_after, record_read, read_call, mask_after_reading, ink_after_reading}

-- ---- writing

-- what a writing asks for: none of its causes. Of a mask and a file of so many bytes
pub record CanWrite (size : Size) (mask file : ℕ) : Type 0 where
  pub has_cells : HasCells size
  pub size_allowed : SizeAllowed size
  pub cells : cells_of size ≤ mask
  pub room : file_length size ≤ file

-- why a writing is refused: 13, 3, 4, each with none before it
pub data FirstWriteCause (size : Size) (mask file : ℕ) : Fault → Type 0 where
  no_cells_law : (size.width ≡ 0) ⊎ (size.height ≡ 0) → FirstWriteCause size mask file NotPgm
  too_large_law : HasCells size → TooLarge size → FirstWriteCause size mask file MaskTooLarge
  either_short : HasCells size → SizeAllowed size → (mask < cells_of size) ⊎ (file < file_length size) → FirstWriteCause size mask file BufferTooShort

pub record WrittenExactlyWhen : Type 0 where
  pub done_only : (size : Size) (mask file n : ℕ) → write_call size mask file ≡ Ok n → CanWrite size mask file × (n ≡ file_length size)
  pub done_always : (size : Size) (mask file : ℕ) → CanWrite size mask file → write_call size mask file ≡ Ok (file_length size)
  pub refused : (size : Size) (mask file : ℕ) → ForItsFirstCause (write_call size mask file) (FirstWriteCause size mask file)

-- a number as it is written: its digits spell it, and the first is not 0
pub record DecimalIs (n : ℕ) : Type 0 where
  pub digits : Digits (decimal n)
  pub value : value_of 0 (decimal n) ≡ n
  pub first : 48 < get_or (decimal n) 0 0

abbrev pub Decimals : Type 0
Decimals = (n : ℕ) → 0 < n → n ≤ 4096 → DecimalIs n

-- 'The writer returns the file's length': nine bytes, the digits of the width and of the height, and the cells
pub record FileLengths : Type 0 where
  pub is : (size : Size) → file_length size ≡ 9 + length (decimal size.width) + length (decimal size.height) + cells_of size
  pub most : (size : Size) → SizeAllowed size → file_length size ≤ 16777233

-- ---- reading

-- a file that is taken: a header of depth 255, within the limits, and a raster of 'exactly width × height bytes'
pub record Taken (file : List ℕ) (size : Size) (raster : List ℕ) : Type 0 where
  pub header : HeaderIs file size 255 raster
  pub size_allowed : SizeAllowed size
  pub exactly : length raster ≡ cells_of size

-- Why a reading is refused, 'the order is 13 field by field, 14, 3, 15, 4', each with none before it. Said without the
-- reading: a header is one of pgm_reader/specs/Laws.antt
pub data FirstReadCause (file : List ℕ) (lent : Lent) : Fault → Type 0 where
  no_header : ((size : Size) (depth : ℕ) (raster : List ℕ) → HeaderIs file size depth raster → ⊥) → FirstReadCause file lent NotPgm
  wrong_depth : (size : Size) (depth : ℕ) (raster : List ℕ) → HeaderIs file size depth raster → (depth ≡ 255 → ⊥) → FirstReadCause file lent WrongDepth
  too_large_law : (size : Size) (raster : List ℕ) → HeaderIs file size 255 raster → TooLarge size → FirstReadCause file lent MaskTooLarge
  wrong_raster : (size : Size) (raster : List ℕ) → HeaderIs file size 255 raster → SizeAllowed size → (length raster ≡ cells_of size → ⊥)
      → FirstReadCause file lent WrongRaster
  lent_short_law : (size : Size) (raster : List ℕ) → Taken file size raster → LentShort size lent → FirstReadCause file lent BufferTooShort

-- a file is read exactly when it is taken and there is room for its cells, which are then the mask's, and for its ink; 'A
-- mask read from PGM stands at (0, 0)'; it is refused exactly for its first cause
pub record ReadExactlyWhen : Type 0 where
  pub done_only : (file : List ℕ) (r : MaskRecord) (lent : Lent) → read_call file lent ≡ Ok r
      → (raster : List ℕ) × (Taken file r.size raster × (LentEnough r.size lent × (r.corner ≡ sheet_origin)))
  pub done_always : (file : List ℕ) (size : Size) (raster : List ℕ) (lent : Lent) → Taken file size raster → LentEnough size lent
      → read_call file lent ≡ Ok (record_read size)
  pub cells : (file : List ℕ) (size : Size) (raster mask : List ℕ) → Taken file size raster
      → mask_after_reading (Ok (record_read size)) file mask ≡ raster ++ drop (cells_of size) mask
  pub refused : (file : List ℕ) (lent : Lent) → ForItsFirstCause (read_call file lent) (FirstReadCause file lent)

-- 'A print loop that sends only those stretches onto blank paper prints the same cells as one that sends every byte'
-- (change 9), by the numbers that a done reading leaves
abbrev pub ReadPrints : Type 0
ReadPrints = (file mask ink : List ℕ) (r : MaskRecord) → read_call file (lent_of mask ink) ≡ Ok r →
    let after = mask_after_reading (Ok r) file mask in
    PrintsTheMask r.size after (ink_after_reading (Ok r) after ink)

-- ---- both

-- what a done writing leaves in the first n bytes of what is lent for the file: the file
abbrev pub written : Size → List ℕ → List ℕ → ℕ → List ℕ
written size mask file n = take n (file_after (Ok n) size mask file)

-- 'A mask that has cells, once written, reads to the same size and cells', into another mask that has room for them, its
-- ink beside it
abbrev pub RoundTrip : Type 0
RoundTrip =
    (size : Size) (mask file other ink : List ℕ) (n : ℕ) → write_call size (length mask) (length file) ≡ Ok n → LentEnough size (lent_of other ink)
    → (read_call (written size mask file n) (lent_of other ink) ≡ Ok (record_read size))
    × (mask_after_reading (Ok (record_read size)) (written size mask file n) other ≡ take (cells_of size) mask ++ drop (cells_of size) other)

-- The calls on PGM files, on lent slices, outright: what each answers, from what is lent to it. Number and record, as they
-- are handed over: boundary/specs/Answers.antt. Definitions only.
use Rattle.std.specs.Prelude.{ℕ, Bool, true, false, ◌||◌, List, ltb, length, Result, Ok, Err}
use Rattle.fault.specs.declared.Fault.TheVariants.{BufferTooShort}
use Rattle.cells.specs.declared.Size.{Size}
use Rattle.ink.specs.Lent.{Lent, lent}
use Rattle.fault.specs.declared.Fault.{Fault}
use Rattle.pgm.specs.Calls.{write_call, file_after, read_call, mask_after_reading, ink_after_reading}
use Rattle.cells.specs.declared.MaskRecord.{MaskRecord}

-- ---- writing: a size is two plain numbers here

abbrev pub size_of : ℕ → ℕ → Size
size_of width height = record { width = width; height = height }

abbrev pub write_lent : ℕ → ℕ → List ℕ → List ℕ → Result ℕ Fault
write_lent width height mask file = write_call (size_of width height) (length mask) (length file)

-- what a writing leaves of the file
abbrev pub file_written : ℕ → ℕ → List ℕ → List ℕ → List ℕ
file_written width height mask file = file_after (write_lent width height mask file) (size_of width height) mask file

-- ---- reading: the mask's record is written to lent numbers, its size to some and its corner to others

-- number 4 where too few are lent for it, 'the order is 13 field by field, 14, 3, 15, 4': where nothing else is refused
abbrev pub record_short : Bool → Result MaskRecord Fault → Result MaskRecord Fault
record_short true (Ok r) = Err BufferTooShort
record_short true (Err f) = Err f
record_short false answer = answer

-- for so many numbers, fewer than two for either
abbrev pub read_lent : List ℕ → Lent → ℕ → ℕ → Result MaskRecord Fault
read_lent file lent size corner = record_short (ltb size 2 || ltb corner 2) (read_call file lent)

-- what a reading leaves of the mask, and of its ink
abbrev pub mask_read : List ℕ → List ℕ → List ℕ → ℕ → ℕ → List ℕ
mask_read file mask ink size corner = mask_after_reading (read_lent file (lent mask ink) size corner) file mask

abbrev pub ink_read : List ℕ → List ℕ → List ℕ → ℕ → ℕ → List ℕ
ink_read file mask ink size corner = ink_after_reading (read_lent file (lent mask ink) size corner) (mask_read file mask ink size corner) ink

-- The calls on PGM files, outright: what each answers, and all that was lent to it afterwards (document 02, change 4,
-- 'Masks as PGM files', and changes 8 and 9). Definitions only.
use Rattle.std.specs.Prelude.{ℕ, ◌+◌, Bool, cond, not, ◌||◌, List, [], ◌++◌, ltb, eqb, length, take, drop, Result, Ok, Err}
use Rattle.fault.specs.declared.Fault.TheVariants.{MaskTooLarge, BufferTooShort, NotPgm, WrongDepth, WrongRaster}
use Rattle.fault.specs.declared.Fault.{Fault}
use Rattle.fault.specs.Check.{Check, answer_unless}
use Rattle.cells.specs.declared.Size.{Size}
use Rattle.cells.specs.declared.MaskRecord.{MaskRecord}
use Rattle.cells.specs.Cells.{cells_of, too_large}
use Rattle.cells.specs.Corner.{sheet_origin}
use Rattle.ink.specs.Ink.{ink_after}
use Rattle.ink.specs.Lent.{Lent, lent_short}
use Rattle.pgm_reader.specs.Reading.{Read, ok, bad, Head, read_header}
use Rattle.pgm_writer.specs.Text.{header_text, pgm_of}

-- ---- writing

-- 'a width or height of 0 (by the writer also)'
abbrev pub no_cells : Size → Bool
no_cells size = eqb size.width 0 || eqb size.height 0

-- 'The writer returns the file's length'
abbrev pub file_length : Size → ℕ
file_length size = length (header_text size) + cells_of size

-- 'the order is 13 .., 3, .. 4'; 4 where the mask is too short, and 'a lent file buffer too short for it is number 4'. Of
-- a mask and a file of so many bytes
abbrev pub write_check : Size → ℕ → ℕ → Check
write_check size mask file =
    cond (no_cells size) (Err NotPgm)
    (cond (too_large size) (Err MaskTooLarge)
    (cond (ltb mask (cells_of size) || ltb file (file_length size)) (Err BufferTooShort) (Ok tt)))

abbrev pub write_call : Size → ℕ → ℕ → Result ℕ Fault
write_call size mask file = answer_unless (write_check size mask file) (file_length size)

-- the file afterwards: the text and the cells, and 'changes no byte past it'. Turned away, it is left as it was
abbrev pub file_after : Result ℕ Fault → Size → List ℕ → List ℕ → List ℕ
file_after (Ok n) size mask file = pgm_of size (take (cells_of size) mask) ++ drop n file
file_after (Err f) size mask file = file

-- ---- reading

-- 'the order is 13 field by field, 14, 3, 15, 4': those behind a header, of a raster of so many bytes. 4 is for the mask,
-- and for its ink 'with the mask' (change 9)
abbrev pub read_check : Head → ℕ → Lent → Check
read_check h raster lent =
    cond (not (eqb h.depth 255)) (Err WrongDepth)
    (cond (too_large h.size) (Err MaskTooLarge)
    (cond (not (eqb raster (cells_of h.size))) (Err WrongRaster)
    (cond (lent_short h.size lent) (Err BufferTooShort) (Ok tt))))

-- 'A mask read from PGM stands at (0, 0).'
abbrev pub record_read : Size → MaskRecord
record_read size = record { size = size; corner = sheet_origin }

abbrev pub raster_call : Head → ℕ → Lent → Result MaskRecord Fault
raster_call h raster lent = answer_unless (read_check h raster lent) (record_read h.size)

-- number 13 where there is no header
abbrev pub head_call : Read Head → Lent → Result MaskRecord Fault
head_call bad lent = Err NotPgm
head_call (ok h raster) lent = raster_call h (length raster) lent

abbrev pub read_call : List ℕ → Lent → Result MaskRecord Fault
read_call file lent = head_call (read_header file) lent

-- the bytes behind the header
abbrev pub raster_in : Read Head → List ℕ
raster_in (ok h raster) = raster
raster_in bad = []

-- the mask afterwards: the raster, then what was past it. Turned away, it is left as it was
abbrev pub raster_over : Result MaskRecord Fault → List ℕ → List ℕ → List ℕ
raster_over (Ok r) raster mask = raster ++ drop (cells_of r.size) mask
raster_over (Err f) raster mask = mask

abbrev pub mask_after_reading : Result MaskRecord Fault → List ℕ → List ℕ → List ℕ
mask_after_reading r file mask = raster_over r (raster_in (read_header file)) mask

-- the ink afterwards (change 9): 'After each done .. PGM reading it equals what a scan of the mask finds, no matter what it
-- held before. After a turned-away call it is unaltered.' The mask is as the call leaves it
abbrev pub ink_after_reading : Result MaskRecord Fault → List ℕ → List ℕ → List ℕ
ink_after_reading (Ok r) mask ink = ink_after r.size mask ink
ink_after_reading (Err f) mask ink = ink

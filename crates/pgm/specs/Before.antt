-- The reading of a file as it was before document 02's change 9: what it answered from the length of its mask alone. Where
-- the ink has numbers for 4,096 rows, which are enough for every file that is taken, it answers that still. Proved in
-- proofs/Before.antt.
use Rattle.std.specs.Prelude.{ℕ, ◌≤◌, ◌≡◌, cond, not, List, ltb, eqb, length, Result, Ok, Err}
use Rattle.fault.specs.declared.Fault.TheVariants.{MaskTooLarge, BufferTooShort, NotPgm, WrongDepth, WrongRaster}
use Rattle.fault.specs.declared.Fault.{Fault}
use Rattle.fault.specs.Check.{Check, answer_unless}
use Rattle.cells.specs.Cells.{cells_of, too_large}
use Rattle.ink.specs.Lent.{Lent}
use Rattle.cells.specs.declared.MaskRecord.{MaskRecord}
use Rattle.pgm_reader.specs.Reading.{Read, ok, bad, Head, read_header}
use Rattle.pgm.specs.Calls.{record_read, read_call}

abbrev pub read_check_before : Head → ℕ → ℕ → Check
read_check_before h raster mask =
    cond (not (eqb h.depth 255)) (Err WrongDepth)
    (cond (too_large h.size) (Err MaskTooLarge)
    (cond (not (eqb raster (cells_of h.size))) (Err WrongRaster)
    (cond (ltb mask (cells_of h.size)) (Err BufferTooShort) (Ok tt))))

abbrev pub head_call_before : Read Head → ℕ → Result MaskRecord Fault
head_call_before bad mask = Err NotPgm
head_call_before (ok h raster) mask = answer_unless (read_check_before h (length raster) mask) (record_read h.size)

abbrev pub ReadAsBefore : Type 0
ReadAsBefore = (file : List ℕ) (lent : Lent) → 8192 ≤ lent.ink → read_call file lent ≡ head_call_before (read_header file) lent.mask

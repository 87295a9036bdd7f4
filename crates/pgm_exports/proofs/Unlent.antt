-- A file that is read where no mask is lent, and no ink: refused as it would be, and with 4 where nothing else is refused.
-- Assumes nothing.
use Rattle.std.specs.Prelude.{Result, Ok, Err}
use mathlib.Core.Path.{◌≡◌, refl}
use mathlib.Core.Bool.{true}
use mathlib.Core.Logic.{inl}
use mathlib.Core.List.{List}
use Prim.Native.Nat.{ℕ, ◌<◌}
use native.Mathlib.Nat.{mul-le-mul}
use Rattle.fault.specs.declared.Fault.{Fault}
use Rattle.fault.specs.declared.Fault.TheVariants.{BufferTooShort}
use Rattle.cells.specs.declared.Size.{Size}
use Rattle.cells.specs.declared.MaskRecord.{MaskRecord}
use Rattle.cells.specs.Cells.{cells_of}
use Rattle.ink.specs.Lent.{Lent}
use Rattle.pgm.specs.Calls.{read_call}
use Rattle.pgm.specs.Laws.{Taken, FirstReadCause, no_header, wrong_depth, too_large_law, wrong_raster, lent_short_law}
use Rattle.pgm.proofs.Reading.{read_exactly_when}
use Rattle.pgm_exports.specs.Calls.{record_short}

-- a file that is taken has cells
some : {file raster : List ℕ} {size : Size} → Taken file size raster → 0 < cells_of size
some t = mul-le-mul t.header.wide t.header.high

abbrev nothing : Lent
nothing = record { mask = 0; ink = 0 }

-- a cause is one where nothing is lent
still : {file : List ℕ} {lent : Lent} {f : Fault} → FirstReadCause file lent f → FirstReadCause file nothing f
still (no_header n) = no_header n
still (wrong_depth size depth raster h n) = wrong_depth size depth raster h n
still (too_large_law size raster h l) = too_large_law size raster h l
still (wrong_raster size raster h s n) = wrong_raster size raster h s n
still (lent_short_law size raster t l) = lent_short_law size raster t (inl (some t))

pub unlent : (file : List ℕ) (lent : Lent) → read_call file nothing ≡ record_short true (read_call file lent)
unlent file lent = go (read_call file lent) refl
  where
    go : (r : Result MaskRecord Fault) → read_call file lent ≡ r → read_call file nothing ≡ record_short true r
    go (Ok r) e =
        let d = read_exactly_when.done_only file r lent e in
        (read_exactly_when.refused file nothing).always BufferTooShort (lent_short_law r.size d.0 d.1.0 (inl (some d.1.0)))
    go (Err f) e = (read_exactly_when.refused file nothing).always f (still ((read_exactly_when.refused file lent).only f e))

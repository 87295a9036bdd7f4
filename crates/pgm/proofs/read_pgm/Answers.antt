-- `pgm::read_pgm` meets its contract. Assumes nothing.
use mathlib.Core.Path.{◌≡◌, sym, ◌∙◌}
use mathlib.Core.List.{List}
use Prim.Native.Nat.{ℕ, ◌-◌, ◌≤◌}
use native.Mathlib.Omega.{arith}
use lib.ListN.{length, take, drop, length-drop}
use lib.Seq.{take_all}
use Rattle.pgm_reader.proofs.Places.{header_read}
use Rattle.pgm.proofs.read_pgm.Goals as goal

-- the raster as the code lends it
raster : (file : List ℕ) (at : ℕ) → at ≤ length file → take (length file - at) (drop at file) ≡ drop at file
raster file at h = take_all (length file - at) (drop at file) (omega (arith, length-drop at file))

pub returns : goal.returns
returns c =
    let was = header_read c.args.file.now (sym c.read_header.ensures ∙ c.in-Some.is) in
    let read = rw (raster c.args.file.now c.in-Some.header.at was.1) at c.read_raster.ensures in
    rw was.0 (record { answer = read.value; cells = read.mask_after; ink = read.ink_after })

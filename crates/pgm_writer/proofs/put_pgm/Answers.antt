-- `pgm_writer::put_pgm` meets its contract. Assumes nothing.
use mathlib.Core.Path.{◌≡◌}
use mathlib.Core.List.{List}
use native.Mathlib.Omega.{arith}
use Prim.Native.Nat.{ℕ, ◌+◌, ◌≤◌}
use lib.ListN.{length, length-append}
use Rattle.cells.specs.declared.Size.{Size}
use Rattle.cells.specs.Over.{over}
use Rattle.pgm_writer.specs.Text.{header_text, pgm_of}
use Rattle.pgm_writer.proofs.Texts.{Wrote, wrote_long, wrote_then}
use Rattle.pgm_writer.proofs.put_pgm.Goals as goal

module _ (size : Size) (raster file : List ℕ) {f : List ℕ} {p : ℕ} (long : length (pgm_of size raster) ≤ length file) (behind : p ≡ length (header_text size))
    (bytes : f ≡ over (header_text size) 0 file) where
  header : Wrote (header_text size) 0 file f p
  header = record { room = omega (arith, length-append (header_text size) raster); behind = omega arith; bytes = bytes }

  -- the raster has room behind it
  room : p + length raster ≤ length f
  room = omega (arith, wrote_long header, length-append (header_text size) raster)

pub returns : goal.returns
returns c =
    let front = header c.args.size c.args.raster.now c.args.file.now c.requires c.put_header-at.ensures.value c.put_header-at.ensures.file_after in
    let raster : Wrote c.args.raster.now c.put_header-at.result c.put_header-at.new.file c.put_bytes.new.to c.put_bytes.result =
    record {
      room = room c.args.size c.args.raster.now c.args.file.now c.requires c.put_header-at.ensures.value c.put_header-at.ensures.file_after;
      behind = c.put_bytes.ensures.value;
      bytes = c.put_bytes.ensures.to_after;
    } in
    let w = wrote_then front raster in
    let b = w.behind in
    record {
      value = omega arith;
      file_after = w.bytes;
    }

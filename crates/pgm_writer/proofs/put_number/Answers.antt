-- `pgm_writer::put_number` meets its contract: four digits at most, one behind another. Assumes nothing.
use mathlib.Core.Path.{◌≡◌}
use mathlib.Core.List.{List}
use Prim.Native.Nat.{ℕ, ◌+◌, ◌≤◌}
use native.Mathlib.Omega.{arith}
use lib.ListN.{length}
use Rattle.cells.specs.Over.{over}
use Rattle.pgm_writer.specs.Text.{place, decimal}
use Rattle.pgm_writer.proofs.Texts.{Wrote, wrote_then, room_behind, place_short}
use Rattle.pgm_writer.proofs.put_number.Goals as goal

-- a digit that was put, with room for k bytes behind it
record Put (unit n k at : ℕ) (before after : List ℕ) (r : ℕ) : Type 0 where
  wrote : Wrote (place unit n) at before after r
  room : r + k ≤ length after

put : (unit n k : ℕ) {at r : ℕ} {before after : List ℕ} → at + (k + 1) ≤ length before → r ≡ at + length (place unit n) → after ≡ over (place unit n) at before
    → Put unit n k at before after r
put unit n k {at} {r} {before} {after} h e b =
    let w : Wrote (place unit n) at before after r = record { room = omega (arith, place_short unit n); behind = e; bytes = b } in
    record { wrote = w; room = room_behind (place_short unit n) k w h }

pub put_place-tens-requires : goal.put_place-tens-requires
put_place-tens-requires c =
    let one = put 1000 c.args.n 3 c.requires c.put_place-hundreds.ensures.value c.put_place-hundreds.ensures.file_after in
    (omega (arith, one.room), omega arith)

pub put_place-ones-requires : goal.put_place-ones-requires
put_place-ones-requires c =
    let one = put 1000 c.args.n 3 c.requires c.put_place-hundreds.ensures.value c.put_place-hundreds.ensures.file_after in
    let two = put 100 c.args.n 2 one.room c.put_place-tens.ensures.value c.put_place-tens.ensures.file_after in
    (omega (arith, two.room), omega arith)

pub put_place-requires : goal.put_place-requires
put_place-requires c =
    let one = put 1000 c.args.n 3 c.requires c.put_place-hundreds.ensures.value c.put_place-hundreds.ensures.file_after in
    let two = put 100 c.args.n 2 one.room c.put_place-tens.ensures.value c.put_place-tens.ensures.file_after in
    let three = put 10 c.args.n 1 two.room c.put_place-ones.ensures.value c.put_place-ones.ensures.file_after in
    (omega (arith, three.room), omega arith)

pub returns : goal.returns
unfolding decimal
returns c =
    let one = put 1000 c.args.n 3 c.requires c.put_place-hundreds.ensures.value c.put_place-hundreds.ensures.file_after in
    let two = put 100 c.args.n 2 one.room c.put_place-tens.ensures.value c.put_place-tens.ensures.file_after in
    let three = put 10 c.args.n 1 two.room c.put_place-ones.ensures.value c.put_place-ones.ensures.file_after in
    let four = put 1 c.args.n 0 three.room c.put_place.ensures.value c.put_place.ensures.file_after in
    let w = wrote_then one.wrote (wrote_then two.wrote (wrote_then three.wrote four.wrote)) in
    record {
      value = w.behind;
      file_after = w.bytes;
    }

-- `pgm_reader::value_at` meets its contract: the value of the first i digits, below 10 to the i. Assumes nothing.
use mathlib.Core.Path.{refl}
use mathlib.Core.List.{List}
use Prim.Native.Nat.{ℕ, ◌+◌, ◌≤◌, ◌<◌}
use native.Mathlib.Omega.{arith}
use lib.ListN.{length, get_or, drop}
use lib.Seq.{get_or-drop}
use Rattle.pgm_reader.specs.Reading.{leading, is_digit, value_of}
use Rattle.pgm_reader.proofs.Runs.{leading_within, leading_fits, digit_at, value_step, ten, ten_few, ten_more}
use Rattle.pgm_reader.proofs.value_at.Goals as goal

-- within the loop there is a digit more
record More (file : List ℕ) (from n i : ℕ) : Type 0 where
  room : from + n ≤ length file
  low : 48 ≤ get_or file (from + i) 0
  high : get_or file (from + i) 0 ≤ 57
  few : ten i ≤ 100000000

more : (file : List ℕ) (from n i : ℕ) → (from ≤ length file) × (n ≤ 9) × (n ≤ leading is_digit (drop from file)) → i < n → More file from n i
more file from n i s h =
    let d = digit_at file from n i s.2 (omega arith) in
    record {
      room = omega (arith, leading_fits is_digit file from s.0);
      low = d.0;
      high = d.1;
      few = ten_few i (omega arith);
    }

pub loop-i-init : goal.loop-i-init
unfolding value_of ten
loop-i-init c = (refl, omega arith)

pub overflow_mul-value : goal.overflow_mul-value
overflow_mul-value c =
    let m = more c.args.file.now c.args.from c.args.n c.loop-i.i c.requires (omega arith) in
    omega (arith, m.few)

pub bounds-file-from : goal.bounds-file-from
bounds-file-from c =
    let m = more c.args.file.now c.args.from c.args.n c.loop-i.i c.requires (omega arith) in
    omega (arith, m.room)

pub overflow_sub-value : goal.overflow_sub-value
overflow_sub-value c =
    let m = more c.args.file.now c.args.from c.args.n c.loop-i.i c.requires (omega arith) in
    omega (arith, m.low)

pub overflow_add-value-in-loop-i : goal.overflow_add-value-in-loop-i
overflow_add-value-in-loop-i c =
    let m = more c.args.file.now c.args.from c.args.n c.loop-i.i c.requires (omega arith) in
    omega (arith, m.high, m.few)

pub loop-i-preserved : goal.loop-i-preserved
loop-i-preserved c =
    let from = c.args.from in
    let file = c.args.file.now in
    let i = c.loop-i.i in
    let m = more c.args.file.now c.args.from c.args.n c.loop-i.i c.requires (omega arith) in
    let s = c.requires in
    let g = get_or-drop from file i 0 in
    let w = leading_within is_digit (drop from file) in
    let v = value_step (drop from file) i (omega arith) in
    let t = ten_more i in
    (omega arith, omega arith)

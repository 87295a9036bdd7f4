-- `pgm_exports::write_pgm` meets its contract. Assumes nothing.
use Rattle.std.specs.Prelude.{Result, Ok, Err}
use mathlib.Core.Path.{◌≡◌, sym}
use Prim.Native.Nat.{ℕ, ◌≤◌}
use native.Mathlib.Omega.{arith}
use lib.ListN.{length}
use Rattle.fault.proofs.Numbers.{cause_numbers}
use Rattle.pgm.specs.Calls.{write_call}
use Rattle.pgm.proofs.Writing.{written_exactly_when, file_lengths}
use Rattle.cells.specs.declared.Size.{Size}
use Rattle.boundary.specs.Answers.{write_number}
use Rattle.pgm_exports.specs.Calls.{size_of}
use Rattle.fault.specs.declared.Fault.{Fault}
use Rattle.pgm_exports.proofs.write_pgm.Goals as goal

-- no file is so long that its number does not fit
fits : (size : Size) (mask file : ℕ) (r : Result ℕ Fault) → write_call size mask file ≡ r → write_number r ≤ 4294967295
fits size mask file (Ok n) e =
    let d = written_exactly_when.done_only size mask file n e in
    let is = d.1 in
    omega (arith, file_lengths.most size d.0.size_allowed)
fits size mask file (Err f) e = omega (arith, cause_numbers.most f)

pub write_number-requires : goal.write_number-requires
write_number-requires c =
    fits (size_of c.args.width c.args.height) (length c.args.mask.now) (length c.args.file.now) c.write_pgm.result
    (sym c.write_pgm.ensures.answer)

pub returns : goal.returns
returns c =
    rw (← c.write_pgm.ensures.answer) (record { number = c.write_number.ensures; file = c.write_pgm.ensures.file })

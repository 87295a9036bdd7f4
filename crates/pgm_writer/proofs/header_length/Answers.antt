-- `pgm_writer::header_length` meets its contract. Assumes nothing.
use native.Mathlib.Omega.{arith}
use Rattle.pgm_writer.proofs.Texts.{decimal_short, header_length}
use Rattle.pgm_writer.proofs.header_length.Goals as goal

pub overflow_add-result : goal.overflow_add-result
overflow_add-result c = let e = c.digits.ensures in omega (arith, decimal_short c.args.size.width)

pub overflow_add-result-2 : goal.overflow_add-result-2
overflow_add-result-2 c =
    let size = c.args.size in
    let e = c.digits.ensures in
    let f = c.digits-2.ensures in
    omega (arith, decimal_short size.width, decimal_short size.height)

pub returns : goal.returns
returns c =
    let e = c.digits.ensures in
    let f = c.digits-2.ensures in
    omega (arith, header_length c.args.size)

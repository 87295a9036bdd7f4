-- `pgm_writer::put_place` meets its contract. Assumes nothing.
use mathlib.Core.Path.{refl, sym}
use native.Mathlib.Omega.{arith}
use Rattle.pgm_writer.proofs.Texts.{over_none, over_one, place_none, place_one}
use Rattle.pgm_writer.proofs.put_place.Goals as goal

pub returns-then-n-unit : goal.returns-then-n-unit
returns-then-n-unit c =
    let args = c.args in
    rw (place_none args.unit args.n c.if-n-unit.true) (record { value = omega arith; file_after = sym (over_none args.at args.file.now) })

pub returns : goal.returns
returns c =
    let args = c.args in
    rw (place_one args.unit args.n c.if-n-unit.false) (record { value = refl; file_after = sym (over_one _ args.at args.file.now (omega arith)) })

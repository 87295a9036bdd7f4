-- `narrowing::narrow` meets its contract, by the laws of proofs/Narrowing.antt. Assumes nothing.
use Rattle.narrowing.proofs.Narrowing.{of_nan, of_inf, left_over}
use lib.Ieee.{of_bits}
use mathlib.Core.Bool.{true, false}
use mathlib.Core.Path.{sym}
use Rattle.narrowing.proofs.narrow.Goals as goal

pub returns-then-is_nan : goal.returns-then-is_nan
unfolding of_bits
returns-then-is_nan c = of_nan c.args.x (sym c.if-is_nan.ensures.value)

pub returns-then-x : goal.returns-then-x
unfolding of_bits
returns-then-x c = of_inf false c.args.x c.if-x.true

pub returns-then-x-2 : goal.returns-then-x-2
unfolding of_bits
returns-then-x-2 c = of_inf true c.args.x c.if-x-2.true

pub narrow_finite-requires : goal.narrow_finite-requires
unfolding of_bits
narrow_finite-requires c = left_over c.args.x (sym c.if-is_nan.ensures.value) c.if-x.false c.if-x-2.false

-- `whole::to_column` meets its contract, by the laws of proofs/Cast.antt and proofs/Part.antt. Assumes nothing.
use mathlib.Core.Path.{◌≡◌, ◌∙◌}
use native.Mathlib.Omega.{arith}
use lib.Ieee.{Float, le, of_bits, to_unsigned}
use mathlib.Core.Bool.{true, false}
use Rattle.float.specs.Ops.{f1}
use Rattle.whole.proofs.Cast.{top, cut_top, cut_mid}
use Rattle.whole.proofs.Part.{above_one, below_one, part_few}
use Rattle.whole.proofs.to_column.Goals as goal

whole : (x : Float) → le (top 13) x ≡ false → le f1 x ≡ true → to_unsigned 64 x ≡ to_unsigned 13 x
whole x h g = cut_mid 13 x (omega arith) h (above_one x g)

pub returns-then-x : goal.returns-then-x
unfolding of_bits
returns-then-x c = cut_top 13 c.args.x c.if-x.true

pub whole_part-requires : goal.whole_part-requires
unfolding of_bits
whole_part-requires c = (c.if-x-2.true, part_few 13 c.args.x (omega arith) (whole c.args.x c.if-x.false c.if-x-2.true))

pub returns-then-x-2 : goal.returns-then-x-2
unfolding of_bits
returns-then-x-2 c = c.whole_part.ensures ∙ whole c.args.x c.if-x.false c.if-x-2.true

pub returns : goal.returns
unfolding of_bits
returns c = below_one 13 c.args.x c.if-x-2.false

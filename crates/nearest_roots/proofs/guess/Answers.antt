-- `nearest_roots::guess` meets its contract: each float whose bits are asked for, or that is made of bits, is no NaN, and the
-- pattern is in range. Assumes nothing.
use lib.Ieee.{binary64}
use mathlib.Core.Logic.{inl, inr}
use mathlib.Core.Path.{refl}
use Prim.Native.Nat.{ℕ, ◌-◌, ◌*◌, ◌^◌, ◌<◌}
use native.Mathlib.Omega.{arith}
use Rattle.nearest_roots.proofs.Guessing.{above_no_nan, bits_no_nan}
use Rattle.nearest_roots.proofs.guess.Goals as goal

below_top : (n : ℕ) → n < 0x2_3f80_0000 → n - 0x1_c000_0000 < 255 * 2 ^ 23
below_top n h = omega arith

pub float_to_bits-bits : goal.float_to_bits-bits
float_to_bits-bits c = above_no_nan _ c.args.v c.if-v.true

pub float_from_bits-first : goal.float_from_bits-first
float_from_bits-first c = bits_no_nan binary64 _ (omega arith)

pub float_to_bits-near : goal.float_to_bits-near
float_to_bits-near c = above_no_nan _ _ c.if-root.true

pub returns-then-pattern-lt9655287808 : goal.returns-then-pattern-lt9655287808
returns-then-pattern-lt9655287808 c = inr (omega (arith, c.if-pattern-gt7524581376.true), below_top _ c.if-pattern-lt9655287808.true)

pub returns-else-pattern-gt7524581376 : goal.returns-else-pattern-gt7524581376
returns-else-pattern-gt7524581376 c = inl refl

pub returns-else-root : goal.returns-else-root
returns-else-root c = inl refl

pub returns-else-v : goal.returns-else-v
returns-else-v c = inl refl

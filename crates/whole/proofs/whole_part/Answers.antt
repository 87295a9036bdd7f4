-- `whole::whole_part` meets its contract, by the laws of proofs/Part.antt. Assumes nothing.
use mathlib.Core.Path.{◌≡◌}
use mathlib.Core.Bool.{Bool, true}
use Prim.Native.Nat.{ℕ, ◌-◌, ◌/◌, ◌^◌, ◌≤◌, ◌<◌}
use native.Mathlib.Nat.{le_of_lt}
use native.Mathlib.Omega.{arith}
use lib.Ieee.{Float, binary32, le, to_unsigned}
use Rattle.float.specs.Ops.{f1}
use Rattle.float.specs.Parts.{Unpacked}
use Rattle.whole.proofs.Part.{exponent_low, exponent_high, part_digits, part_finite, part_some, part_whole}
use Rattle.whole.proofs.whole_part.Goals as goal

module _ (x : Float) (s : Bool) (d e : ℕ) (p : Unpacked binary32 x s d e) (some : le f1 x ≡ true) (few : to_unsigned 64 x < 2 ^ 23) where
  high : e < 149
  high = exponent_high d e (to_unsigned 64 x) p.small p.full (part_whole x s _ p.value some few) (part_some x some few) few

  shifted : (n : ℕ) → 86 ≤ n → 149 - n < 64
  shifted n h = omega arith

  short : 149 - e < 64
  short = shifted e (exponent_low d e (to_unsigned 64 x) p.small p.full (part_whole x s _ p.value some few) (part_some x some few) few)

  part : d / 2 ^ (149 - e) ≡ to_unsigned 64 x
  part = part_digits d e (to_unsigned 64 x) p.small p.full (part_whole x s _ p.value some few) (part_some x some few) few high

pub unpack32-p-requires : goal.unpack32-p-requires
unpack32-p-requires c = part_finite c.args.x c.requires.0 c.requires.1

pub overflow_sub-result : goal.overflow_sub-result
overflow_sub-result c =
    let r = c.unpack32-p.result in
    le_of_lt (high c.args.x r.negative r.digits r.exponent c.unpack32-p.ensures c.requires.0 c.requires.1)

pub overflow_shr-result : goal.overflow_shr-result
overflow_shr-result c =
    let r = c.unpack32-p.result in
    short c.args.x r.negative r.digits r.exponent c.unpack32-p.ensures c.requires.0 c.requires.1

pub returns : goal.returns
returns c =
    let r = c.unpack32-p.result in
    part c.args.x r.negative r.digits r.exponent c.unpack32-p.ensures c.requires.0 c.requires.1

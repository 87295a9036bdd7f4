-- `ink::blank_front` meets its contract: no byte from the first up to `from` has ink. Assumes nothing.
use Prim.Native.Nat.{◌+◌}
use native.Mathlib.Omega.{arith}
use Rattle.ink.proofs.Bytes.{passed_more, part_blank}
use Rattle.ink.proofs.blank_front.Goals as goal

pub loop-from-preserved : goal.loop-from-preserved
loop-from-preserved c =
    let line = c.args.line.now in
    let block = c.args.block in
    let w = c.loop-from.invariant.within in
    let z = c.blank.ensures c.if-not-blank.false in
    passed_more c.loop-from.invariant (part_blank line c.loop-from.from (c.loop-from.from + block) (omega arith) (omega arith) z)

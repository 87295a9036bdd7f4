-- `ink::blank_back` meets its contract: no byte from `to` up to the end has ink. Assumes nothing.
use Prim.Native.Nat.{◌-◌}
use native.Mathlib.Omega.{arith}
use Rattle.ink.proofs.Bytes.{passed_more, part_blank}
use Rattle.ink.proofs.blank_back.Goals as goal

pub loop-to-preserved : goal.loop-to-preserved
loop-to-preserved c =
    let line = c.args.line.now in
    let block = c.args.block in
    let u = c.loop-to.invariant.up in
    let w = c.loop-to.invariant.within in
    let z = c.blank.ensures c.if-not-blank.false in
    passed_more (part_blank line (c.loop-to.to - block) c.loop-to.to (omega arith) (omega arith) z) c.loop-to.invariant

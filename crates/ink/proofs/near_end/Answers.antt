-- `ink::near_end` meets its contract. Assumes nothing.
use mathlib.Core.Path.{◌≡◌}
use Prim.Native.Nat.{◌+◌, ◌-◌}
use native.Mathlib.Omega.{arith}
use Rattle.ink.proofs.Bytes.{passed_more, part_long, part_passed}
use Rattle.ink.proofs.near_end.Goals as goal

pub returns : goal.returns
returns c =
    let line = c.args.line.now in
    let to = c.blank_back-to.result in
    let u = c.blank_back-to.ensures.up in
    let l = part_long line (to - 64) to u (omega arith) in
    let e : to - 64 + (to - (to - 64)) ≡ to = omega arith in
    passed_more (rw (l, e) at (part_passed line (to - 64) to u (omega arith) c.end_in.result _ c.end_in.ensures)) c.blank_back-to.ensures

-- `ink::near_first` meets its contract. Assumes nothing.
use mathlib.Core.Path.{◌≡◌}
use Prim.Native.Nat.{◌+◌}
use native.Mathlib.Omega.{arith}
use Rattle.ink.proofs.Bytes.{passed_more, part_passed}
use Rattle.ink.proofs.near_first.Goals as goal

pub returns : goal.returns
returns c =
    let line = c.args.line.now in
    let from = c.blank_front-from.result in
    let w = c.blank_front-from.ensures.within in
    let e : from + 0 ≡ from = omega arith in
    passed_more c.blank_front-from.ensures (rw e at (part_passed line from (from + 64) (omega arith) (omega arith) 0 c.first_in.result c.first_in.ensures))

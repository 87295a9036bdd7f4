-- `ink::blank` meets its contract: while what is or-ed is 0, so is each byte passed. Assumes nothing.
use mathlib.Core.Path.{◌≡◌}
use Prim.Native.Nat.{ℕ}
use lib.ListN.{get_or}
use borrow.Author.Count.{below_more}
use Rattle.ink.proofs.Bytes.{or_none}
use Rattle.ink.proofs.blank.Goals as goal

pub loop-byte-preserved : goal.loop-byte-preserved
loop-byte-preserved c =
    let bytes = c.args.bytes.now in
    let i = c.loop-byte.byte-index in
    λ e. let o = or_none c.loop-byte.all (get_or bytes i 0) e in below_more (λ (k : ℕ). get_or bytes k 0 ≡ 0) i (c.loop-byte.invariant o.0) o.1

-- `ink::blank` meets its contract: while what is or-ed is 0, so is each byte passed. Assumes nothing.
use mathlib.Core.Path.{◌≡◌}
use Prim.Native.Nat.{ℕ, ◌<◌}
use lib.ListN.{get_or}
use Rattle.ink.proofs.blank.Given as goal

abbrev pub invariant-loop-byte : goal.invariant-loop-byte
invariant-loop-byte l = l.all ≡ 0 → (k : ℕ) → k < l.byte-index → get_or l.bytes k 0 ≡ 0

-- `whole::from_whole` meets its contract: the cast is exact. Assumes nothing.
use mathlib.Core.Path.{sym, subst}
use lib.Dec.{T}
use Prim.Native.Nat.{◌^◌}
use lib.Ieee.{in_float}
use borrow.Author.Tests.{le-leb}
use Rattle.whole.proofs.from_whole.Goals as goal

pub int_to_float-result : goal.int_to_float-result
unfolding in_float
int_to_float-result c = subst T (sym (le-leb c.args.n (2 ^ 24) c.requires)) tt

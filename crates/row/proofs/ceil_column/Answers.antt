-- `row::ceil_column` meets its contract: a column is below 8,192, so it is a float and the next one fits. Assumes
-- nothing.
use mathlib.Core.Path.{refl}
use native.Mathlib.Omega.{arith}
use lib.Ieee.Casts.{to_unsigned-lt}
use Rattle.row.specs.Row.{ceil_column}
use Rattle.row.proofs.ceil_column.Goals as goal

pub from_whole-requires : goal.from_whole-requires
from_whole-requires c = omega (arith, to_unsigned-lt 13 c.args.x)

pub overflow_add-result : goal.overflow_add-result
overflow_add-result c = omega (arith, to_unsigned-lt 13 c.args.x)

pub returns-then-from_whole-x : goal.returns-then-from_whole-x
unfolding ceil_column
returns-then-from_whole-x c = rw (← c.to_column-column.ensures, ← c.from_whole.ensures, c.if-from_whole-x.true) refl

pub returns-else-from_whole-x : goal.returns-else-from_whole-x
unfolding ceil_column
returns-else-from_whole-x c = rw (← c.to_column-column.ensures, ← c.from_whole.ensures, c.if-from_whole-x.false) refl

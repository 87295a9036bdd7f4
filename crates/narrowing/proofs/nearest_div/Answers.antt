-- `narrowing::nearest_div` meets its contract, by the laws of proofs/Shift.antt. Assumes nothing.
use Rattle.float.proofs.Shift.{closest_down, closest_up, closest_tie}
use native.Mathlib.Nat.{le_of_lt, mod-lt, div-le_self}
use native.Mathlib.Omega.{arith}
use Rattle.narrowing.proofs.nearest_div.Goals as goal

pub overflow_sub-lacks : goal.overflow_sub-lacks
overflow_sub-lacks c = le_of_lt (mod-lt c.args.a c.requires.unit_nonzero)

pub returns-then-rest-lacks : goal.returns-then-rest-lacks
returns-then-rest-lacks c = closest_down c.args.a c.args.unit c.requires.unit_nonzero c.if-rest-lacks.true

pub overflow_add-result : goal.overflow_add-result
overflow_add-result c = omega (arith, div-le_self c.args.a c.args.unit)

pub returns-then-lacks-rest : goal.returns-then-lacks-rest
returns-then-lacks-rest c = closest_up c.args.a c.args.unit c.requires.unit_nonzero c.if-lacks-rest.true

pub overflow_add-result-2 : goal.overflow_add-result-2
overflow_add-result-2 c = omega (arith, div-le_self c.args.a c.args.unit)

pub returns : goal.returns
returns c = closest_tie c.args.a c.args.unit c.requires.unit_nonzero c.if-rest-lacks.false c.if-lacks-rest.false

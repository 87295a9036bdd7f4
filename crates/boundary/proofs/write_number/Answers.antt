-- `boundary::write_number` meets its contract. Assumes nothing.
use Prim.Native.Nat.{◌+◌, ◌≤◌}
use native.Mathlib.Omega.{arith}
use Rattle.boundary.proofs.write_number.Goals as goal

pub overflow_cast-result : goal.overflow_cast-result
overflow_cast-result c = let fits : 256 + c.in-Ok.length ≤ 4294967295 = rw c.in-Ok.is at c.requires in omega arith

pub returns-in-Ok : goal.returns-in-Ok
returns-in-Ok c = rw c.in-Ok.is

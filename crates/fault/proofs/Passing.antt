-- What a check that passes says of its parts. Assumes nothing.
use mathlib.Core.Path.{◌≡◌, refl}
use mathlib.Core.Bool.{Bool, true, false}
use Prim.Native.Nat.{ℕ}
use native.Mathlib.Omega.{arith}
use Rattle.fault.specs.declared.Fault.{Fault}
use Rattle.std.specs.Prelude.{Ok, Err}
use Rattle.fault.specs.Check.{Check, unless_of, ◌and_then◌}

pub both_pass : (a b : Check) → (a and_then b) ≡ Ok tt → (a ≡ Ok tt) × (b ≡ Ok tt)
both_pass (Ok _) b h = (refl, h)
both_pass (Err f) b h = let z : ◌≡◌ {A = ℕ} 0 1 = cc in absurd (omega arith)

pub test_passes : (good : Bool) (f : Fault) → unless_of good f ≡ Ok tt → good ≡ true
test_passes true f h = refl
test_passes false f h = let z : ◌≡◌ {A = ℕ} 0 1 = cc in absurd (omega arith)

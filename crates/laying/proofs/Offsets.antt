-- An offset in 64 bits, and how far from 0 a sum is. Assumes nothing.
use mathlib.Core.Bool.{Bool, true, false, cond}
use Prim.Native.Nat.{ℕ, suc, ◌+◌, ◌-◌, ◌≤◌}
use native.Mathlib.Omega.{arith}
use lib.Dec.{ltb}
use lib.IntN.{ℤ, pos, negsuc, nat_abs, sub_ℕ, ◌+ℤ◌}
use mir.Syntax.{w32, w64}
use mir.Val.{SFits}

pub wider : (z : ℤ) → SFits w32 z → SFits w64 z
wider (pos n) s = let b = s.sfits in record { sfits = omega arith }
wider (negsuc n) s = let b = s.sfits in record { sfits = omega arith }

pub turned_small : (z : ℤ) → SFits w32 z → nat_abs z ≤ 2147483648
turned_small (pos n) s = let b = s.sfits in omega arith
turned_small (negsuc n) s = let b = s.sfits in omega arith

-- ---- a sum is no further from 0 than its parts together

apart_abs : (a b : ℕ) → nat_abs (sub_ℕ a (suc b)) ≤ a + suc b
apart_abs a b = go (ltb a (suc b))
  where
    go : (t : Bool) → nat_abs (cond t (negsuc (suc b - suc a)) (pos (a - suc b))) ≤ a + suc b
    go true = omega arith
    go false = omega arith

pub sum_abs : (a b : ℤ) → nat_abs (a +ℤ b) ≤ nat_abs a + nat_abs b
sum_abs (pos a) (pos b) = omega arith
sum_abs (pos a) (negsuc b) = apart_abs a b
sum_abs (negsuc a) (pos b) = omega (arith, apart_abs b a)
sum_abs (negsuc a) (negsuc b) = omega arith

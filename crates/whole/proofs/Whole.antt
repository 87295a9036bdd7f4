-- What the beliefs about floor and ceiling cite of a fraction's whole part. Assumes nothing.
use mathlib.Core.Path.{◌≡◌, ap₂}
use mathlib.Core.Bool.{Bool, true, false, cond}
use Prim.Native.Nat.{ℕ, ◌+◌, ◌*◌, ◌%◌, ◌≤◌, ◌<◌}
use native.Mathlib.Nat.{mul-div_cancel, mul-mod_left}
use native.Mathlib.Omega.{arith}
use lib.Dec.{eqb}
use borrow.Author.Tests.{eq-eqb}
use Rattle.whole.specs.Whole.{step_away, whole_div}

-- with no digit below 1 it is its own
pub whole_exact : (t : Bool) (n c : ℕ) → 0 < c → whole_div t (n * c) c ≡ n
whole_exact false n c C = mul-div_cancel n C
whole_exact true n c C = ap₂ (λ (b : Bool) (q : ℕ). cond b q (q + 1)) (eq-eqb (n * c % c) 0 (mul-mod_left n c)) (mul-div_cancel n C)

pub step_le : (t : Bool) (q left : ℕ) → step_away t q left ≤ q + 1
step_le false q left = omega arith
step_le true q left = go (eqb left 0)
  where
    go : (b : Bool) → cond b q (q + 1) ≤ q + 1
    go true = omega arith
    go false = omega arith

-- A zero's exponent. Assumes nothing.
use Rattle.std.proofs.Common.{◌≡◌, ℕ, zero, suc, ◌*◌, ◌^◌, ◌<◌, ℤ, pos, negsuc, sym, refl, ◌∙◌, one-mul, mul-one, arith, pow_pos}
use lib.Ieee.{up, down}

-- ---- zero
no_power : (k : ℕ) → 2 ^ suc k ≡ 1 → ⊥
no_power k h = let p : 0 < 2 ^ k = pow_pos k in omega arith

-- a zero is written in one way
pub flat : (e : ℤ) → up e * down e ≡ 1 → e ≡ pos 0
flat (pos zero) h = refl
flat (pos (suc k)) h = absurd (no_power k (sym (mul-one (2 ^ suc k)) ∙ h))
flat (negsuc k) h = absurd (no_power k (sym (one-mul (2 ^ suc k)) ∙ h))

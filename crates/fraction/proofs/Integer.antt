-- The integers of `lib.IntN` as differences: sums, products and the order go over, and two integers with the same
-- difference are equal. So a law of ℤ is one line of `omega`. Assumes nothing.
use mathlib.Core.Path.{◌≡◌, refl, ap}
use mathlib.Core.Bool.{Bool, true, false, not, cond}
use Prim.Native.Nat.{ℕ, zero, suc, ◌+◌, ◌-◌, ◌*◌, ◌≤◌, ◌<◌}
use native.Mathlib.Omega.{arith}
use lib.IntN.{ℤ, pos, negsuc, neg_ℤ, sub_ℕ, ◌+ℤ◌, ◌*ℤ◌}
use lib.Dec.{T, ltb, ltb→lt, nltb→le, leb→le, le→leb}
use lib.Signed.{◌≤ℤ◌}
use Rattle.fraction.specs.Whole.{◌+ʷ◌, ◌-ʷ◌, ◌*ʷ◌, negʷ, natʷ, ofℤ, ◌≤ʷ◌, ◌≈ʷ◌}

pub of_inj : (a b : ℤ) → ofℤ a ≈ʷ ofℤ b → a ≡ b
of_inj (pos a) (pos b) h = ap pos (omega (arith, h))
of_inj (pos a) (negsuc b) h = absurd (none a b h)
  where
    none : (a b : ℕ) → a + suc b ≡ 0 + 0 → ⊥
    none a b h = omega arith
of_inj (negsuc a) (pos b) h = absurd (none a b h)
  where
    none : (a b : ℕ) → 0 + 0 ≡ b + suc a → ⊥
    none a b h = omega arith
of_inj (negsuc a) (negsuc b) h = ap negsuc (omega (arith, h))

of_sub : (a b : ℕ) → ofℤ (sub_ℕ a b) ≈ʷ natʷ a -ʷ natʷ b
of_sub a b = go (ltb a b) (ltb→lt a b) (nltb→le a b)
  where
    go : (x : Bool) → (T x → a < b) → (T (not x) → b ≤ a) → ofℤ (cond x (negsuc (b - suc a)) (pos (a - b))) ≈ʷ natʷ a -ʷ natʷ b
    go true f g = omega (arith, f tt)
    go false f g = omega (arith, g tt)

pub of_add : (a b : ℤ) → ofℤ (a +ℤ b) ≈ʷ ofℤ a +ʷ ofℤ b
of_add (pos a) (pos b) = omega arith
of_add (pos a) (negsuc b) = omega (arith, of_sub a (suc b))
of_add (negsuc a) (pos b) = omega (arith, of_sub b (suc a))
of_add (negsuc a) (negsuc b) = omega arith

pub of_neg : (a : ℤ) → ofℤ (neg_ℤ a) ≈ʷ negʷ (ofℤ a)
of_neg (pos zero) = refl
of_neg (pos (suc n)) = omega arith
of_neg (negsuc n) = omega arith

pub of_mul : (a b : ℤ) → ofℤ (a *ℤ b) ≈ʷ ofℤ a *ʷ ofℤ b
of_mul (pos a) (pos b) = omega arith
of_mul (pos a) (negsuc b) = omega (arith, of_neg (pos (a * suc b)))
of_mul (negsuc a) (pos b) = omega (arith, of_neg (pos (suc a * b)))
of_mul (negsuc a) (negsuc b) = omega arith

pub of_le : (a b : ℤ) → a ≤ℤ b → ofℤ a ≤ʷ ofℤ b
of_le (pos a) (pos b) h = omega (arith, leb→le a b h.le)
of_le (pos a) (negsuc b) h = absurd h.le
of_le (negsuc a) (pos b) h = omega arith
of_le (negsuc a) (negsuc b) h = omega (arith, leb→le b a h.le)

pub le_of : (a b : ℤ) → ofℤ a ≤ʷ ofℤ b → a ≤ℤ b
le_of (pos a) (pos b) h = record { le = le→leb a b (omega (arith, h)) }
le_of (pos a) (negsuc b) h = absurd (none a b h)
  where
    none : (a b : ℕ) → a + suc b ≤ 0 + 0 → ⊥
    none a b h = omega arith
le_of (negsuc a) (pos b) h = record { le = tt }
le_of (negsuc a) (negsuc b) h = record { le = le→leb b a (omega (arith, h)) }

-- ---- a law that lib.IntN lacks, as a path
pub mul_distrib : (a b c : ℤ) → a *ℤ (b +ℤ c) ≡ a *ℤ b +ℤ a *ℤ c
mul_distrib a b c = of_inj (a *ℤ (b +ℤ c)) (a *ℤ b +ℤ a *ℤ c)
    (omega (arith, of_mul a (b +ℤ c), of_add (a *ℤ b) (a *ℤ c), of_mul a b, of_mul a c, ap (λ (t : ℕ). (ofℤ a).plus * t) (of_add b c), ap (λ (t : ℕ). (ofℤ a).minus * t) (of_add b c)))

-- H and its slope, t held between 0 and 1 (K below), by pieces; then the two facts that replace the pieces: 2 H(t) =
-- 2 t K - K * K, and (t - K) * (K - j) is not negative for any j from 0 to 1. Assumes nothing.
use mathlib.Core.Logic.{◌⊎◌, inl, inr}
use mathlib.Core.List.{[], ◌∷◌}
use mathlib.Core.Bool.{Bool, true, false, not, cond}
use native.Mathlib.Omega.{arith}
use lib.Dec.{T}
use Rattle.fraction.specs.Fraction.{Fraction, ◌≤ᶠ◌, ◌<ᶠ◌, ◌≈ᶠ◌, leᵇ, natᶠ, ◌/2^◌, ◌-ᶠ◌, ◌*ᶠ◌, clampᶠ}
use Rattle.fraction.proofs.Linear.{at_le, at_lt, at_eq, eq_at, sub_at, scale_at, over, lit≈, trans}
use Rattle.fraction.proofs.Order.{refl≈, of_eq, of_lt, le_or_lt, sym≈, trans≈, antisym, sub_nonneg, mul_cong, mul_comm, mul_nonneg}
use Rattle.fraction.proofs.Ring.{rep, reps, ring, cong_sub, cong_mul}
use Rattle.fraction.proofs.Clamp.{yes≤, no<, clamp_inside, clamp_below, clamp_above}
use Rattle.winding.specs.Winding.{H}

-- ---- H
pub H-inside : (t : Fraction) → natᶠ 0 ≤ᶠ t → t ≤ᶠ natᶠ 1 → H t ≈ᶠ t *ᶠ t *ᶠ 1 /2^ 1
unfolding H
H-inside t p q = go (leᵇ t (natᶠ 0)) (leᵇ t (natᶠ 1)) (yes≤ t (natᶠ 0)) (λ h. of_lt (no< t (natᶠ 1) h))
  where
    at_end : (c : Fraction) → t ≈ᶠ c → t *ᶠ t *ᶠ 1 /2^ 1 ≈ᶠ c *ᶠ c *ᶠ 1 /2^ 1
    at_end c e = cong_mul (cong_mul e e) (refl≈ (1 /2^ 1))

    go : (a b : Bool) → (T a → t ≤ᶠ natᶠ 0) → (T (not b) → natᶠ 1 ≤ᶠ t) → cond a (natᶠ 0) (cond b (t *ᶠ t *ᶠ 1 /2^ 1) (t -ᶠ 1 /2^ 1)) ≈ᶠ t *ᶠ t *ᶠ 1 /2^ 1
    go true b f g = sym≈ (trans≈ (at_end (natᶠ 0) (antisym (f tt) p)) (unfold ◌*ᶠ◌ in lit≈ tt))
    go false true f g = refl≈ (t *ᶠ t *ᶠ 1 /2^ 1)
    go false false f g =
        let e = antisym q (g tt) in
        trans≈ (over (t ∷ natᶠ 1 ∷ 1 /2^ 1 ∷ []) (λ N n A O P. eq_at N (sub_at N A P) P n (omega (arith, O.is, P.is, at_eq N A O e)))) (sym≈ (trans≈ (at_end (natᶠ 1) e) (unfold ◌*ᶠ◌ in lit≈ tt)))

pub H-low : (t : Fraction) → t ≤ᶠ natᶠ 0 → H t ≈ᶠ natᶠ 0
unfolding H
H-low t h = go (leᵇ t (natᶠ 0)) (leᵇ t (natᶠ 1)) (no< t (natᶠ 0))
  where
    go : (a b : Bool) → (T (not a) → natᶠ 0 <ᶠ t) → cond a (natᶠ 0) (cond b (t *ᶠ t *ᶠ 1 /2^ 1) (t -ᶠ 1 /2^ 1)) ≈ᶠ natᶠ 0
    go true b f = refl≈ (natᶠ 0)
    go false b f = absurd (over (t ∷ natᶠ 0 ∷ []) (λ N n A O. omega (arith, at_le N A O h, at_lt N O A n (f tt))))

pub H-high : (t : Fraction) → natᶠ 1 ≤ᶠ t → H t ≈ᶠ t -ᶠ 1 /2^ 1
unfolding H
H-high t h = go (leᵇ t (natᶠ 0)) (leᵇ t (natᶠ 1)) (yes≤ t (natᶠ 0)) (yes≤ t (natᶠ 1))
  where
    go : (a b : Bool) → (T a → t ≤ᶠ natᶠ 0) → (T b → t ≤ᶠ natᶠ 1) → cond a (natᶠ 0) (cond b (t *ᶠ t *ᶠ 1 /2^ 1) (t -ᶠ 1 /2^ 1)) ≈ᶠ t -ᶠ 1 /2^ 1
    go true b f g = absurd (over (t ∷ natᶠ 0 ∷ natᶠ 1 ∷ []) (λ N n A O I. omega (arith, n, O.is, I.is, at_le N A O (f tt), at_le N I A h)))
    go false true f g =
        let e = antisym (g tt) h in
        trans≈ (trans≈ (cong_mul (cong_mul e e) (refl≈ (1 /2^ 1))) (unfold ◌*ᶠ◌ in lit≈ tt))
        (over (t ∷ natᶠ 1 ∷ 1 /2^ 1 ∷ []) (λ N n A O P. eq_at N P (sub_at N A P) n (omega (arith, O.is, P.is, at_eq N A O e))))
    go false false f g = refl≈ (t -ᶠ 1 /2^ 1)

-- ---- which piece
pub data Piece (t : Fraction) : Type 0 where
  low : t ≤ᶠ natᶠ 0 → Piece t
  inside : natᶠ 0 ≤ᶠ t → t ≤ᶠ natᶠ 1 → Piece t
  high : natᶠ 1 ≤ᶠ t → Piece t

pub piece : (t : Fraction) → Piece t
piece t = go (le_or_lt t (natᶠ 0)) (le_or_lt t (natᶠ 1))
  where
    go : (t ≤ᶠ natᶠ 0) ⊎ (natᶠ 0 <ᶠ t) → (t ≤ᶠ natᶠ 1) ⊎ (natᶠ 1 <ᶠ t) → Piece t
    go (inl a) b = low a
    go (inr a) (inl b) = inside (of_lt a) b
    go (inr a) (inr b) = high (of_lt b)

-- ---- 2 H(t) = 2 t K - K * K, for K the held t
abbrev pub by : Fraction → Fraction → Fraction
by t k = t *ᶠ k -ᶠ k *ᶠ k *ᶠ 1 /2^ 1

by_cong : (t : Fraction) {k j : Fraction} → k ≈ᶠ j → by t k ≈ᶠ by t j
by_cong t e = cong_sub (mul_cong t e) (cong_mul (cong_mul e e) (refl≈ (1 /2^ 1)))

pub H-by : (t : Fraction) → H t ≈ᶠ by t (clampᶠ t)
H-by t = go (piece t)
  where
    go : Piece t → H t ≈ᶠ by t (clampᶠ t)
    go (low a) = let ρ = t ∷ 1 /2^ 1 ∷ [] in let R = reps ρ in
        trans≈ (H-low t a) (trans≈ (ring ρ {x = natᶠ 0} {y = by t (natᶠ 0)} (search rep) (search rep) tt) (sym≈ (by_cong t (clamp_below t a))))
    go (inside a b) =
        trans≈ (H-inside t a b) (trans≈ (halves t) (sym≈ (by_cong t (clamp_inside t a b))))
      where
        -- x * x / 2 is x * x less x * x / 2
        halves : (x : Fraction) → x *ᶠ x *ᶠ 1 /2^ 1 ≈ᶠ by x x
        halves x =
            over (x *ᶠ x ∷ 1 /2^ 1 *ᶠ (x *ᶠ x) ∷ x *ᶠ x *ᶠ 1 /2^ 1 ∷ []) (λ N n S J P. eq_at N P (sub_at N S P) n (omega (arith, scale_at N (1 /2^ 1) S J, at_eq N J P (mul_comm (1 /2^ 1) (x *ᶠ x)))))
    go (high a) = let ρ = t ∷ 1 /2^ 1 ∷ [] in let R = reps ρ in
        trans≈ (H-high t a) (trans≈ (ring ρ {x = t -ᶠ 1 /2^ 1} {y = by t (natᶠ 1)} (search rep) (search rep) tt) (sym≈ (by_cong t (clamp_above t a))))

-- ---- the held t is the nearest to t of all from 0 to 1
pub outward : (t j : Fraction) → natᶠ 0 ≤ᶠ j → j ≤ᶠ natᶠ 1 → natᶠ 0 ≤ᶠ (t -ᶠ clampᶠ t) *ᶠ (clampᶠ t -ᶠ j)
outward t j p q = go (piece t)
  where
    at_k : (k : Fraction) → clampᶠ t ≈ᶠ k → (t -ᶠ clampᶠ t) *ᶠ (clampᶠ t -ᶠ j) ≈ᶠ (t -ᶠ k) *ᶠ (k -ᶠ j)
    at_k k e = cong_mul (cong_sub (refl≈ t) e) (cong_sub e (refl≈ j))

    go : Piece t → natᶠ 0 ≤ᶠ (t -ᶠ clampᶠ t) *ᶠ (clampᶠ t -ᶠ j)
    go (low a) = let ρ = t ∷ j ∷ [] in let R = reps ρ in
        trans (mul_nonneg (sub_nonneg a) p)
        (of_eq (trans≈ (ring ρ {x = (natᶠ 0 -ᶠ t) *ᶠ j} {y = (t -ᶠ natᶠ 0) *ᶠ (natᶠ 0 -ᶠ j)} (search rep) (search rep) tt) (sym≈ (at_k (natᶠ 0) (clamp_below t a)))))
    go (inside a b) = let ρ = t ∷ j ∷ [] in let R = reps ρ in
        of_eq (trans≈ (ring ρ {x = natᶠ 0} {y = (t -ᶠ t) *ᶠ (t -ᶠ j)} (search rep) (search rep) tt) (sym≈ (at_k t (clamp_inside t a b))))
    go (high a) = trans (mul_nonneg (sub_nonneg a) (sub_nonneg q)) (of_eq (sym≈ (at_k (natᶠ 1) (clamp_above t a))))

-- H lies above each of its tangents, by at most half the square of the distance. Assumes nothing.
use mathlib.Core.List.{[], ◌∷◌}
use native.Mathlib.Omega.{arith}
use Rattle.fraction.specs.Fraction.{Fraction, ◌≤ᶠ◌, ◌≈ᶠ◌, natᶠ, ◌/2^◌, ◌+ᶠ◌, ◌-ᶠ◌, ◌*ᶠ◌, clampᶠ}
use Rattle.fraction.proofs.Linear.{at_le, le_at, add_at, over, lit, lit≈, trans}
use Rattle.fraction.proofs.Order.{of_eq, sym≈, trans≈, mul_comm, mul_nonneg, mul_one, square_nonneg, refl≈}
use Rattle.fraction.proofs.Ring.{rep, reps, ring, le_by, cong_add, cong_sub, cong_mul}
use Rattle.fraction.proofs.Clamp.{clamp_cong, clamp_nonneg, clamp_le_one}
use Rattle.winding.specs.Winding.{H}
use Rattle.winding.proofs.Pieces.{H-by, outward}

-- how far H at t is above the tangent at s
abbrev pub rise : Fraction → Fraction → Fraction
rise s t = H t -ᶠ H s -ᶠ clampᶠ s *ᶠ (t -ᶠ s)

half_nonneg : {x : Fraction} → natᶠ 0 ≤ᶠ x → natᶠ 0 ≤ᶠ 1 /2^ 1 *ᶠ x
half_nonneg {x} p = mul_nonneg (lit tt) p

-- for numbers k and j of any kind, and h the half
form : (t s k j h : Fraction) → h +ᶠ h ≈ᶠ natᶠ 1 → t *ᶠ k -ᶠ k *ᶠ k *ᶠ h -ᶠ (s *ᶠ j -ᶠ j *ᶠ j *ᶠ h) -ᶠ j *ᶠ (t -ᶠ s) ≈ᶠ h *ᶠ ((k -ᶠ j) *ᶠ (k -ᶠ j)) +ᶠ (t -ᶠ k) *ᶠ (k -ᶠ j)
form t s k j h e =
    let ρ = t ∷ s ∷ k ∷ j ∷ h ∷ [] in
    let R = reps ρ in
    trans≈ (ring ρ {x = t *ᶠ k -ᶠ k *ᶠ k *ᶠ h -ᶠ (s *ᶠ j -ᶠ j *ᶠ j *ᶠ h) -ᶠ j *ᶠ (t -ᶠ s)} {y = h *ᶠ ((k -ᶠ j) *ᶠ (k -ᶠ j)) +ᶠ (t *ᶠ (k -ᶠ j) -ᶠ (h +ᶠ h) *ᶠ (k *ᶠ (k -ᶠ j)))}
    (search rep depth 9) (search rep depth 9) tt)
    (trans≈ (cong_add (refl≈ (h *ᶠ ((k -ᶠ j) *ᶠ (k -ᶠ j)))) (cong_sub (refl≈ (t *ᶠ (k -ᶠ j))) (cong_mul e (refl≈ (k *ᶠ (k -ᶠ j))))))
    (ring ρ {x = h *ᶠ ((k -ᶠ j) *ᶠ (k -ᶠ j)) +ᶠ (t *ᶠ (k -ᶠ j) -ᶠ natᶠ 1 *ᶠ (k *ᶠ (k -ᶠ j)))} {y = h *ᶠ ((k -ᶠ j) *ᶠ (k -ᶠ j)) +ᶠ (t -ᶠ k) *ᶠ (k -ᶠ j)} (search rep depth 9) (search rep depth 9) tt))

-- half the square of t - s is more by half of ((t - k) - (s - j))², and by (s - j)(j - k)
above : (t s k j h : Fraction) → h +ᶠ h ≈ᶠ natᶠ 1 → h *ᶠ ((t -ᶠ s) *ᶠ (t -ᶠ s)) -ᶠ (h *ᶠ ((k -ᶠ j) *ᶠ (k -ᶠ j)) +ᶠ (t -ᶠ k) *ᶠ (k -ᶠ j))
    ≈ᶠ h *ᶠ ((t -ᶠ k -ᶠ (s -ᶠ j)) *ᶠ (t -ᶠ k -ᶠ (s -ᶠ j))) +ᶠ (s -ᶠ j) *ᶠ (j -ᶠ k)
above t s k j h e =
    let ρ = t ∷ s ∷ k ∷ j ∷ h ∷ [] in
    let R = reps ρ in
    trans≈ (cong_sub (refl≈ (h *ᶠ ((t -ᶠ s) *ᶠ (t -ᶠ s)))) (cong_add (refl≈ (h *ᶠ ((k -ᶠ j) *ᶠ (k -ᶠ j)))) (one ((t -ᶠ k) *ᶠ (k -ᶠ j)))))
    (trans≈ (ring ρ
    {x = h *ᶠ ((t -ᶠ s) *ᶠ (t -ᶠ s)) -ᶠ (h *ᶠ ((k -ᶠ j) *ᶠ (k -ᶠ j)) +ᶠ (h +ᶠ h) *ᶠ ((t -ᶠ k) *ᶠ (k -ᶠ j)))}
    {y = h *ᶠ ((t -ᶠ k -ᶠ (s -ᶠ j)) *ᶠ (t -ᶠ k -ᶠ (s -ᶠ j))) +ᶠ (h +ᶠ h) *ᶠ ((s -ᶠ j) *ᶠ (j -ᶠ k))} (search rep depth 9) (search rep depth 9) tt)
    (cong_add (refl≈ (h *ᶠ ((t -ᶠ k -ᶠ (s -ᶠ j)) *ᶠ (t -ᶠ k -ᶠ (s -ᶠ j))))) (sym≈ (one ((s -ᶠ j) *ᶠ (j -ᶠ k))))))
  where
    one : (x : Fraction) → x ≈ᶠ (h +ᶠ h) *ᶠ x
    one x = trans≈ (trans≈ (sym≈ (mul_one x)) (mul_comm x (natᶠ 1))) (cong_mul (sym≈ e) (refl≈ x))

-- with k and j the held t and s, the rise is half of (k - j)(2 t - k - j): (k - j)² / 2 + (t - k)(k - j)
module _ (s t : Fraction) where
  abbrev k : Fraction
  k = clampᶠ t

  abbrev j : Fraction
  j = clampᶠ s

  rise_form : rise s t ≈ᶠ 1 /2^ 1 *ᶠ ((k -ᶠ j) *ᶠ (k -ᶠ j)) +ᶠ (t -ᶠ k) *ᶠ (k -ᶠ j)
  rise_form = trans≈ (cong_sub (cong_sub (H-by t) (H-by s)) (refl≈ (clampᶠ s *ᶠ (t -ᶠ s)))) (form t s k j (1 /2^ 1) (unfold ◌+ᶠ◌ in lit≈ tt))

  -- ---- from 0 to half the square
  pub rise_nonneg : natᶠ 0 ≤ᶠ rise s t
  rise_nonneg =
      let a = half_nonneg (square_nonneg (k -ᶠ j)) in
      let b = outward t j (clamp_nonneg s) (clamp_le_one s) in
      trans (over (1 /2^ 1 *ᶠ ((k -ᶠ j) *ᶠ (k -ᶠ j)) ∷ (t -ᶠ k) *ᶠ (k -ᶠ j) ∷ natᶠ 0 ∷ []) (λ N n A B O. le_at N O (add_at N A B) n (omega (arith, O.is, at_le N O A a, at_le N O B b))))
      (of_eq (sym≈ rise_form))

  pub rise_le : rise s t ≤ᶠ 1 /2^ 1 *ᶠ ((t -ᶠ s) *ᶠ (t -ᶠ s))
  rise_le =
      let a = half_nonneg (square_nonneg (t -ᶠ k -ᶠ (s -ᶠ j))) in
      let b = outward s k (clamp_nonneg t) (clamp_le_one t) in
      trans (of_eq rise_form)
      (le_by (over (1 /2^ 1 *ᶠ ((t -ᶠ k -ᶠ (s -ᶠ j)) *ᶠ (t -ᶠ k -ᶠ (s -ᶠ j))) ∷ (s -ᶠ j) *ᶠ (j -ᶠ k) ∷ natᶠ 0 ∷ [])
      (λ N n A B O. le_at N O (add_at N A B) n (omega (arith, O.is, at_le N O A a, at_le N O B b))))
      (above t s k j (1 /2^ 1) (unfold ◌+ᶠ◌ in lit≈ tt)))

-- ---- equal numbers have an equal H
pub H-cong : {s t : Fraction} → s ≈ᶠ t → H s ≈ᶠ H t
H-cong {s} {t} e = trans≈ (H-by s) (trans≈ (cong_sub (cong_mul e (clamp_cong e)) (cong_mul (cong_mul (clamp_cong e) (clamp_cong e)) (refl≈ (1 /2^ 1)))) (sym≈ (H-by t)))

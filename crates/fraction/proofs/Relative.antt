-- Relative errors: `Rel x X r t` is |x - X| ≤ r * |X| + t. Through one value after another, products, sums of one
-- sign, and reciprocals. Assumes nothing.
use mathlib.Core.Path.{refl}
use mathlib.Core.List.{[], ◌∷◌}
use native.Mathlib.Omega.{arith}
use Rattle.fraction.specs.Fraction.{Fraction, ◌≤ᶠ◌, ◌≈ᶠ◌, natᶠ, ◌+ᶠ◌, ◌-ᶠ◌, ◌*ᶠ◌, absᶠ, invᶠ, Near, Within}
use Rattle.fraction.proofs.Linear.{at_le, le_at, eq_at, add_at, sub_at, abs_at, over, trans}
use Rattle.fraction.proofs.Order.{refl≤, of_eq, sym≈, trans≈, add_mono, mul_comm, mul_assoc, mul_mono, mul_mono_right, mul_cong, mul_one, mul_nonneg, inv_mul}
use Rattle.fraction.proofs.Near.{near_add, near_mul, near_trans, near_weaken, near_sym, near_of_within, within_of_near, within_mul, abs_of_within, within_near, within_weaken, within_same}
use Rattle.fraction.proofs.Ring.{rep, reps, ring, cong_sub, cong_mul}
use Rattle.fraction.proofs.Abs.{within_abs, abs_nonneg, abs_mul, abs_cong}

pub record Rel (x X r t : Fraction) : Type 0 where
  pub near : Near x X (r *ᶠ absᶠ X +ᶠ t)

-- for a bound of X's size the error is absolute
pub rel_near : {x X r t b : Fraction} → natᶠ 0 ≤ᶠ r → Rel x X r t → Within X b → Near x X (r *ᶠ b +ᶠ t)
rel_near {t = t} p h w = near_weaken h.near (add_mono (mul_mono p (abs_of_within w)) (refl≤ t))

pub rel_weaken : {x X r s t v : Fraction} → r ≤ᶠ s → t ≤ᶠ v → Rel x X r t → Rel x X s v
rel_weaken {X = X} k l h = record { near = near_weaken h.near (add_mono (mul_mono_right (abs_nonneg X) k) l) }

-- an absolute error that is a part of X's size is a relative one
pub rel_absorb : (k : Fraction) {x X r t : Fraction} → t ≤ᶠ k *ᶠ absᶠ X → Rel x X r t → Rel x X (r +ᶠ k) (natᶠ 0)
rel_absorb k {x} {X} {r} {t} l h =
    let ρ = r ∷ k ∷ absᶠ X ∷ [] in
    let R = reps ρ in
    record {
      near = near_weaken h.near
          (trans (add_mono (refl≤ (r *ᶠ absᶠ X)) l)
          (of_eq (ring ρ {x = r *ᶠ absᶠ X +ᶠ k *ᶠ absᶠ X} {y = (r +ᶠ k) *ᶠ absᶠ X +ᶠ natᶠ 0} (search rep depth 7) (search rep depth 7) tt)));
    }

-- one after another, as a rounding of a value that has an error: r + s + r * s
pub rel_trans : {x y z r s t v : Fraction} → natᶠ 0 ≤ᶠ r → Rel x y r t → Rel y z s v → Rel x z (r +ᶠ s +ᶠ r *ᶠ s) (t +ᶠ v +ᶠ r *ᶠ v)
rel_trans {x} {y} {z} {r} {s} {t} {v} p h k =
    let ρ = r ∷ s ∷ t ∷ v ∷ absᶠ z ∷ [] in
    let R = reps ρ in
    record {
      near = near_weaken (near_trans h.near k.near)
          (trans (add_mono (add_mono (mul_mono p (abs_of_within (within_near k.near (within_abs z)))) (refl≤ t)) (refl≤ (s *ᶠ absᶠ z +ᶠ v)))
          (of_eq (ring ρ {x = r *ᶠ (absᶠ z +ᶠ (s *ᶠ absᶠ z +ᶠ v)) +ᶠ t +ᶠ (s *ᶠ absᶠ z +ᶠ v)} {y = (r +ᶠ s +ᶠ r *ᶠ s) *ᶠ absᶠ z +ᶠ (t +ᶠ v +ᶠ r *ᶠ v)}
          (search rep depth 9) (search rep depth 9) tt)));
    }

-- a sum of two numbers of one sign: the larger of the relative errors
pub rel_add : {x X y Y r t v : Fraction} → natᶠ 0 ≤ᶠ X → natᶠ 0 ≤ᶠ Y → Rel x X r t → Rel y Y r v → Rel (x +ᶠ y) (X +ᶠ Y) r (t +ᶠ v)
rel_add {x} {X} {y} {Y} {r} {t} {v} p q h k =
    let ρ = r ∷ t ∷ v ∷ absᶠ X ∷ absᶠ Y ∷ [] in
    let R = reps ρ in
    record {
      near = near_weaken (near_add h.near k.near)
          (trans (of_eq (ring ρ {x = r *ᶠ absᶠ X +ᶠ t +ᶠ (r *ᶠ absᶠ Y +ᶠ v)} {y = r *ᶠ (absᶠ X +ᶠ absᶠ Y) +ᶠ (t +ᶠ v)} (search rep depth 7) (search rep depth 7) tt))
          (add_mono (of_eq (mul_cong r sizes)) (refl≤ (t +ᶠ v))));
    }
  where
    sizes : absᶠ X +ᶠ absᶠ Y ≈ᶠ absᶠ (X +ᶠ Y)
    sizes =
        over (X ∷ Y ∷ natᶠ 0 ∷ []) (λ N n A B O.
        eq_at N (add_at N (abs_at N n A) (abs_at N n B)) (abs_at N n (add_at N A B)) n (omega (arith, O.is, at_le N O A p, at_le N O B q)))

-- a product, for |X| ≤ b and |Y| ≤ c: r + s + r * s again, and the absolute parts times the bounds
pub rel_mul : {x X y Y r s t v b c : Fraction} → natᶠ 0 ≤ᶠ r → natᶠ 0 ≤ᶠ s → natᶠ 0 ≤ᶠ t → natᶠ 0 ≤ᶠ v → Rel x X r t → Rel y Y s v → Within X b → Within Y c
    → Rel (x *ᶠ y) (X *ᶠ Y) (r +ᶠ s +ᶠ r *ᶠ s) ((natᶠ 1 +ᶠ s) *ᶠ t *ᶠ c +ᶠ (natᶠ 1 +ᶠ r) *ᶠ v *ᶠ b +ᶠ t *ᶠ v)
rel_mul {x} {X} {y} {Y} {r} {s} {t} {v} {b} {c} r0 s0 t0 v0 h k p q =
    let ρ = r ∷ s ∷ t ∷ v ∷ absᶠ X ∷ absᶠ Y ∷ [] in
    let R = reps ρ in
    record {
      near = near_weaken (near_mul h.near k.near (within_abs X) (within_near k.near (within_abs Y)))
          (trans (of_eq (ring ρ {x = (r *ᶠ absᶠ X +ᶠ t) *ᶠ (absᶠ Y +ᶠ (s *ᶠ absᶠ Y +ᶠ v)) +ᶠ absᶠ X *ᶠ (s *ᶠ absᶠ Y +ᶠ v)}
          {y = (r +ᶠ s +ᶠ r *ᶠ s) *ᶠ (absᶠ X *ᶠ absᶠ Y) +ᶠ ((natᶠ 1 +ᶠ s) *ᶠ t *ᶠ absᶠ Y +ᶠ (natᶠ 1 +ᶠ r) *ᶠ v *ᶠ absᶠ X +ᶠ t *ᶠ v)} (search rep depth 9) (search rep depth 9) tt))
          (add_mono (of_eq (mul_cong (r +ᶠ s +ᶠ r *ᶠ s) (sym≈ (abs_mul X Y))))
          (add_mono (add_mono (mul_mono (mul_nonneg (more s0) t0) (abs_of_within q)) (mul_mono (mul_nonneg (more r0) v0) (abs_of_within p))) (refl≤ (t *ᶠ v)))));
    }
  where
    more : {w : Fraction} → natᶠ 0 ≤ᶠ w → natᶠ 0 ≤ᶠ natᶠ 1 +ᶠ w
    more {w} h = over (natᶠ 0 ∷ natᶠ 1 ∷ w ∷ []) (λ N n O I W. le_at N O (add_at N I W) n (omega (arith, O.is, I.is, at_le N O W h)))

-- 1 / x, where r ≤ s * (1 - r): for r = 2 ^ -24 an s a little larger serves. |x - X| ≤ r |X| ≤ s (1 - r) |X| ≤ s |x|,
-- and 1 / x - 1 / X is (X - x) / (x * X)
module _ (x X r s : Fraction) (f : ¬ (x ≈ᶠ natᶠ 0)) (g : ¬ (X ≈ᶠ natᶠ 0)) (p : natᶠ 0 ≤ᶠ s) (l : r ≤ᶠ s *ᶠ (natᶠ 1 -ᶠ r)) (h : Rel x X r (natᶠ 0)) where
  near : Near x X (r *ᶠ absᶠ X)
  near = near_weaken h.near (over (r *ᶠ absᶠ X ∷ natᶠ 0 ∷ []) (λ N n A O. le_at N (add_at N A O) A n (omega (arith, O.is))))

  -- |X| ≤ |x| + r |X|, so r |X| ≤ s |x|
  back : absᶠ X ≤ᶠ absᶠ x +ᶠ r *ᶠ absᶠ X
  back = abs_of_within (within_near (near_sym near) (within_abs x))

  small : r *ᶠ absᶠ X ≤ᶠ s *ᶠ absᶠ x
  small =
      let ρ = r ∷ s ∷ absᶠ X ∷ [] in
      let R = reps ρ in
      trans (mul_mono_right (abs_nonneg X) l)
      (trans (of_eq (ring ρ {x = s *ᶠ (natᶠ 1 -ᶠ r) *ᶠ absᶠ X} {y = s *ᶠ (absᶠ X -ᶠ r *ᶠ absᶠ X)} (search rep depth 7) (search rep depth 7) tt))
      (mul_mono p (over (absᶠ X ∷ absᶠ x ∷ r *ᶠ absᶠ X ∷ []) (λ N n A B C. le_at N (sub_at N A C) B n (omega (arith, at_le N A (add_at N B C) back))))))

  one : (w : Fraction) → ¬ (w ≈ᶠ natᶠ 0) → w *ᶠ invᶠ w ≈ᶠ natᶠ 1
  one w z = trans≈ (mul_comm w (invᶠ w)) (inv_mul w z)

  apart : invᶠ x -ᶠ invᶠ X ≈ᶠ (X -ᶠ x) *ᶠ (invᶠ x *ᶠ invᶠ X)
  apart =
      let ρ = x ∷ X ∷ invᶠ x ∷ invᶠ X ∷ [] in
      let R = reps ρ in
      trans≈ (cong_sub (trans≈ (sym≈ (mul_one (invᶠ x))) (mul_cong (invᶠ x) (sym≈ (one X g)))) (trans≈ (sym≈ (mul_one (invᶠ X))) (mul_cong (invᶠ X) (sym≈ (one x f)))))
      (ring ρ {x = invᶠ x *ᶠ (X *ᶠ invᶠ X) -ᶠ invᶠ X *ᶠ (x *ᶠ invᶠ x)} {y = (X -ᶠ x) *ᶠ (invᶠ x *ᶠ invᶠ X)} (search rep depth 7) (search rep depth 7) tt)

  -- s |x| |1 / x * 1 / X| is s |1 / X|
  size : s *ᶠ absᶠ x *ᶠ absᶠ (invᶠ x *ᶠ invᶠ X) ≈ᶠ s *ᶠ absᶠ (invᶠ X)
  size =
      trans≈ (mul_assoc s (absᶠ x) (absᶠ (invᶠ x *ᶠ invᶠ X)))
      (mul_cong s (trans≈ (sym≈ (abs_mul x (invᶠ x *ᶠ invᶠ X)))
      (abs_cong (trans≈ (sym≈ (mul_assoc x (invᶠ x) (invᶠ X))) (trans≈ (cong_mul (one x f) (record { eq = refl })) (trans≈ (mul_comm (natᶠ 1) (invᶠ X)) (mul_one (invᶠ X))))))))

  pub rel_inv : Rel (invᶠ x) (invᶠ X) s (natᶠ 0)
  rel_inv =
      let w = within_weaken (within_same (sym≈ apart) (within_mul (within_weaken (within_of_near (near_sym near)) small) (within_abs (invᶠ x *ᶠ invᶠ X)))) (of_eq size) in
      record { near = near_weaken (near_of_within w) (over (s *ᶠ absᶠ (invᶠ X) ∷ natᶠ 0 ∷ []) (λ N n A O. le_at N A (add_at N A O) n (omega (arith, O.is)))) }

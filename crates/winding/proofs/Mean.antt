-- D(u, v): `mean`. Its product with v - u is H(v) - H(u), it lies between the held u and v, does not depend on their
-- order, and grows with each of them by at most half as much. Assumes nothing.
use mathlib.Core.Path.{◌≡◌, refl}
use mathlib.Core.Logic.{◌⊎◌, inl, inr}
use mathlib.Core.List.{[], ◌∷◌}
use mathlib.Core.Bool.{Bool, true, false, not}
use native.Mathlib.Omega.{arith}
use lib.Dec.{T}
use Rattle.fraction.specs.Fraction.{Fraction, ◌≤ᶠ◌, ◌<ᶠ◌, ◌≈ᶠ◌, leᵇ, natᶠ, ◌/2^◌, ◌+ᶠ◌, ◌-ᶠ◌, ◌*ᶠ◌, ◌/ᶠ◌, clampᶠ, Near}
use Rattle.fraction.proofs.Linear.{at_le, at_lt, at_eq, le_at, eq_at, add_at, sub_at, scale_at, over, trans}
use Rattle.fraction.proofs.Order.{of_eq, sym≈, trans≈, antisym, mul_cong, mul_comm, mul_mono, mul_nonneg, zero_mul}
use Rattle.fraction.proofs.Order.{div_mul, cancel_eq, cancel_le, le_cong, le_or_lt, lt_not, of_lt, refl≈, sub_above, sub_nonneg}
use Rattle.fraction.proofs.Ring.{rep, reps, ring, cong_add, cong_sub, cong_mul}
use Rattle.fraction.proofs.Near.{near_trans, near_weaken}
use Rattle.fraction.proofs.Clamp.{yes≤, no<, clamp_nonneg, clamp_le_one, clamp_cong}
use Rattle.winding.specs.Winding.{H}
use Rattle.winding.proofs.MeanOf.{mean}
use Rattle.winding.proofs.Convex.{rise, rise_nonneg, rise_le, H-cong}

-- ---- what the test of `mean` decides
pub data Mean (u v : Fraction) : Type 0 where
  level : u ≈ᶠ v → mean u v ≈ᶠ clampᶠ u → Mean u v
  slope : (u <ᶠ v) ⊎ (v <ᶠ u) → mean u v ≈ᶠ (H v -ᶠ H u) /ᶠ (v -ᶠ u) → Mean u v

pub mean_is : (u v : Fraction) → Mean u v
unfolding mean
mean_is u v = go (leᵇ u v) (leᵇ v u) (yes≤ u v) (yes≤ v u) (no< u v) (no< v u) refl refl
  where
    go : (a b : Bool) → (T a → u ≤ᶠ v) → (T b → v ≤ᶠ u) → (T (not a) → v <ᶠ u) → (T (not b) → u <ᶠ v) → leᵇ u v ≡ a → leᵇ v u ≡ b → Mean u v
    go true true f g h k p q = level (antisym (f tt) (g tt)) (rw (p, q) (refl≈ (clampᶠ u)))
    go true false f g h k p q = slope (inl (k tt)) (rw (p, q) (refl≈ ((H v -ᶠ H u) /ᶠ (v -ᶠ u))))
    go false b f g h k p q = slope (inr (h tt)) (rw p (refl≈ ((H v -ᶠ H u) /ᶠ (v -ᶠ u))))

-- ---- the slope times the step is the rise
pub mean_area : (u v : Fraction) → mean u v *ᶠ (v -ᶠ u) ≈ᶠ H v -ᶠ H u
mean_area u v = go (mean_is u v)
  where
    apart : (u <ᶠ v) ⊎ (v <ᶠ u) → ¬ (v -ᶠ u ≈ᶠ natᶠ 0)
    apart (inl h) e = over (u ∷ v ∷ natᶠ 0 ∷ []) (λ N n U W O. omega (arith, O.is, at_lt N U W n h, at_eq N (sub_at N W U) O e))
    apart (inr h) e = over (u ∷ v ∷ natᶠ 0 ∷ []) (λ N n U W O. omega (arith, O.is, at_lt N W U n h, at_eq N (sub_at N W U) O e))

    nothing : {x y : Fraction} → x ≈ᶠ y → y -ᶠ x ≈ᶠ natᶠ 0
    nothing {x} {y} e = over (x ∷ y ∷ natᶠ 0 ∷ []) (λ N n X Y O. eq_at N (sub_at N Y X) O n (omega (arith, O.is, at_eq N X Y e)))

    go : Mean u v → mean u v *ᶠ (v -ᶠ u) ≈ᶠ H v -ᶠ H u
    go (level e m) = trans≈ (mul_cong (mean u v) (nothing e)) (trans≈ (mul_comm (mean u v) (natᶠ 0)) (trans≈ (zero_mul (mean u v)) (sym≈ (nothing (H-cong e)))))
    go (slope s m) = trans≈ (cong_mul m (refl≈ (v -ᶠ u))) (div_mul (H v -ᶠ H u) (v -ᶠ u) (apart s))

-- ---- what has these two properties is the mean
pub mean_unique : (u v d : Fraction) → (u ≈ᶠ v → d ≈ᶠ clampᶠ u) → d *ᶠ (v -ᶠ u) ≈ᶠ H v -ᶠ H u → mean u v ≈ᶠ d
mean_unique u v d l a = go (mean_is u v)
  where
    go : Mean u v → mean u v ≈ᶠ d
    go (level e m) = trans≈ m (sym≈ (l e))
    go (slope (inl h) m) = cancel_eq (mean u v) d (v -ᶠ u) (sub_above h) (trans≈ (mul_comm (v -ᶠ u) (mean u v)) (trans≈ (mean_area u v) (trans≈ (sym≈ a) (mul_comm d (v -ᶠ u)))))
    go (slope (inr h) m) = cancel_eq (mean u v) d (u -ᶠ v) (sub_above h) (turned (mean u v) d (trans≈ (mean_area u v) (sym≈ a)))
      where
        turned : (x y : Fraction) → x *ᶠ (v -ᶠ u) ≈ᶠ y *ᶠ (v -ᶠ u) → (u -ᶠ v) *ᶠ x ≈ᶠ (u -ᶠ v) *ᶠ y
        turned x y e =
            let ρ = x ∷ y ∷ u ∷ v ∷ [] in
            let R = reps ρ in
            trans≈ (ring ρ {x = (u -ᶠ v) *ᶠ x} {y = natᶠ 0 -ᶠ x *ᶠ (v -ᶠ u)} (search rep) (search rep) tt)
            (trans≈ (cong_sub (refl≈ (natᶠ 0)) e) (ring ρ {x = natᶠ 0 -ᶠ y *ᶠ (v -ᶠ u)} {y = (u -ᶠ v) *ᶠ y} (search rep) (search rep) tt))

pub mean_level : (u v : Fraction) → u ≈ᶠ v → mean u v ≈ᶠ clampᶠ u
mean_level u v e = go (mean_is u v)
  where
    go : Mean u v → mean u v ≈ᶠ clampᶠ u
    go (level e m) = m
    go (slope (inl h) m) = absurd (lt_not h (sym≈ e))
    go (slope (inr h) m) = absurd (lt_not h e)

-- ---- the order of u and v does not matter
pub mean_sym : (u v : Fraction) → mean u v ≈ᶠ mean v u
mean_sym u v = mean_unique u v (mean v u) (λ e. trans≈ (mean_level v u (sym≈ e)) (clamp_cong (sym≈ e)))
    (let ρ = mean v u ∷ u ∷ v ∷ H u ∷ H v ∷ [] in
    let R = reps ρ in
    trans≈ (ring ρ {x = mean v u *ᶠ (v -ᶠ u)} {y = natᶠ 0 -ᶠ mean v u *ᶠ (u -ᶠ v)} (search rep) (search rep) tt)
    (trans≈ (cong_sub (refl≈ (natᶠ 0)) (mean_area v u)) (ring ρ {x = natᶠ 0 -ᶠ (H u -ᶠ H v)} {y = H v -ᶠ H u} (search rep) (search rep) tt)))

-- nor how they are written
pub mean_cong : {u u' v v' : Fraction} → u ≈ᶠ u' → v ≈ᶠ v' → mean u v ≈ᶠ mean u' v'
mean_cong {u} {u'} {v} {v'} e f = mean_unique u v (mean u' v') (λ l. trans≈ (mean_level u' v' (trans≈ (sym≈ e) (trans≈ l f))) (clamp_cong (sym≈ e)))
    (trans≈ (mul_cong (mean u' v') (cong_sub f e)) (trans≈ (mean_area u' v') (cong_sub (H-cong (sym≈ f)) (H-cong (sym≈ e)))))

-- ---- from x to y it rises, by at most j

abbrev Rises : Fraction → Fraction → Fraction → Type 0
Rises x y j = (x ≤ᶠ y) × (y ≤ᶠ x +ᶠ j)

rises : (x y j : Fraction) → natᶠ 0 ≤ᶠ y -ᶠ x → y -ᶠ x ≤ᶠ j → Rises x y j
rises x y j a b = over (x ∷ y ∷ natᶠ 0 ∷ j ∷ []) (λ N n X Y O J. (
  le_at N X Y n (omega (arith, O.is, at_le N O (sub_at N Y X) a)),
  le_at N Y (add_at N X J) n (omega (arith, at_le N (sub_at N Y X) J b)),
))

-- not at all, where the step is none
rises_none : (x y u v : Fraction) → y ≈ᶠ x → v ≈ᶠ u → Rises x y (1 /2^ 1 *ᶠ (v -ᶠ u))
rises_none x y u v m e = (
  of_eq (sym≈ m),
  over (x ∷ y ∷ u ∷ v ∷ 1 /2^ 1 *ᶠ (v -ᶠ u) ∷ []) (λ N n X Y U Z J.
      le_at N Y (add_at N X J) n (omega (arith, at_eq N Y X m, at_eq N Z U e, scale_at N (1 /2^ 1) (sub_at N Z U) J))),
)

-- ---- the mean is near the held ends: for u ≤ v from K(u) to K(u) + (v - u) / 2, and from K(v) - (v - u) / 2 to K(v)
module _ (u v : Fraction) (le : u ≤ᶠ v) where
  -- x is K(u) + r / (v - u), where r is the rise from u to v
  at_first : Rises (clampᶠ u) (mean u v) (1 /2^ 1 *ᶠ (v -ᶠ u))
  at_first = go (le_or_lt v u)
    where
      flat : u ≈ᶠ v → Rises (clampᶠ u) (mean u v) (1 /2^ 1 *ᶠ (v -ᶠ u))
      flat e = rises_none (clampᶠ u) (mean u v) u v (mean_level u v e) (sym≈ e)

      -- (v - u) (D - K(u)) is the rise
      over_first : (v -ᶠ u) *ᶠ (mean u v -ᶠ clampᶠ u) ≈ᶠ rise u v
      over_first =
          let ρ = mean u v ∷ clampᶠ u ∷ u ∷ v ∷ [] in
          let R = reps ρ in
          trans≈ (ring ρ {x = (v -ᶠ u) *ᶠ (mean u v -ᶠ clampᶠ u)} {y = mean u v *ᶠ (v -ᶠ u) -ᶠ clampᶠ u *ᶠ (v -ᶠ u)} (search rep) (search rep) tt)
          (cong_sub (mean_area u v) (refl≈ (clampᶠ u *ᶠ (v -ᶠ u))))

      steep : u <ᶠ v → Rises (clampᶠ u) (mean u v) (1 /2^ 1 *ᶠ (v -ᶠ u))
      steep h =
          let ρ = u ∷ v ∷ 1 /2^ 1 ∷ [] in
          let R = reps ρ in
          let a : natᶠ 0 ≤ᶠ mean u v -ᶠ clampᶠ u = cancel_le (natᶠ 0) (mean u v -ᶠ clampᶠ u) (v -ᶠ u) (sub_above h)
          (le_cong (sym≈ (trans≈ (mul_comm (v -ᶠ u) (natᶠ 0)) (zero_mul (v -ᶠ u)))) (sym≈ over_first) (rise_nonneg u v)) in
          let b : mean u v -ᶠ clampᶠ u ≤ᶠ 1 /2^ 1 *ᶠ (v -ᶠ u) = cancel_le (mean u v -ᶠ clampᶠ u) (1 /2^ 1 *ᶠ (v -ᶠ u)) (v -ᶠ u) (sub_above h)
          (le_cong (sym≈ over_first) (ring ρ {x = 1 /2^ 1 *ᶠ ((v -ᶠ u) *ᶠ (v -ᶠ u))} {y = (v -ᶠ u) *ᶠ (1 /2^ 1 *ᶠ (v -ᶠ u))} (search rep) (search rep) tt) (rise_le u v)) in
          rises (clampᶠ u) (mean u v) (1 /2^ 1 *ᶠ (v -ᶠ u)) a b

      go : (v ≤ᶠ u) ⊎ (u <ᶠ v) → Rises (clampᶠ u) (mean u v) (1 /2^ 1 *ᶠ (v -ᶠ u))
      go (inl h) = flat (antisym le h)
      go (inr h) = steep h

  at_last : Rises (mean u v) (clampᶠ v) (1 /2^ 1 *ᶠ (v -ᶠ u))
  at_last = go (le_or_lt v u)
    where
      flat : u ≈ᶠ v → Rises (mean u v) (clampᶠ v) (1 /2^ 1 *ᶠ (v -ᶠ u))
      flat e = rises_none (mean u v) (clampᶠ v) u v (sym≈ (trans≈ (mean_level u v e) (clamp_cong e))) (sym≈ e)

      -- (v - u) (K(v) - D) is the rise from v back to u
      over_last : (v -ᶠ u) *ᶠ (clampᶠ v -ᶠ mean u v) ≈ᶠ rise v u
      over_last =
          let ρ = mean u v ∷ clampᶠ v ∷ u ∷ v ∷ H u ∷ H v ∷ [] in
          let R = reps ρ in
          trans≈ (ring ρ {x = (v -ᶠ u) *ᶠ (clampᶠ v -ᶠ mean u v)} {y = clampᶠ v *ᶠ (v -ᶠ u) -ᶠ mean u v *ᶠ (v -ᶠ u)} (search rep) (search rep) tt)
          (trans≈ (cong_sub (refl≈ (clampᶠ v *ᶠ (v -ᶠ u))) (mean_area u v)) (ring ρ {x = clampᶠ v *ᶠ (v -ᶠ u) -ᶠ (H v -ᶠ H u)} {y = H u -ᶠ H v -ᶠ clampᶠ v *ᶠ (u -ᶠ v)} (search rep) (search rep) tt))

      steep : u <ᶠ v → Rises (mean u v) (clampᶠ v) (1 /2^ 1 *ᶠ (v -ᶠ u))
      steep h =
          let ρ = u ∷ v ∷ 1 /2^ 1 ∷ [] in
          let R = reps ρ in
          let a : natᶠ 0 ≤ᶠ clampᶠ v -ᶠ mean u v = cancel_le (natᶠ 0) (clampᶠ v -ᶠ mean u v) (v -ᶠ u) (sub_above h)
          (le_cong (sym≈ (trans≈ (mul_comm (v -ᶠ u) (natᶠ 0)) (zero_mul (v -ᶠ u)))) (sym≈ over_last) (rise_nonneg v u)) in
          let b : clampᶠ v -ᶠ mean u v ≤ᶠ 1 /2^ 1 *ᶠ (v -ᶠ u) = cancel_le (clampᶠ v -ᶠ mean u v) (1 /2^ 1 *ᶠ (v -ᶠ u)) (v -ᶠ u) (sub_above h)
          (le_cong (sym≈ over_last) (ring ρ {x = 1 /2^ 1 *ᶠ ((u -ᶠ v) *ᶠ (u -ᶠ v))} {y = (v -ᶠ u) *ᶠ (1 /2^ 1 *ᶠ (v -ᶠ u))} (search rep) (search rep) tt) (rise_le v u)) in
          rises (mean u v) (clampᶠ v) (1 /2^ 1 *ᶠ (v -ᶠ u)) a b

      go : (v ≤ᶠ u) ⊎ (u <ᶠ v) → Rises (mean u v) (clampᶠ v) (1 /2^ 1 *ᶠ (v -ᶠ u))
      go (inl h) = flat (antisym le h)
      go (inr h) = steep h

-- ---- three numbers in order: the mean over all is the weighed mean of the two means, and these differ by at most
-- half the whole step
module _ (a b c : Fraction) (p : a ≤ᶠ b) (q : b ≤ᶠ c) where
  abbrev P : Fraction
  P = mean a b

  abbrev Q : Fraction
  Q = mean b c

  abbrev M : Fraction
  M = mean a c

  -- by way of the held b
  turn : Rises P Q (1 /2^ 1 *ᶠ (c -ᶠ a))
  turn =
      let f = at_last a b p in
      let l = at_first b c q in (
        trans f.0 l.0,
        over (P ∷ Q ∷ clampᶠ b ∷ a ∷ b ∷ c ∷ 1 /2^ 1 *ᶠ (b -ᶠ a) ∷ 1 /2^ 1 *ᶠ (c -ᶠ b) ∷ 1 /2^ 1 *ᶠ (c -ᶠ a) ∷ []) (λ N n X Y K A B C I J S.
            le_at N Y (add_at N X S) n
            (omega (
              arith,
              scale_at N (1 /2^ 1) (sub_at N B A) I,
              scale_at N (1 /2^ 1) (sub_at N C B) J,
              scale_at N (1 /2^ 1) (sub_at N C A) S,
              at_le N K (add_at N X I) f.1,
              at_le N Y (add_at N K J) l.1,
            ))),
      )

  -- (c - a) M is (b - a) P + (c - b) Q
  whole_area : (c -ᶠ a) *ᶠ M ≈ᶠ (b -ᶠ a) *ᶠ P +ᶠ (c -ᶠ b) *ᶠ Q
  whole_area =
      let ρ = H a ∷ H b ∷ H c ∷ [] in
      let R = reps ρ in
      trans≈ (trans≈ (mul_comm (c -ᶠ a) M) (mean_area a c)) (trans≈ (ring ρ {x = H c -ᶠ H a} {y = H b -ᶠ H a +ᶠ (H c -ᶠ H b)} (search rep) (search rep) tt)
      (cong_add (sym≈ (trans≈ (mul_comm (b -ᶠ a) P) (mean_area a b))) (sym≈ (trans≈ (mul_comm (c -ᶠ b) Q) (mean_area b c)))))

  beyond_left : (c -ᶠ a) *ᶠ (M -ᶠ P) ≈ᶠ (c -ᶠ b) *ᶠ (Q -ᶠ P)
  beyond_left =
      let ρ = a ∷ b ∷ c ∷ P ∷ Q ∷ M ∷ [] in
      let R = reps ρ in
      trans≈ (ring ρ {x = (c -ᶠ a) *ᶠ (M -ᶠ P)} {y = (c -ᶠ a) *ᶠ M -ᶠ (c -ᶠ a) *ᶠ P} (search rep) (search rep) tt)
      (trans≈ (cong_sub whole_area (refl≈ ((c -ᶠ a) *ᶠ P))) (ring ρ {x = (b -ᶠ a) *ᶠ P +ᶠ (c -ᶠ b) *ᶠ Q -ᶠ (c -ᶠ a) *ᶠ P} {y = (c -ᶠ b) *ᶠ (Q -ᶠ P)} (search rep) (search rep) tt))

  short_right : (c -ᶠ a) *ᶠ (Q -ᶠ M) ≈ᶠ (b -ᶠ a) *ᶠ (Q -ᶠ P)
  short_right =
      let ρ = a ∷ b ∷ c ∷ P ∷ Q ∷ M ∷ [] in
      let R = reps ρ in
      trans≈ (ring ρ {x = (c -ᶠ a) *ᶠ (Q -ᶠ M)} {y = (c -ᶠ a) *ᶠ Q -ᶠ (c -ᶠ a) *ᶠ M} (search rep) (search rep) tt)
      (trans≈ (cong_sub (refl≈ ((c -ᶠ a) *ᶠ Q)) whole_area) (ring ρ {x = (c -ᶠ a) *ᶠ Q -ᶠ ((b -ᶠ a) *ᶠ P +ᶠ (c -ᶠ b) *ᶠ Q)} {y = (b -ᶠ a) *ᶠ (Q -ᶠ P)} (search rep) (search rep) tt))

  -- a share s of the whole step w times what the two means differ by, over w, is at most s / 2
  part_of : (s x : Fraction) → natᶠ 0 ≤ᶠ s → natᶠ 0 <ᶠ c -ᶠ a → (c -ᶠ a) *ᶠ x ≈ᶠ s *ᶠ (Q -ᶠ P) → (natᶠ 0 ≤ᶠ x) × (x ≤ᶠ 1 /2^ 1 *ᶠ s)
  part_of s x z w e =
      let ρ = a ∷ c ∷ s ∷ 1 /2^ 1 ∷ [] in
      let R = reps ρ in
      let d : Q -ᶠ P ≤ᶠ 1 /2^ 1 *ᶠ (c -ᶠ a) = over (P ∷ Q ∷ 1 /2^ 1 *ᶠ (c -ᶠ a) ∷ []) (λ N n X Y S. le_at N (sub_at N Y X) S n (omega (arith, at_le N Y (add_at N X S) turn.1))) in (
        cancel_le (natᶠ 0) x (c -ᶠ a) w (le_cong (sym≈ (trans≈ (mul_comm (c -ᶠ a) (natᶠ 0)) (zero_mul (c -ᶠ a)))) (sym≈ e) (mul_nonneg z (sub_nonneg turn.0))),
        cancel_le x (1 /2^ 1 *ᶠ s) (c -ᶠ a) w (le_cong (sym≈ e) (ring ρ {x = s *ᶠ (1 /2^ 1 *ᶠ (c -ᶠ a))} {y = (c -ᶠ a) *ᶠ (1 /2^ 1 *ᶠ s)} (search rep) (search rep) tt) (mul_mono z d)),
      )

  left : Rises P M (1 /2^ 1 *ᶠ (c -ᶠ b))
  left = go (le_or_lt c a)
    where
      go : (c ≤ᶠ a) ⊎ (a <ᶠ c) → Rises P M (1 /2^ 1 *ᶠ (c -ᶠ b))
      go (inl h) =
          let e : c ≈ᶠ b = antisym (trans h p) q in
          rises_none P M b c (mean_cong (refl≈ a) e) e
      go (inr h) =
          let d = part_of (c -ᶠ b) (M -ᶠ P) (sub_nonneg q) (sub_above h) beyond_left in
          rises P M (1 /2^ 1 *ᶠ (c -ᶠ b)) d.0 d.1

  right : Rises M Q (1 /2^ 1 *ᶠ (b -ᶠ a))
  right = go (le_or_lt c a)
    where
      go : (c ≤ᶠ a) ⊎ (a <ᶠ c) → Rises M Q (1 /2^ 1 *ᶠ (b -ᶠ a))
      go (inl h) =
          let e : b ≈ᶠ a = antisym (trans q h) p in
          rises_none M Q a b (mean_cong e (refl≈ c)) e
      go (inr h) =
          let d = part_of (b -ᶠ a) (Q -ᶠ M) (sub_nonneg p) (sub_above h) short_right in
          rises M Q (1 /2^ 1 *ᶠ (b -ᶠ a)) d.0 d.1

-- ---- the mean grows with u, by at most half as much
pub mean_grows : (u w v : Fraction) → u ≤ᶠ w → (mean u v ≤ᶠ mean w v) × (mean w v ≤ᶠ mean u v +ᶠ 1 /2^ 1 *ᶠ (w -ᶠ u))
mean_grows u w v le = go (le_or_lt v u) (le_or_lt v w)
  where
    -- the same of other means that are worth these
    worth : {x y : Fraction} → x ≈ᶠ mean u v → y ≈ᶠ mean w v → Rises x y (1 /2^ 1 *ᶠ (w -ᶠ u)) → Rises (mean u v) (mean w v) (1 /2^ 1 *ᶠ (w -ᶠ u))
    worth e f h = (le_cong e f h.0, le_cong f (cong_add e (refl≈ (1 /2^ 1 *ᶠ (w -ᶠ u)))) h.1)

    go : (v ≤ᶠ u) ⊎ (u <ᶠ v) → (v ≤ᶠ w) ⊎ (w <ᶠ v) → Rises (mean u v) (mean w v) (1 /2^ 1 *ᶠ (w -ᶠ u))
    go (inl h) k = worth (mean_sym v u) (mean_sym v w) (left v u w h le)
    go (inr h) (inl k) = worth (refl≈ (mean u v)) (mean_sym v w) (turn u v w (of_lt h) k)
    go (inr h) (inr k) = right u w v le (of_lt k)

-- ---- as an error: half of the error of u
pub mean_near_first : {u w e : Fraction} (v : Fraction) → Near u w e → Near (mean u v) (mean w v) (1 /2^ 1 *ᶠ e)
mean_near_first {u} {w} {e} v h = go (le_or_lt u w)
  where
    go : (u ≤ᶠ w) ⊎ (w <ᶠ u) → Near (mean u v) (mean w v) (1 /2^ 1 *ᶠ e)
    go (inl l) = let d = mean_grows u w v l in over (u ∷ w ∷ e ∷ mean u v ∷ mean w v ∷ 1 /2^ 1 *ᶠ (w -ᶠ u) ∷ 1 /2^ 1 *ᶠ e ∷ []) (λ N n U W E X Y J I. record {
      lo = le_at N Y (add_at N X I) n (omega (arith, at_le N W (add_at N U E) h.lo, at_le N Y (add_at N X J) d.1, scale_at N (1 /2^ 1) (sub_at N W U) J, scale_at N (1 /2^ 1) E I));
      hi = le_at N X (add_at N Y I) n (omega (arith, at_le N U W l, at_le N W (add_at N U E) h.lo, at_le N X Y d.0, scale_at N (1 /2^ 1) E I));
    })
    go (inr l) = let d = mean_grows w u v (of_lt l) in over (u ∷ w ∷ e ∷ mean u v ∷ mean w v ∷ 1 /2^ 1 *ᶠ (u -ᶠ w) ∷ 1 /2^ 1 *ᶠ e ∷ []) (λ N n U W E X Y J I. record {
      lo = le_at N Y (add_at N X I) n (omega (arith, at_lt N W U n l, at_le N U (add_at N W E) h.hi, at_le N Y X d.0, scale_at N (1 /2^ 1) E I));
      hi = le_at N X (add_at N Y I) n (omega (arith, at_le N U (add_at N W E) h.hi, at_le N X (add_at N Y J) d.1, scale_at N (1 /2^ 1) (sub_at N U W) J, scale_at N (1 /2^ 1) E I));
    })

pub mean_near_second : {v w e : Fraction} (u : Fraction) → Near v w e → Near (mean u v) (mean u w) (1 /2^ 1 *ᶠ e)
mean_near_second {v} {w} {e} u h = let d = mean_near_first u h in over (mean u v ∷ mean v u ∷ mean u w ∷ mean w u ∷ 1 /2^ 1 *ᶠ e ∷ []) (λ N n X X' Y Y' E. record {
  lo = le_at N Y (add_at N X E) n (omega (arith, at_le N Y' (add_at N X' E) d.lo, at_eq N X X' (mean_sym u v), at_eq N Y Y' (mean_sym u w)));
  hi = le_at N X (add_at N Y E) n (omega (arith, at_le N X' (add_at N Y' E) d.hi, at_eq N X X' (mean_sym u v), at_eq N Y Y' (mean_sym u w)));
})

-- both: no more than the larger error
pub mean_near : {u v U W e : Fraction} → Near u U e → Near v W e → Near (mean u v) (mean U W) e
mean_near {u} {v} {U} {W} {e} h k =
    near_weaken (near_trans (mean_near_first v h) (mean_near_second U k)) (over (e ∷ 1 /2^ 1 *ᶠ e ∷ []) (λ N n E I. le_at N (add_at N I I) E n (omega (arith, scale_at N (1 /2^ 1) E I))))

-- ---- between the held ends, so from 0 to 1
pub mean_between : (u v : Fraction) → u ≤ᶠ v → (clampᶠ u ≤ᶠ mean u v) × (mean u v ≤ᶠ clampᶠ v)
mean_between u v h = ((at_first u v h).0, (at_last u v h).0)

pub mean_range : (u v : Fraction) → (natᶠ 0 ≤ᶠ mean u v) × (mean u v ≤ᶠ natᶠ 1)
mean_range u v = go (le_or_lt u v)
  where
    go : (u ≤ᶠ v) ⊎ (v <ᶠ u) → (natᶠ 0 ≤ᶠ mean u v) × (mean u v ≤ᶠ natᶠ 1)
    go (inl h) = let b = mean_between u v h in (trans (clamp_nonneg u) b.0, trans b.1 (clamp_le_one v))
    go (inr h) = let b = mean_between v u (of_lt h) in (trans (clamp_nonneg v) (trans b.0 (of_eq (mean_sym v u))), trans (of_eq (mean_sym u v)) (trans b.1 (clamp_le_one u)))

-- G(c; x, y): the share of the cell at column c. It errs by no more than x and y do, is from 0 to 1, and has these
-- values, by where the edge is. Assumes nothing.
use mathlib.Core.Logic.{◌⊎◌, inl, inr}
use mathlib.Core.List.{[], ◌∷◌}
use Prim.Native.Nat.{ℕ, suc, ◌<◌}
use native.Mathlib.Omega.{arith}
use Rattle.fraction.specs.Fraction.{Fraction, ◌≤ᶠ◌, ◌<ᶠ◌, ◌≈ᶠ◌, natᶠ, ◌/2^◌, ◌+ᶠ◌, ◌-ᶠ◌, ◌*ᶠ◌, negᶠ, clampᶠ, Near}
use Rattle.fraction.proofs.Linear.{at_le, at_eq, le_at, lt_at, eq_at, add_at, sub_at, scale_at, over, lit≈, trans}
use Rattle.fraction.proofs.Order.{nat_le, lt_trans, le_lt, zero_mul, of_eq, sym≈, trans≈, antisym, mul_comm, mul_assoc, mul_one, cancel_eq, le_or_lt, of_lt, refl≈, sub_above, sub_nonneg}
use Rattle.fraction.proofs.Ring.{rep, reps, ring, cong_add, cong_sub, cong_mul}
use Rattle.fraction.proofs.Clamp.{clamp_inside, clamp_below, clamp_above}
use Rattle.winding.specs.Winding.{H}
use Rattle.winding.proofs.MeanOf.{mean, G}
use Rattle.winding.proofs.Pieces.{H-low, H-inside, H-high}
use Rattle.winding.proofs.Mean.{mean_area, mean_sym, mean_cong, mean_between, mean_range, mean_near, mean_unique}

-- ---- it errs by no more than its ends
pub G-near : (c : ℕ) {X Y x y d : Fraction} → Near X x d → Near Y y d → Near (G c X Y) (G c x y) d
unfolding G
G-near c {X} {Y} {x} {y} {d} h k = mean_near (back h) (back k)
  where
    back : {A a : Fraction} → Near A a d → Near (natᶠ (suc c) -ᶠ A) (natᶠ (suc c) -ᶠ a) d
    back {A} {a} h = over (A ∷ a ∷ d ∷ natᶠ (suc c) ∷ []) (λ N n B b D C. record {
      lo = le_at N (sub_at N C b) (add_at N (sub_at N C B) D) n (omega (arith, at_le N B (add_at N b D) h.hi));
      hi = le_at N (sub_at N C B) (add_at N (sub_at N C b) D) n (omega (arith, at_le N b (add_at N B D) h.lo));
    })

-- ---- it is from 0 to 1, does not depend on the order of the ends, nor on how they are written
pub G-range : (c : ℕ) (x y : Fraction) → (natᶠ 0 ≤ᶠ G c x y) × (G c x y ≤ᶠ natᶠ 1)
unfolding G
G-range c x y = mean_range (natᶠ (suc c) -ᶠ x) (natᶠ (suc c) -ᶠ y)

pub G-sym : (c : ℕ) (x y : Fraction) → G c x y ≈ᶠ G c y x
unfolding G
G-sym c x y = mean_sym (natᶠ (suc c) -ᶠ x) (natᶠ (suc c) -ᶠ y)

pub G-cong : (c : ℕ) {x y X Y : Fraction} → x ≈ᶠ X → y ≈ᶠ Y → G c x y ≈ᶠ G c X Y
unfolding G
G-cong c e f = mean_cong (cong_sub (refl≈ (natᶠ (suc c))) e) (cong_sub (refl≈ (natᶠ (suc c))) f)

-- ---- G times the width
pub G-area : (c : ℕ) (x y : Fraction) → (y -ᶠ x) *ᶠ G c x y ≈ᶠ H (natᶠ (suc c) -ᶠ x) -ᶠ H (natᶠ (suc c) -ᶠ y)
unfolding G
G-area c x y =
    let u = natᶠ (suc c) -ᶠ x in
    let v = natᶠ (suc c) -ᶠ y in
    let ρ = mean u v ∷ x ∷ y ∷ natᶠ (suc c) ∷ H u ∷ H v ∷ [] in
    let R = reps ρ in
    trans≈ (ring ρ {x = (y -ᶠ x) *ᶠ mean u v} {y = natᶠ 0 -ᶠ mean u v *ᶠ (v -ᶠ u)} (search rep) (search rep) tt)
    (trans≈ (cong_sub (refl≈ (natᶠ 0)) (mean_area u v)) (ring ρ {x = natᶠ 0 -ᶠ (H v -ᶠ H u)} {y = H u -ᶠ H v} (search rep) (search rep) tt))

-- what times the width gives the same is G
pub G-by : (c : ℕ) (lo hi g : Fraction) → lo <ᶠ hi → (hi -ᶠ lo) *ᶠ g ≈ᶠ H (natᶠ (suc c) -ᶠ lo) -ᶠ H (natᶠ (suc c) -ᶠ hi) → G c lo hi ≈ᶠ g
G-by c lo hi g l h = cancel_eq (G c lo hi) g (hi -ᶠ lo) (sub_above l) (trans≈ (G-area c lo hi) (sym≈ h))

-- ---- H at c + 1 - x, by where x is
pub right-H : (c : ℕ) (x : Fraction) → natᶠ (suc c) ≤ᶠ x → H (natᶠ (suc c) -ᶠ x) ≈ᶠ natᶠ 0
right-H c x h = H-low (natᶠ (suc c) -ᶠ x) (over (x ∷ natᶠ (suc c) ∷ natᶠ 0 ∷ []) (λ N n X C O. le_at N (sub_at N C X) O n (omega (arith, O.is, at_le N C X h))))

-- c + 1 less one is c
pub step : (c : ℕ) → natᶠ (suc c) ≈ᶠ natᶠ c +ᶠ natᶠ 1
unfolding ◌+ᶠ◌
step c = record { eq = omega arith }

left_at : (c : ℕ) (x : Fraction) → x ≤ᶠ natᶠ c → natᶠ 1 ≤ᶠ natᶠ (suc c) -ᶠ x
left_at c x h = over (x ∷ natᶠ (suc c) ∷ natᶠ c ∷ natᶠ 1 ∷ []) (λ N n X C B I. le_at N I (sub_at N C X) n (omega (arith, at_le N X B h, at_eq N C (add_at N B I) (step c))))

pub left-H : (c : ℕ) (x : Fraction) → x ≤ᶠ natᶠ c → H (natᶠ (suc c) -ᶠ x) ≈ᶠ natᶠ (suc c) -ᶠ x -ᶠ 1 /2^ 1
left-H c x h = H-high (natᶠ (suc c) -ᶠ x) (left_at c x h)

pub in-H : (c : ℕ) (x : Fraction) → natᶠ c ≤ᶠ x → x ≤ᶠ natᶠ (suc c) → H (natᶠ (suc c) -ᶠ x) ≈ᶠ (natᶠ (suc c) -ᶠ x) *ᶠ (natᶠ (suc c) -ᶠ x) *ᶠ 1 /2^ 1
in-H c x p q =
    H-inside (natᶠ (suc c) -ᶠ x) (sub_nonneg q)
    (over (x ∷ natᶠ (suc c) ∷ natᶠ c ∷ natᶠ 1 ∷ []) (λ N n X C B I. le_at N (sub_at N C X) I n (omega (arith, at_le N B X p, at_eq N C (add_at N B I) (step c)))))

-- ---- an edge right of the cell has no share in it
pub G-right : (c : ℕ) (x y : Fraction) → natᶠ (suc c) ≤ᶠ x → natᶠ (suc c) ≤ᶠ y → G c x y ≈ᶠ natᶠ 0
unfolding G
G-right c x y p q = go (le_or_lt (natᶠ (suc c) -ᶠ x) (natᶠ (suc c) -ᶠ y))
  where
    at_most : (z : Fraction) → natᶠ (suc c) ≤ᶠ z → clampᶠ (natᶠ (suc c) -ᶠ z) ≈ᶠ natᶠ 0
    at_most z h = clamp_below (natᶠ (suc c) -ᶠ z) (over (z ∷ natᶠ (suc c) ∷ natᶠ 0 ∷ []) (λ N n X C O. le_at N (sub_at N C X) O n (omega (arith, O.is, at_le N C X h))))

    go : (natᶠ (suc c) -ᶠ x ≤ᶠ natᶠ (suc c) -ᶠ y) ⊎ (natᶠ (suc c) -ᶠ y <ᶠ natᶠ (suc c) -ᶠ x) → mean (natᶠ (suc c) -ᶠ x) (natᶠ (suc c) -ᶠ y) ≈ᶠ natᶠ 0
    go (inl h) = let b = mean_between (natᶠ (suc c) -ᶠ x) (natᶠ (suc c) -ᶠ y) h in antisym (trans b.1 (of_eq (at_most y q))) (mean_range (natᶠ (suc c) -ᶠ x) (natᶠ (suc c) -ᶠ y)).0
    go (inr h) = let b = mean_between (natᶠ (suc c) -ᶠ y) (natᶠ (suc c) -ᶠ x) (of_lt h) in
        antisym (trans (of_eq (mean_sym (natᶠ (suc c) -ᶠ x) (natᶠ (suc c) -ᶠ y))) (trans b.1 (of_eq (at_most x p)))) (mean_range (natᶠ (suc c) -ᶠ x) (natᶠ (suc c) -ᶠ y)).0

-- ---- an edge left of the cell has all of it
pub G-left : (c : ℕ) (x y : Fraction) → x ≤ᶠ natᶠ c → y ≤ᶠ natᶠ c → G c x y ≈ᶠ natᶠ 1
unfolding G
G-left c x y p q = go (le_or_lt (natᶠ (suc c) -ᶠ x) (natᶠ (suc c) -ᶠ y))
  where
    at_least : (z : Fraction) → z ≤ᶠ natᶠ c → clampᶠ (natᶠ (suc c) -ᶠ z) ≈ᶠ natᶠ 1
    at_least z h = clamp_above (natᶠ (suc c) -ᶠ z) (left_at c z h)

    go : (natᶠ (suc c) -ᶠ x ≤ᶠ natᶠ (suc c) -ᶠ y) ⊎ (natᶠ (suc c) -ᶠ y <ᶠ natᶠ (suc c) -ᶠ x) → mean (natᶠ (suc c) -ᶠ x) (natᶠ (suc c) -ᶠ y) ≈ᶠ natᶠ 1
    go (inl h) = let b = mean_between (natᶠ (suc c) -ᶠ x) (natᶠ (suc c) -ᶠ y) h in antisym (mean_range (natᶠ (suc c) -ᶠ x) (natᶠ (suc c) -ᶠ y)).1 (trans (of_eq (sym≈ (at_least x p))) b.0)
    go (inr h) = let b = mean_between (natᶠ (suc c) -ᶠ y) (natᶠ (suc c) -ᶠ x) (of_lt h) in
        antisym (mean_range (natᶠ (suc c) -ᶠ x) (natᶠ (suc c) -ᶠ y)).1 (trans (of_eq (sym≈ (at_least y q))) (trans b.0 (of_eq (mean_sym (natᶠ (suc c) -ᶠ y) (natᶠ (suc c) -ᶠ x)))))

-- ---- an edge from lo to hi that is cut at column 0: o is the part outside
pub G-cut-left : (c : ℕ) (lo hi o : Fraction) → lo <ᶠ natᶠ 0 → natᶠ 0 <ᶠ hi → o *ᶠ (hi -ᶠ lo) ≈ᶠ negᶠ lo → G c lo hi ≈ᶠ o +ᶠ (natᶠ 1 -ᶠ o) *ᶠ G c (natᶠ 0) hi
G-cut-left c lo hi o p q e =
    G-by c lo hi (o +ᶠ (natᶠ 1 -ᶠ o) *ᶠ g) (lt_trans p q) (trans≈ spread (trans≈ (cong_add (refl≈ (natᶠ 0 -ᶠ lo)) (trans≈ (cong_mul hi_is (refl≈ g)) (G-area c (natᶠ 0) hi))) ends))
  where
    g : Fraction
    g = G c (natᶠ 0) hi

    spread : (hi -ᶠ lo) *ᶠ (o +ᶠ (natᶠ 1 -ᶠ o) *ᶠ g) ≈ᶠ natᶠ 0 -ᶠ lo +ᶠ (hi -ᶠ lo +ᶠ lo) *ᶠ g
    spread =
        let ρ = lo ∷ hi ∷ o ∷ g ∷ [] in
        let R = reps ρ in
        trans≈ (ring ρ {x = (hi -ᶠ lo) *ᶠ (o +ᶠ (natᶠ 1 -ᶠ o) *ᶠ g)} {y = natᶠ 0 +ᶠ o *ᶠ (hi -ᶠ lo) +ᶠ (hi -ᶠ lo -ᶠ o *ᶠ (hi -ᶠ lo)) *ᶠ g} (search rep depth 9) (search rep depth 9) tt)
        (trans≈ (cong_add (cong_add (refl≈ (natᶠ 0)) e) (cong_mul (cong_sub (refl≈ (hi -ᶠ lo)) e) (refl≈ g)))
        (ring ρ {x = natᶠ 0 +ᶠ negᶠ lo +ᶠ (hi -ᶠ lo -ᶠ negᶠ lo) *ᶠ g} {y = natᶠ 0 -ᶠ lo +ᶠ (hi -ᶠ lo +ᶠ lo) *ᶠ g} (search rep depth 9) (search rep depth 9) tt))

    hi_is : hi -ᶠ lo +ᶠ lo ≈ᶠ hi -ᶠ natᶠ 0
    hi_is = over (lo ∷ hi ∷ natᶠ 0 ∷ []) (λ N n L U O. eq_at N (add_at N (sub_at N U L) L) (sub_at N U O) n (omega (arith, O.is)))

    ends : natᶠ 0 -ᶠ lo +ᶠ (H (natᶠ (suc c) -ᶠ natᶠ 0) -ᶠ H (natᶠ (suc c) -ᶠ hi)) ≈ᶠ H (natᶠ (suc c) -ᶠ lo) -ᶠ H (natᶠ (suc c) -ᶠ hi)
    ends =
        let zero≤ = nat_le {m = 0} {n = c} (omega arith) in
        over (lo ∷ H (natᶠ (suc c) -ᶠ natᶠ 0) ∷ H (natᶠ (suc c) -ᶠ hi) ∷ H (natᶠ (suc c) -ᶠ lo) ∷ natᶠ (suc c) ∷ natᶠ 0 ∷ 1 /2^ 1 ∷ []) (λ N n L A B D C O I.
        eq_at N (add_at N (sub_at N O L) (sub_at N A B)) (sub_at N D B) n
        (omega (arith, O.is, at_eq N A (sub_at N (sub_at N C O) I) (left-H c (natᶠ 0) zero≤), at_eq N D (sub_at N (sub_at N C L) I) (left-H c lo (trans (of_lt p) zero≤)))))

-- ---- one that is cut at the row's right end: i is the part inside
pub G-cut-right : (c width : ℕ) (lo hi i : Fraction) → c < width → lo <ᶠ natᶠ width → natᶠ width <ᶠ hi → i *ᶠ (hi -ᶠ lo) ≈ᶠ natᶠ width -ᶠ lo → G c lo hi ≈ᶠ i *ᶠ G c lo (natᶠ width)
G-cut-right c width lo hi i l p q e =
    G-by c lo hi (i *ᶠ g) (lt_trans p q)
    (trans≈ (trans≈ (sym≈ (mul_assoc (hi -ᶠ lo) i g)) (cong_mul (trans≈ (mul_comm (hi -ᶠ lo) i) e) (refl≈ g))) (trans≈ (G-area c lo (natᶠ width)) (cong_sub (refl≈ (H (natᶠ (suc c) -ᶠ lo))) ends)))
  where
    g : Fraction
    g = G c lo (natᶠ width)

    ends : H (natᶠ (suc c) -ᶠ natᶠ width) ≈ᶠ H (natᶠ (suc c) -ᶠ hi)
    ends = let w = nat_le {m = suc c} {n = width} l in trans≈ (right-H c (natᶠ width) w) (sym≈ (right-H c hi (trans w (of_lt q))))

-- ---- one inside the cell
pub G-inside : (first : ℕ) (lo hi : Fraction) → lo ≤ᶠ hi → natᶠ first ≤ᶠ lo → hi ≤ᶠ natᶠ (suc first) → G first lo hi ≈ᶠ natᶠ 1 -ᶠ (1 /2^ 1 *ᶠ (lo +ᶠ hi) -ᶠ natᶠ first)
unfolding G
G-inside first lo hi le from to = trans≈ (mean_unique u v (1 /2^ 1 *ᶠ (u +ᶠ v)) flat area) ends
  where
    u : Fraction
    u = natᶠ (suc first) -ᶠ lo

    v : Fraction
    v = natᶠ (suc first) -ᶠ hi

    at_most_one : (x : Fraction) → natᶠ first ≤ᶠ x → natᶠ (suc first) -ᶠ x ≤ᶠ natᶠ 1
    at_most_one x h = over (x ∷ natᶠ (suc first) ∷ natᶠ first ∷ natᶠ 1 ∷ []) (λ N n X C B I. le_at N (sub_at N C X) I n (omega (arith, at_le N B X h, at_eq N C (add_at N B I) (step first))))

    flat : u ≈ᶠ v → 1 /2^ 1 *ᶠ (u +ᶠ v) ≈ᶠ clampᶠ u
    flat e =
        trans≈ (over (u ∷ v ∷ 1 /2^ 1 *ᶠ (u +ᶠ v) ∷ []) (λ N n A B J. eq_at N J A n (omega (arith, at_eq N A B e, scale_at N (1 /2^ 1) (add_at N A B) J))))
        (sym≈ (clamp_inside u (sub_nonneg (trans le to)) (at_most_one lo from)))

    area : 1 /2^ 1 *ᶠ (u +ᶠ v) *ᶠ (v -ᶠ u) ≈ᶠ H v -ᶠ H u
    area =
        let ρ = u ∷ v ∷ 1 /2^ 1 ∷ [] in
        let R = reps ρ in
        trans≈ (ring ρ {x = 1 /2^ 1 *ᶠ (u +ᶠ v) *ᶠ (v -ᶠ u)} {y = v *ᶠ v *ᶠ 1 /2^ 1 -ᶠ u *ᶠ u *ᶠ 1 /2^ 1} (search rep) (search rep) tt)
        (sym≈ (cong_sub (in-H first hi (trans from le) to) (in-H first lo from (trans le to))))

    ends : 1 /2^ 1 *ᶠ (u +ᶠ v) ≈ᶠ natᶠ 1 -ᶠ (1 /2^ 1 *ᶠ (lo +ᶠ hi) -ᶠ natᶠ first)
    ends = over (lo ∷ hi ∷ natᶠ (suc first) ∷ natᶠ first ∷ natᶠ 1 ∷ 1 /2^ 1 *ᶠ (u +ᶠ v) ∷ 1 /2^ 1 *ᶠ (lo +ᶠ hi) ∷ []) (λ N n L U C B I J S.
        eq_at N J (sub_at N I (sub_at N S B)) n
        (omega (arith, at_eq N C (add_at N B I) (step first), scale_at N (1 /2^ 1) (add_at N (sub_at N C L) (sub_at N C U)) J, scale_at N (1 /2^ 1) (add_at N L U) S)))

-- ---- one across cells, r being 1 / (y - x): in its first cell, in one between, in its last
one_time : (x : Fraction) → natᶠ 1 *ᶠ x ≈ᶠ x
one_time x = trans≈ (mul_comm (natᶠ 1) x) (mul_one x)

pub G-first : (c : ℕ) (x y r : Fraction) → r *ᶠ (y -ᶠ x) ≈ᶠ natᶠ 1 → natᶠ c ≤ᶠ x → x <ᶠ natᶠ (suc c) → natᶠ (suc c) <ᶠ y → G c x y ≈ᶠ 1 /2^ 1 *ᶠ r *ᶠ (natᶠ (suc c) -ᶠ x) *ᶠ (natᶠ (suc c) -ᶠ x)
G-first c x y r e p q l = G-by c x y (1 /2^ 1 *ᶠ r *ᶠ (natᶠ (suc c) -ᶠ x) *ᶠ (natᶠ (suc c) -ᶠ x)) (lt_trans q l)
    (trans≈ apart (trans≈ (cong_mul e (refl≈ (s *ᶠ s *ᶠ 1 /2^ 1)))
    (trans≈ (one_time (s *ᶠ s *ᶠ 1 /2^ 1)) (trans≈ (less_none (s *ᶠ s *ᶠ 1 /2^ 1)) (cong_sub (sym≈ (in-H c x p (of_lt q))) (sym≈ (right-H c y (of_lt l))))))))
  where
    s : Fraction
    s = natᶠ (suc c) -ᶠ x

    less_none : (z : Fraction) → z ≈ᶠ z -ᶠ natᶠ 0
    less_none z = over (z ∷ natᶠ 0 ∷ []) (λ N n Z O. eq_at N Z (sub_at N Z O) n (omega (arith, O.is)))

    apart : (y -ᶠ x) *ᶠ (1 /2^ 1 *ᶠ r *ᶠ (natᶠ (suc c) -ᶠ x) *ᶠ (natᶠ (suc c) -ᶠ x)) ≈ᶠ r *ᶠ (y -ᶠ x) *ᶠ ((natᶠ (suc c) -ᶠ x) *ᶠ (natᶠ (suc c) -ᶠ x) *ᶠ 1 /2^ 1)
    apart = let ρ = y -ᶠ x ∷ r ∷ natᶠ (suc c) -ᶠ x ∷ 1 /2^ 1 ∷ [] in let R = reps ρ in ring ρ (search rep depth 7) (search rep depth 7) tt

pub G-between : (c : ℕ) (x y r : Fraction) → r *ᶠ (y -ᶠ x) ≈ᶠ natᶠ 1 → x ≤ᶠ natᶠ c → natᶠ (suc c) ≤ᶠ y → G c x y ≈ᶠ r *ᶠ (natᶠ c +ᶠ 1 /2^ 1 -ᶠ x)
G-between c x y r e p q = G-by c x y (r *ᶠ (natᶠ c +ᶠ 1 /2^ 1 -ᶠ x)) (le_lt p (le_lt' q))
    (trans≈ apart (trans≈ (cong_mul e (refl≈ (natᶠ c +ᶠ 1 /2^ 1 -ᶠ x)))
    (trans≈ (one_time (natᶠ c +ᶠ 1 /2^ 1 -ᶠ x)) (trans≈ (over (x ∷ natᶠ c ∷ natᶠ (suc c) ∷ 1 /2^ 1 ∷ natᶠ 0 ∷ natᶠ 1 ∷ []) (λ N n X B S I O U.
    eq_at N (sub_at N (add_at N B I) X) (sub_at N (sub_at N (sub_at N S X) I) O) n (omega (arith, O.is, I.is, B.is, S.is)))) (cong_sub (sym≈ (left-H c x p)) (sym≈ (right-H c y q)))))))
  where
    le_lt' : natᶠ (suc c) ≤ᶠ y → natᶠ c <ᶠ y
    le_lt' h = over (natᶠ c ∷ natᶠ (suc c) ∷ y ∷ []) (λ N n B S Y. lt_at N B Y (omega (arith, n, B.is, S.is, at_le N S Y h)))

    apart : (y -ᶠ x) *ᶠ (r *ᶠ (natᶠ c +ᶠ 1 /2^ 1 -ᶠ x)) ≈ᶠ r *ᶠ (y -ᶠ x) *ᶠ (natᶠ c +ᶠ 1 /2^ 1 -ᶠ x)
    apart = let ρ = y -ᶠ x ∷ r ∷ natᶠ c +ᶠ 1 /2^ 1 -ᶠ x ∷ [] in let R = reps ρ in ring ρ (search rep depth 7) (search rep depth 7) tt

pub G-last : (c : ℕ) (x y r : Fraction) → r *ᶠ (y -ᶠ x) ≈ᶠ natᶠ 1 → x ≤ᶠ natᶠ c → natᶠ c <ᶠ y → y ≤ᶠ natᶠ (suc c) → G c x y ≈ᶠ natᶠ 1 -ᶠ 1 /2^ 1 *ᶠ r *ᶠ (y -ᶠ natᶠ c) *ᶠ (y -ᶠ natᶠ c)
G-last c x y r e p l q = G-by c x y (natᶠ 1 -ᶠ 1 /2^ 1 *ᶠ r *ᶠ (y -ᶠ natᶠ c) *ᶠ (y -ᶠ natᶠ c)) (le_lt p l)
    (trans≈ apart (trans≈ (cong_sub (refl≈ (y -ᶠ x)) (trans≈ (cong_mul e (refl≈ half_square)) (one_time half_square)))
    (trans≈ (sym≈ square) (cong_sub (sym≈ (left-H c x p)) (sym≈ (in-H c y (of_lt l) q))))))
  where
    half_square : Fraction
    half_square = 1 /2^ 1 *ᶠ (y -ᶠ natᶠ c) *ᶠ (y -ᶠ natᶠ c)

    apart : (y -ᶠ x) *ᶠ (natᶠ 1 -ᶠ 1 /2^ 1 *ᶠ r *ᶠ (y -ᶠ natᶠ c) *ᶠ (y -ᶠ natᶠ c)) ≈ᶠ y -ᶠ x -ᶠ r *ᶠ (y -ᶠ x) *ᶠ (1 /2^ 1 *ᶠ (y -ᶠ natᶠ c) *ᶠ (y -ᶠ natᶠ c))
    apart = let ρ = y -ᶠ x ∷ r ∷ y -ᶠ natᶠ c ∷ 1 /2^ 1 ∷ [] in let R = reps ρ in ring ρ (search rep depth 9) (search rep depth 9) tt

    -- the other side, with c + 1 for the next column
    poly : (b h : Fraction) → b +ᶠ natᶠ 1 -ᶠ x -ᶠ h -ᶠ (b +ᶠ natᶠ 1 -ᶠ y) *ᶠ (b +ᶠ natᶠ 1 -ᶠ y) *ᶠ h ≈ᶠ y -ᶠ x -ᶠ h *ᶠ (y -ᶠ b) *ᶠ (y -ᶠ b) +ᶠ (natᶠ 1 -ᶠ (h +ᶠ h)) *ᶠ (b -ᶠ y +ᶠ natᶠ 1)
    poly b h = let ρ = b ∷ x ∷ y ∷ h ∷ [] in let R = reps ρ in ring ρ (search rep depth 9) (search rep depth 9) tt

    halves : natᶠ 1 -ᶠ (1 /2^ 1 +ᶠ 1 /2^ 1) ≈ᶠ natᶠ 0
    halves = (unfold ◌+ᶠ◌ ◌-ᶠ◌ in lit≈ tt)

    drop : (z w : Fraction) → z +ᶠ (natᶠ 1 -ᶠ (1 /2^ 1 +ᶠ 1 /2^ 1)) *ᶠ w ≈ᶠ z
    drop z w =
        over (z ∷ (natᶠ 1 -ᶠ (1 /2^ 1 +ᶠ 1 /2^ 1)) *ᶠ w ∷ natᶠ 0 ∷ []) (λ N n Z W O. eq_at N (add_at N Z W) Z n (omega (arith, O.is, at_eq N W O (trans≈ (cong_mul halves (refl≈ w)) (zero_mul w)))))

    square : natᶠ (suc c) -ᶠ x -ᶠ 1 /2^ 1 -ᶠ (natᶠ (suc c) -ᶠ y) *ᶠ (natᶠ (suc c) -ᶠ y) *ᶠ 1 /2^ 1 ≈ᶠ y -ᶠ x -ᶠ 1 /2^ 1 *ᶠ (y -ᶠ natᶠ c) *ᶠ (y -ᶠ natᶠ c)
    square =
        let s = step c in
        let t = cong_sub s (refl≈ y) in
        trans≈ (cong_sub (cong_sub (cong_sub s (refl≈ x)) (refl≈ (1 /2^ 1))) (cong_mul (cong_mul t t) (refl≈ (1 /2^ 1))))
        (trans≈ (poly (natᶠ c) (1 /2^ 1)) (drop (y -ᶠ x -ᶠ 1 /2^ 1 *ᶠ (y -ᶠ natᶠ c) *ᶠ (y -ᶠ natᶠ c)) (natᶠ c -ᶠ y +ᶠ natᶠ 1)))

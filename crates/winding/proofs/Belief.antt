-- The beliefs of specs/Beliefs.antt: the integral is additive over heights and has its plain value at a level
-- crossing, a part is at most 1 in size, a share is from 0 to 1, and the allowed difference is 1 for each edge that
-- crosses the row and a half for each group. Assumes nothing.
use mathlib.Core.Path.{◌≡◌}
use mathlib.Core.Logic.{◌⊎◌, inl, inr}
use mathlib.Core.List.{List, [], ◌∷◌, ◌++◌}
use mathlib.Core.Bool.{Bool, true, false, cond}
use Prim.Native.Nat.{ℕ, suc, ◌+◌}
use native.Mathlib.Omega.{arith}
use lib.ListN.{length}
use Rattle.fraction.specs.Fraction.{Fraction, ◌≤ᶠ◌, ◌<ᶠ◌, ◌≈ᶠ◌, natᶠ, ◌/2^◌, ◌+ᶠ◌, ◌-ᶠ◌, ◌*ᶠ◌, negᶠ, clampᶠ, Within}
use Rattle.fraction.proofs.Linear.{at_le, at_eq, le_at, eq_at, add_at, sub_at, neg_at, scale_at, over, lit}
use Rattle.fraction.proofs.Order.{above_not, add_mul, mul_neg, antisym, cancel, le_or_lt, lt_not, mul_cong, of_lt, refl≈, sub_nonneg, sym≈, trans≈, mul_mono, mul_nonneg}
use Rattle.fraction.proofs.Ring.{rep, reps, ring, cong_add}
use Rattle.fraction.proofs.Near.{within_mul, within_self, within_weaken}
use Rattle.fraction.proofs.Clamp.{min_le_right, min_at}
use Rattle.word_list.specs.Words.{Group, even_odd}
use Rattle.winding.specs.Winding.{ExactPoint, ExactEdge, exact_edges, H, integral, crossing, down_part, exact_part, mean_winding, non_zero_share, even_odd_share, group_share}
use Rattle.winding.specs.Drawn.{sum_of_shares, drawn_share, crossings, allowed_difference}
use Rattle.winding.specs.Beliefs.{IntegralBeliefs, CrossingBeliefs, ShareBeliefs, all_edges, AllowedIs}
use Rattle.winding.proofs.MeanOf.{mean}
use Rattle.winding.proofs.Mean.{mean_area, mean_between, mean_cong, mean_level, mean_sym}
use Rattle.winding.proofs.Cells.{G-range}
use Rattle.winding.proofs.Part.{integral_is, top, bottom, down_is, down_none, part_down, part_up, part_level, height_le, slope_of, crossing_start, crossing_end, crossing_step}
use Rattle.winding.proofs.Crosses.{crosses_yes, crosses_do, no_part}
use Rattle.winding.proofs.Fold.{nonzero_near, nonzero_range, evenodd_le, evenodd_is, evenodd_near, evenodd_range}

-- ---- the integral is additive over heights: u, z and v are what a straight line has at the heights p, m and q, k
-- being its slope
module _ (p m q u z v k : Fraction) (first : z -ᶠ u ≈ᶠ (m -ᶠ p) *ᶠ k) (second : v -ᶠ z ≈ᶠ (q -ᶠ m) *ᶠ k) where
  whole : v -ᶠ u ≈ᶠ (q -ᶠ p) *ᶠ k
  whole =
      let ρ = p ∷ m ∷ q ∷ k ∷ [] in
      let R = reps ρ in
      trans≈ (over (u ∷ z ∷ v ∷ []) (λ N n U Z W. eq_at N (sub_at N W U) (add_at N (sub_at N Z U) (sub_at N W Z)) n (omega arith)))
      (trans≈ (cong_add first second) (ring ρ {x = (m -ᶠ p) *ᶠ k +ᶠ (q -ᶠ m) *ᶠ k} {y = (q -ᶠ p) *ᶠ k} (search rep) (search rep) tt))

  -- the mean times the height, times k, is the rise of H
  rise : (h g a b : Fraction) → b -ᶠ a ≈ᶠ (g -ᶠ h) *ᶠ k → (g -ᶠ h) *ᶠ mean a b *ᶠ k ≈ᶠ H b -ᶠ H a
  rise h g a b e =
      let ρ = g -ᶠ h ∷ k ∷ mean a b ∷ [] in
      let R = reps ρ in
      trans≈ (ring ρ {x = (g -ᶠ h) *ᶠ mean a b *ᶠ k} {y = mean a b *ᶠ ((g -ᶠ h) *ᶠ k)} (search rep) (search rep) tt) (trans≈ (mul_cong (mean a b) (sym≈ e)) (mean_area a b))

  sloped : ¬ (k ≈ᶠ natᶠ 0) → (m -ᶠ p) *ᶠ mean u z +ᶠ (q -ᶠ m) *ᶠ mean z v ≈ᶠ (q -ᶠ p) *ᶠ mean u v
  sloped f = cancel ((m -ᶠ p) *ᶠ mean u z +ᶠ (q -ᶠ m) *ᶠ mean z v) ((q -ᶠ p) *ᶠ mean u v) k f
      (trans≈ (add_mul ((m -ᶠ p) *ᶠ mean u z) ((q -ᶠ m) *ᶠ mean z v) k) (trans≈ (cong_add (rise p m u z first) (rise m q z v second))
      (trans≈ (over (H u ∷ H z ∷ H v ∷ []) (λ N n A B C. eq_at N (add_at N (sub_at N B A) (sub_at N C B)) (sub_at N C A) n (omega arith))) (sym≈ (rise p q u v whole)))))

  -- a level line: the three are one
  level : k ≈ᶠ natᶠ 0 → (m -ᶠ p) *ᶠ mean u z +ᶠ (q -ᶠ m) *ᶠ mean z v ≈ᶠ (q -ᶠ p) *ᶠ mean u v
  level e =
      let a : z ≈ᶠ u = none z u (m -ᶠ p) first in
      let b : v ≈ᶠ z = none v z (q -ᶠ m) second in
      let ρ = p ∷ m ∷ q ∷ mean u u ∷ [] in
      let R = reps ρ in
      trans≈ (cong_add (mul_cong (m -ᶠ p) (mean_cong (refl≈ u) a)) (mul_cong (q -ᶠ m) (mean_cong a (trans≈ b a))))
      (trans≈ (ring ρ {x = (m -ᶠ p) *ᶠ mean u u +ᶠ (q -ᶠ m) *ᶠ mean u u} {y = (q -ᶠ p) *ᶠ mean u u} (search rep) (search rep) tt) (mul_cong (q -ᶠ p) (mean_cong (refl≈ u) (sym≈ (trans≈ b a)))))
    where
      none : (x y d : Fraction) → x -ᶠ y ≈ᶠ d *ᶠ k → x ≈ᶠ y
      none x y d h =
          let ρ = d ∷ [] in
          let R = reps ρ in
          let w = trans≈ h (trans≈ (mul_cong d e) (ring ρ {x = d *ᶠ natᶠ 0} {y = natᶠ 0} (search rep) (search rep) tt)) in
          over (x ∷ y ∷ natᶠ 0 ∷ []) (λ N n X Y O. eq_at N X Y n (omega (arith, O.is, at_eq N (sub_at N X Y) O w)))

  integral_additive : integral p m u z +ᶠ integral m q z v ≈ᶠ integral p q u v
  integral_additive = rw (integral_is p m u z, integral_is m q z v, integral_is p q u v) (go (le_or_lt k (natᶠ 0)) (le_or_lt (natᶠ 0) k))
    where
      go : (k ≤ᶠ natᶠ 0) ⊎ (natᶠ 0 <ᶠ k) → (natᶠ 0 ≤ᶠ k) ⊎ (k <ᶠ natᶠ 0) → (m -ᶠ p) *ᶠ mean u z +ᶠ (q -ᶠ m) *ᶠ mean z v ≈ᶠ (q -ᶠ p) *ᶠ mean u v
      go (inl a) (inl b) = level (antisym a b)
      go (inl a) (inr b) = sloped (λ e. lt_not b (sym≈ e))
      go (inr a) b = sloped (above_not a)

-- so is an edge's: what it has from p to m and from m to q in a cell is what it has from p to q
edge_additive : (a b : ExactPoint) (c : ℕ) (p m q : Fraction)
    → integral p m (natᶠ (suc c) -ᶠ crossing a b p) (natᶠ (suc c) -ᶠ crossing a b m) +ᶠ integral m q (natᶠ (suc c) -ᶠ crossing a b m) (natᶠ (suc c) -ᶠ crossing a b q)
    ≈ᶠ integral p q (natᶠ (suc c) -ᶠ crossing a b p) (natᶠ (suc c) -ᶠ crossing a b q)
edge_additive a b c p m q =
    integral_additive p m q (natᶠ (suc c) -ᶠ crossing a b p) (natᶠ (suc c) -ᶠ crossing a b m) (natᶠ (suc c) -ᶠ crossing a b q) (negᶠ (slope_of a b)) (along p m) (along m q)
  where
    along : (h g : Fraction) → natᶠ (suc c) -ᶠ crossing a b g -ᶠ (natᶠ (suc c) -ᶠ crossing a b h) ≈ᶠ (g -ᶠ h) *ᶠ negᶠ (slope_of a b)
    along h g = over (natᶠ (suc c) ∷ crossing a b g ∷ crossing a b h ∷ (g -ᶠ h) *ᶠ slope_of a b ∷ (g -ᶠ h) *ᶠ negᶠ (slope_of a b) ∷ []) (λ N n C X Y J K.
        eq_at N (sub_at N (sub_at N C X) (sub_at N C Y)) K n (omega (arith, at_eq N X (add_at N Y J) (crossing_step a b h g), at_eq N K (neg_at N J) (mul_neg (g -ᶠ h) (slope_of a b)))))

-- ---- a level crossing: the height times the held u
integral_level : (p q u v : Fraction) → u ≈ᶠ v → integral p q u v ≈ᶠ (q -ᶠ p) *ᶠ clampᶠ u
integral_level p q u v e = rw (integral_is p q u v) (mul_cong (q -ᶠ p) (mean_level u v e))

-- ---- between the held ends, whichever comes first
integral_between : (p q u v : Fraction) → p ≤ᶠ q → u ≤ᶠ v → ((q -ᶠ p) *ᶠ clampᶠ u ≤ᶠ integral p q u v) × (integral p q u v ≤ᶠ (q -ᶠ p) *ᶠ clampᶠ v)
integral_between p q u v h k =
    let b = mean_between u v k in
    rw (integral_is p q u v) (mul_mono (sub_nonneg h) b.0, mul_mono (sub_nonneg h) b.1)

integral_either_way : (p q u v : Fraction) → integral p q u v ≈ᶠ integral p q v u
integral_either_way p q u v = rw (integral_is p q u v, integral_is p q v u) (mul_cong (q -ᶠ p) (mean_sym u v))

-- ---- the sign of a part
down_nonneg : (a b : ExactPoint) (c row : ℕ) → natᶠ 0 ≤ᶠ down_part a b c row
down_nonneg a b c row = go (le_or_lt (bottom b row) (top a row))
  where
    go : (bottom b row ≤ᶠ top a row) ⊎ (top a row <ᶠ bottom b row) → natᶠ 0 ≤ᶠ down_part a b c row
    go (inl h) = rw (down_none a b c row h) (lit tt)
    go (inr h) = rw (down_is a b c row h) (mul_nonneg (sub_nonneg (of_lt h)) (G-range c (crossing a b (top a row)) (crossing a b (bottom b row))).0)

part_downwards : (e : ExactEdge) (c row : ℕ) → e.«from».y <ᶠ e.to.y → natᶠ 0 ≤ᶠ exact_part e c row
part_downwards e c row h = rw (part_down e.«from» e.to c row h) (down_nonneg e.«from» e.to c row)

part_turned : (e : ExactEdge) (c row : ℕ) → exact_part (record { «from» = e.to; to = e.«from» }) c row ≈ᶠ negᶠ (exact_part e c row)
part_turned e c row = go (le_or_lt e.«from».y e.to.y) (le_or_lt e.to.y e.«from».y)
  where
    twice : (x : Fraction) → x ≈ᶠ negᶠ (negᶠ x)
    twice x = over (x ∷ []) (λ N n X. eq_at N X (neg_at N (neg_at N X)) n (omega arith))

    none : natᶠ 0 ≈ᶠ negᶠ (natᶠ 0)
    none = over (natᶠ 0 ∷ []) (λ N n O. eq_at N O (neg_at N O) n (omega (arith, O.is)))

    go : (e.«from».y ≤ᶠ e.to.y) ⊎ (e.to.y <ᶠ e.«from».y) → (e.to.y ≤ᶠ e.«from».y) ⊎ (e.«from».y <ᶠ e.to.y)
        → exact_part (record { «from» = e.to; to = e.«from» }) c row ≈ᶠ negᶠ (exact_part e c row)
    go (inl h) (inl k) = rw (part_level e.«from» e.to c row (antisym h k), part_level e.to e.«from» c row (antisym k h)) none
    go (inl h) (inr k) = rw (part_down e.«from» e.to c row k, part_up e.to e.«from» c row k) (refl≈ (negᶠ (down_part e.«from» e.to c row)))
    go (inr h) k = rw (part_up e.«from» e.to c row h, part_down e.to e.«from» c row h) (twice (down_part e.to e.«from» c row))

-- ---- a part is at most 1 in size
down_within : (a b : ExactPoint) (c row : ℕ) → Within (down_part a b c row) (natᶠ 1)
down_within a b c row = go (le_or_lt (bottom b row) (top a row))
  where
    go : (bottom b row ≤ᶠ top a row) ⊎ (top a row <ᶠ bottom b row) → Within (down_part a b c row) (natᶠ 1)
    go (inl h) = rw (down_none a b c row h) (within_weaken (within_self (lit tt)) (lit tt))
    go (inr h) = rw (down_is a b c row h) (
        let g = G-range c (crossing a b (top a row)) (crossing a b (bottom b row)) in
        within_weaken (within_mul (within_weaken (within_self (sub_nonneg (of_lt h))) (height_le a b row)) (within_weaken (within_self g.0) g.1)) (unfold ◌*ᶠ◌ in lit tt))

part_at_most_one : (e : ExactEdge) (c row : ℕ) → Within (exact_part e c row) (natᶠ 1)
part_at_most_one e c row = go (le_or_lt e.«from».y e.to.y) (le_or_lt e.to.y e.«from».y)
  where
    turned : {x : Fraction} → Within x (natᶠ 1) → Within (negᶠ x) (natᶠ 1)
    turned {x} h = over (x ∷ natᶠ 1 ∷ []) (λ N n X I. record {
      lo = le_at N (neg_at N I) (neg_at N X) n (omega (arith, at_le N X I h.hi));
      hi = le_at N (neg_at N X) I n (omega (arith, at_le N (neg_at N I) X h.lo));
    })

    go : (e.«from».y ≤ᶠ e.to.y) ⊎ (e.to.y <ᶠ e.«from».y) → (e.to.y ≤ᶠ e.«from».y) ⊎ (e.«from».y <ᶠ e.to.y) → Within (exact_part e c row) (natᶠ 1)
    go (inl h) (inl k) = rw (part_level e.«from» e.to c row (antisym h k)) (within_weaken (within_self (lit tt)) (lit tt))
    go (inl h) (inr k) = rw (part_down e.«from» e.to c row k) (down_within e.«from» e.to c row)
    go (inr h) k = rw (part_up e.«from» e.to c row h) (turned (down_within e.to e.«from» c row))

-- ---- shares lie in 0 to 1
group_share_nonneg : (g : Group) (c row : ℕ) → natᶠ 0 ≤ᶠ group_share g c row
group_share_nonneg g c row = go (even_odd g) (mean_winding (exact_edges g.contours) c row)
  where
    go : (b : Bool) (w : Fraction) → natᶠ 0 ≤ᶠ cond b (even_odd_share w) (non_zero_share w)
    go true w = (evenodd_range w).0
    go false w = (nonzero_range w).0

sum_nonneg : (gs : List Group) (c row : ℕ) → natᶠ 0 ≤ᶠ sum_of_shares gs c row
unfolding sum_of_shares
sum_nonneg [] c row = lit tt
sum_nonneg (g ∷ gs) c row =
    over (group_share g c row ∷ sum_of_shares gs c row ∷ natᶠ 0 ∷ [])
    (λ N n A B O. le_at N O (add_at N A B) n (omega (arith, O.is, at_le N O A (group_share_nonneg g c row), at_le N O B (sum_nonneg gs c row))))

pub drawn_share_at_most_one : (gs : List Group) (c row : ℕ) → drawn_share gs c row ≤ᶠ natᶠ 1
drawn_share_at_most_one gs c row = min_le_right (sum_of_shares gs c row) (natᶠ 1)

pub drawn_share_nonneg : (gs : List Group) (c row : ℕ) → natᶠ 0 ≤ᶠ drawn_share gs c row
drawn_share_nonneg gs c row = over (sum_of_shares gs c row ∷ natᶠ 0 ∷ natᶠ 1 ∷ []) (λ N n A O I. le_at N O (min_at N n A I) n (omega (arith, O.is, I.is, at_le N O A (sum_nonneg gs c row))))

pub integral_beliefs : IntegralBeliefs
integral_beliefs = record {
  crossing_start = crossing_start;
  crossing_end = crossing_end;
  additive = integral_additive;
  edge_additive = edge_additive;
  between = integral_between;
  either_way = integral_either_way;
  level = integral_level;
  downwards = part_downwards;
  turned = part_turned;
  part_at_most_one = part_at_most_one;
}

pub crossing_beliefs : CrossingBeliefs
crossing_beliefs = record { only = crosses_yes; whenever = crosses_do; no_part = λ e column row. no_part e row column }

pub share_beliefs : ShareBeliefs
share_beliefs = record {
  non_zero_range = nonzero_range;
  even_odd_range = evenodd_range;
  non_zero_near = λ w v e. nonzero_near;
  even_odd_near = λ w v e. evenodd_near;
  even_odd_is = λ w. ((evenodd_is w).k, (evenodd_is w).is);
  even_odd_nearest = evenodd_le;
  drawn_nonneg = drawn_share_nonneg;
  drawn_at_most_one = drawn_share_at_most_one;
}

-- ---- the allowed difference: 1 for each edge of any group that crosses the row, and a half for each group
crossings_append : (l m : List ExactEdge) (row : ℕ) → crossings (l ++ m) row ≡ crossings l row + crossings m row
crossings_append [] m row = omega arith
crossings_append (e ∷ l) m row = omega (arith, crossings_append l m row)

pub allowed_is : AllowedIs
unfolding allowed_difference
allowed_is [] row = over (natᶠ 0 ∷ 1 /2^ 1 *ᶠ natᶠ 0 ∷ []) (λ N n O J. eq_at N O (add_at N O J) n (omega (arith, O.is, scale_at N (1 /2^ 1) O J)))
allowed_is (g ∷ gs) row =
    let k = crossings (exact_edges g.contours) row in
    let j = crossings (all_edges gs) row in
    rw (crossings_append (exact_edges g.contours) (all_edges gs) row)
    (over (natᶠ k ∷ natᶠ j ∷ natᶠ (k + j) ∷ 1 /2^ 1 ∷ allowed_difference gs row ∷ natᶠ (length gs) ∷
    natᶠ (suc (length gs)) ∷ 1 /2^ 1 *ᶠ natᶠ (length gs) ∷ 1 /2^ 1 *ᶠ natᶠ (suc (length gs)) ∷ []) (λ N n K J S P A L M X Y.
    eq_at N (add_at N (add_at N K P) A) (add_at N S Y) n (omega (
      arith,
      K.is,
      J.is,
      S.is,
      P.is,
      L.is,
      M.is,
      scale_at N (1 /2^ 1) L X,
      scale_at N (1 /2^ 1) M Y,
      at_eq N A (add_at N J X) (allowed_is gs row),
    ))))

-- Document 01's part of an edge in a cell, by G: its height in the row times G of the two crossings, with its sign.
-- Assumes nothing.
use mathlib.Core.Path.{◌≡◌, refl}
use mathlib.Core.Logic.{◌⊎◌, inl, inr}
use mathlib.Core.List.{[], ◌∷◌}
use mathlib.Core.Bool.{cond}
use Prim.Native.Nat.{ℕ, suc}
use native.Mathlib.Omega.{arith}
use Rattle.fraction.specs.Fraction.{Fraction, ◌≤ᶠ◌, ◌<ᶠ◌, ◌≈ᶠ◌, ltᵇ, natᶠ, ◌+ᶠ◌, ◌-ᶠ◌, ◌*ᶠ◌, ◌/ᶠ◌, negᶠ, minᶠ, maxᶠ, Within}
use Rattle.fraction.proofs.Linear.{at_le, at_eq, le_at, eq_at, add_at, sub_at, over, trans}
use Rattle.fraction.proofs.Order.{above_not, of_eq, sym≈, trans≈, mul_comm, mul_nonneg, div_mul, le_or_lt, of_lt, refl≈, sub_above, sub_nonneg}
use Rattle.fraction.proofs.Ring.{rep, reps, ring, cong_add}
use Rattle.fraction.proofs.Clamp.{if_less, if_not_less, min_le_left, min_le_right, max_ge_left, max_ge_right}
use Rattle.winding.specs.Winding.{ExactPoint, integral, crossing, down_part, exact_part}
use Rattle.winding.proofs.MeanOf.{mean, G}

-- the part of the edge from one point to another
abbrev pub part : ExactPoint → ExactPoint → ℕ → ℕ → Fraction
part a b c r = exact_part (record { «from» = a; to = b }) c r

-- ---- the integral is the height times the mean
pub integral_is : (p q u v : Fraction) → integral p q u v ≡ (q -ᶠ p) *ᶠ mean u v
unfolding integral mean
integral_is p q u v = refl

-- ---- the overlap of an edge that grows in y with the row r
abbrev pub top : ExactPoint → ℕ → Fraction
top a r = maxᶠ a.y (natᶠ r)

abbrev pub bottom : ExactPoint → ℕ → Fraction
bottom b r = minᶠ b.y (natᶠ (suc r))

-- the height in the row times G of the two crossings
abbrev pub share : ExactPoint → ExactPoint → ℕ → ℕ → Fraction
share a b c r = (bottom b r -ᶠ top a r) *ᶠ G c (crossing a b (top a r)) (crossing a b (bottom b r))

pub down_is : (a b : ExactPoint) (c r : ℕ) → top a r <ᶠ bottom b r → down_part a b c r ≡ share a b c r
unfolding down_part integral mean G
down_is a b c r h = if_less (top a r) (bottom b r) (integral (top a r) (bottom b r) (natᶠ (suc c) -ᶠ crossing a b (top a r)) (natᶠ (suc c) -ᶠ crossing a b (bottom b r))) (natᶠ 0) h

pub down_none : (a b : ExactPoint) (c r : ℕ) → bottom b r ≤ᶠ top a r → down_part a b c r ≡ natᶠ 0
unfolding down_part
down_none a b c r h = if_not_less (top a r) (bottom b r) (integral (top a r) (bottom b r) (natᶠ (suc c) -ᶠ crossing a b (top a r)) (natᶠ (suc c) -ᶠ crossing a b (bottom b r))) (natᶠ 0) h

-- ---- with the sign
pub part_up : (a b : ExactPoint) (c r : ℕ) → b.y <ᶠ a.y → part a b c r ≡ negᶠ (down_part b a c r)
unfolding exact_part
part_up a b c r h =
    rw (if_not_less a.y b.y (down_part a b c r) (cond (ltᵇ b.y a.y) (negᶠ (down_part b a c r)) (natᶠ 0)) (of_lt h), if_less b.y a.y (negᶠ (down_part b a c r)) (natᶠ 0) h) refl

pub part_down : (a b : ExactPoint) (c r : ℕ) → a.y <ᶠ b.y → part a b c r ≡ down_part a b c r
unfolding exact_part
part_down a b c r h = if_less a.y b.y (down_part a b c r) (cond (ltᵇ b.y a.y) (negᶠ (down_part b a c r)) (natᶠ 0)) h

pub part_level : (a b : ExactPoint) (c r : ℕ) → a.y ≈ᶠ b.y → part a b c r ≡ natᶠ 0
unfolding exact_part
part_level a b c r e =
    rw (
      if_not_less a.y b.y (down_part a b c r) (cond (ltᵇ b.y a.y) (negᶠ (down_part b a c r)) (natᶠ 0))
          (of_eq (sym≈ e)),
      if_not_less b.y a.y (negᶠ (down_part b a c r)) (natᶠ 0) (of_eq e),
    ) refl

-- ---- the part of an edge that crosses the row, down and up
pub part_down_is : (a b : ExactPoint) (c r : ℕ) → a.y <ᶠ b.y → top a r <ᶠ bottom b r → part a b c r ≡ share a b c r
part_down_is a b c r h k = rw (part_down a b c r h, down_is a b c r k) refl

pub part_up_is : (a b : ExactPoint) (c r : ℕ) → b.y <ᶠ a.y → top b r <ᶠ bottom a r → part a b c r ≡ negᶠ (share b a c r)
part_up_is a b c r h k = rw (part_up a b c r h, down_is b a c r k) refl

-- ---- the overlap: on the edge, in the row, and no higher than 1
pub top_on : (a : ExactPoint) (r : ℕ) → (a.y ≤ᶠ top a r) × (natᶠ r ≤ᶠ top a r)
top_on a r = (max_ge_left a.y (natᶠ r), max_ge_right a.y (natᶠ r))

pub bottom_on : (b : ExactPoint) (r : ℕ) → (bottom b r ≤ᶠ b.y) × (bottom b r ≤ᶠ natᶠ (suc r))
bottom_on b r = (min_le_left b.y (natᶠ (suc r)), min_le_right b.y (natᶠ (suc r)))

pub height_le : (a b : ExactPoint) (r : ℕ) → bottom b r -ᶠ top a r ≤ᶠ natᶠ 1
height_le a b r = over (top a r ∷ bottom b r ∷ natᶠ r ∷ natᶠ (suc r) ∷ natᶠ 1 ∷ []) (λ N n P Q R S I. le_at N (sub_at N Q P) I n
    (omega (arith, at_le N R P (top_on a r).1, at_le N Q S (bottom_on b r).1, at_eq N S (add_at N R I) one_up)))
  where
    one_up : natᶠ (suc r) ≈ᶠ natᶠ r +ᶠ natᶠ 1
    one_up = unfold ◌+ᶠ◌ in record { eq = omega arith }

-- ---- the crossing: at the ends, and between two heights
pub slope_of : ExactPoint → ExactPoint → Fraction
slope_of a b = (b.x -ᶠ a.x) /ᶠ (b.y -ᶠ a.y)

crossing_is : (a b : ExactPoint) (h : Fraction) → crossing a b h ≈ᶠ a.x +ᶠ (h -ᶠ a.y) *ᶠ slope_of a b
unfolding crossing slope_of
crossing_is a b h = refl≈ (a.x +ᶠ (h -ᶠ a.y) *ᶠ ((b.x -ᶠ a.x) /ᶠ (b.y -ᶠ a.y)))

pub crossing_start : (a b : ExactPoint) → crossing a b a.y ≈ᶠ a.x
crossing_start a b =
    let ρ = a.x ∷ a.y ∷ slope_of a b ∷ [] in
    let R = reps ρ in
    trans≈ (crossing_is a b a.y) (ring ρ {x = a.x +ᶠ (a.y -ᶠ a.y) *ᶠ slope_of a b} {y = a.x} (search rep) (search rep) tt)

pub crossing_end : (a b : ExactPoint) → a.y <ᶠ b.y → crossing a b b.y ≈ᶠ b.x
unfolding slope_of
crossing_end a b l =
    trans≈ (crossing_is a b b.y) (trans≈ (cong_add (refl≈ a.x) (trans≈ (mul_comm (b.y -ᶠ a.y) (slope_of a b)) (div_mul (b.x -ᶠ a.x) (b.y -ᶠ a.y) (above_not (sub_above l)))))
    (over (a.x ∷ b.x ∷ []) (λ N n A B. eq_at N (add_at N A (sub_at N B A)) B n (omega arith))))

-- from one height to another, by the slope
pub crossing_step : (a b : ExactPoint) (h k : Fraction) → crossing a b k ≈ᶠ crossing a b h +ᶠ (k -ᶠ h) *ᶠ slope_of a b
crossing_step a b h k =
    let ρ = a.x ∷ a.y ∷ slope_of a b ∷ h ∷ k ∷ [] in
    let R = reps ρ in
    trans≈ (crossing_is a b k) (trans≈ (ring ρ {x = a.x +ᶠ (k -ᶠ a.y) *ᶠ slope_of a b} {y = a.x +ᶠ (h -ᶠ a.y) *ᶠ slope_of a b +ᶠ (k -ᶠ h) *ᶠ slope_of a b} (search rep) (search rep) tt)
    (cong_add (sym≈ (crossing_is a b h)) (refl≈ ((k -ᶠ h) *ᶠ slope_of a b))))

-- what both ends of a stretch are right of, all of it is: so `throughout` is said of the two ends
pub crossing_ge : (a b : ExactPoint) (p h q z : Fraction) → p ≤ᶠ h → h ≤ᶠ q → z ≤ᶠ crossing a b p → z ≤ᶠ crossing a b q → z ≤ᶠ crossing a b h
crossing_ge a b p h q z i j f g = go (le_or_lt (natᶠ 0) (slope_of a b))
  where
    s : Fraction
    s = slope_of a b

    go : (natᶠ 0 ≤ᶠ s) ⊎ (s <ᶠ natᶠ 0) → z ≤ᶠ crossing a b h
    go (inl u) = let m = mul_nonneg (sub_nonneg i) u in
        over (z ∷ crossing a b p ∷ crossing a b h ∷ (h -ᶠ p) *ᶠ s ∷ natᶠ 0 ∷ [])
        (λ N n Z P X J O. le_at N Z X n (omega (arith, O.is, at_le N Z P f, at_le N O J m, at_eq N X (add_at N P J) (crossing_step a b p h))))
    go (inr u) =
        let ρ = s ∷ h ∷ q ∷ [] in
        let R = reps ρ in
        let m = trans (mul_nonneg (sub_nonneg j) (sub_nonneg (of_lt u))) (of_eq (ring ρ {x = (q -ᶠ h) *ᶠ (natᶠ 0 -ᶠ s)} {y = (h -ᶠ q) *ᶠ s} (search rep) (search rep) tt)) in
        over (z ∷ crossing a b q ∷ crossing a b h ∷ (h -ᶠ q) *ᶠ s ∷ natᶠ 0 ∷ [])
        (λ N n Z P X J O. le_at N Z X n (omega (arith, O.is, at_le N Z P g, at_le N O J m, at_eq N X (add_at N P J) (crossing_step a b q h))))

pub crossing_le : (a b : ExactPoint) (p h q z : Fraction) → p ≤ᶠ h → h ≤ᶠ q → crossing a b p ≤ᶠ z → crossing a b q ≤ᶠ z → crossing a b h ≤ᶠ z
crossing_le a b p h q z i j f g = go (le_or_lt (natᶠ 0) (slope_of a b))
  where
    s : Fraction
    s = slope_of a b

    go : (natᶠ 0 ≤ᶠ s) ⊎ (s <ᶠ natᶠ 0) → crossing a b h ≤ᶠ z
    go (inl u) =
        let ρ = s ∷ h ∷ q ∷ [] in
        let R = reps ρ in
        let m = mul_nonneg (sub_nonneg j) u in
        let e : (h -ᶠ q) *ᶠ s ≈ᶠ natᶠ 0 -ᶠ (q -ᶠ h) *ᶠ s = ring ρ {x = (h -ᶠ q) *ᶠ s} {y = natᶠ 0 -ᶠ (q -ᶠ h) *ᶠ s} (search rep) (search rep) tt in
        over (z ∷ crossing a b q ∷ crossing a b h ∷ (h -ᶠ q) *ᶠ s ∷ (q -ᶠ h) *ᶠ s ∷ natᶠ 0 ∷ [])
        (λ N n Z P X J K O. le_at N X Z n (omega (arith, O.is, at_le N P Z g, at_le N O K m, at_eq N J (sub_at N O K) e, at_eq N X (add_at N P J) (crossing_step a b q h))))
    go (inr u) =
        let ρ = s ∷ h ∷ p ∷ [] in
        let R = reps ρ in
        let m = mul_nonneg (sub_nonneg i) (sub_nonneg (of_lt u)) in
        let e : (h -ᶠ p) *ᶠ s ≈ᶠ natᶠ 0 -ᶠ (h -ᶠ p) *ᶠ (natᶠ 0 -ᶠ s) = ring ρ {x = (h -ᶠ p) *ᶠ s} {y = natᶠ 0 -ᶠ (h -ᶠ p) *ᶠ (natᶠ 0 -ᶠ s)} (search rep) (search rep) tt in
        over (z ∷ crossing a b p ∷ crossing a b h ∷ (h -ᶠ p) *ᶠ s ∷ (h -ᶠ p) *ᶠ (natᶠ 0 -ᶠ s) ∷ natᶠ 0 ∷ [])
        (λ N n Z P X J K O. le_at N X Z n (omega (arith, O.is, at_le N P Z f, at_le N O K m, at_eq N J (sub_at N O K) e, at_eq N X (add_at N P J) (crossing_step a b p h))))

-- on the edge the crossing is between its ends
pub crossing_within : (a b : ExactPoint) (h m : Fraction) → a.y <ᶠ b.y → a.y ≤ᶠ h → h ≤ᶠ b.y → Within a.x m → Within b.x m → Within (crossing a b h) m
crossing_within a b h m l p q A B = record {
  lo = crossing_ge a b a.y h b.y (negᶠ m) p q (trans A.lo (of_eq (sym≈ (crossing_start a b)))) (trans B.lo (of_eq (sym≈ (crossing_end a b l))));
  hi = crossing_le a b a.y h b.y m p q (trans (of_eq (crossing_start a b)) A.hi) (trans (of_eq (crossing_end a b l)) B.hi);
}

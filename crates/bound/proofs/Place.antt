-- Where the engine has an edge at a height is near its crossing. Differences of coordinates are exact; the slope, its
-- product with the height and the sum are rounded (rounding/proofs/Uses.antt). Assumes nothing.
use mathlib.Core.Path.{◌≡◌, refl}
use mathlib.Core.List.{[], ◌∷◌}
use mathlib.Core.Bool.{false}
use Prim.Native.Nat.{ℕ, ◌*◌, ◌^◌, ◌<◌}
use native.Mathlib.Omega.{arith}
use lib.IntN.{ℤ, pos, negsuc}
use lib.Dec.{lit≤}
use lib.Ieee.{Float, binary32}
use lib.Ieee.Fits.{sub-fits, add-fits}
use Rattle.fraction.specs.Whole.{Whole, natʷ, sizeʷ, negʷ, ofℤ, ◌-ʷ◌, ◌≤ʷ◌}
use Rattle.fraction.specs.Fraction.{Fraction, ◌≤ᶠ◌, ◌<ᶠ◌, ◌≈ᶠ◌, natᶠ, ◌/2^◌, ◌+ᶠ◌, ◌-ᶠ◌, ◌*ᶠ◌, ◌/ᶠ◌, invᶠ, Near, Within}
use Rattle.fraction.proofs.Linear.{At, at_same, at_le, at_lt, le_at, sub_at, neg_at, scale_at, over, lit, trans, self}
use Rattle.fraction.proofs.Order.{of_eq, sym≈, trans≈, mul_cong, mul_comm, mul_left_comm, mul_mono_right, mul_nonneg, inv_mul, inv_nonneg, above_not, sub_above, sub_nonneg, cancel}
use Rattle.fraction.proofs.Near.{within_sub, within_mul, within_weaken, within_near, within_self, within_same}
use Rattle.fraction.proofs.Ring.{cong_add, cong_sub, cong_mul}
use Rattle.rounding.specs.Value.{val}
use Rattle.rounding.proofs.Round.{near_to}
use Rattle.rounding.proofs.Exactly.{sub_exact}
use Rattle.rounding.proofs.Uses.{crossing_near}
use Rattle.word_list.specs.Words.{Point, beyond}
use Rattle.word_list.specs.Writer.{PointInLimit}
use Rattle.winding.specs.Winding.{exact_coordinate, exact_point, crossing}
use Rattle.winding.proofs.Part.{crossing_within}
use Rattle.float.specs.Ops.{◌⊖◌, ◌⊗◌, ◌⊘◌}
use Rattle.edge.specs.declared.Edge.{Edge}
use Rattle.edge.specs.Edges.{at_of}
use Rattle.contour.specs.Contours.{coordinate_of}
use Rattle.bound.proofs.Adds.{place_error}
use Rattle.bound.proofs.Numbers.{Num, Exact}
use Rattle.bound.proofs.Active.{pos_near, negsuc_near, coordinate_is}

-- ---- coordinates are 256ths, up to 4,096 in size; their differences are exact
abbrev pub coordinate_at : (w : ℤ) → At 256 (exact_coordinate w)
coordinate_at w = record { z = ofℤ w; is = refl }

word_range : (w : ℤ) → beyond w ≡ false → (negʷ (natʷ 1048576) ≤ʷ ofℤ w) × (ofℤ w ≤ʷ natʷ 1048576)
word_range (pos n) t = let l = pos_near n t in (omega arith, omega (arith, l))
word_range (negsuc n) t = let l = negsuc_near n t in (omega (arith, l), omega arith)

abbrev pub nat_at : (n : ℕ) → At 256 (natᶠ n)
nat_at n = record { z = natʷ (n * 256); is = omega arith }

coordinate_within : (w : ℤ) → beyond w ≡ false → Within (exact_coordinate w) (natᶠ 4096)
coordinate_within w t = let r = word_range w t in
    record { lo = le_at 256 (neg_at 256 (nat_at 4096)) (coordinate_at w) (lit≤ tt) (omega (arith, r.0)); hi = le_at 256 (coordinate_at w) (nat_at 4096) (lit≤ tt) (omega (arith, r.1)) }

pub difference : {P Q : Fraction} {p q : Float} → Exact P p → Exact Q q → (X : At 256 P) (Y : At 256 Q) → sizeʷ (X.z -ʷ Y.z) < 2 ^ 24 → Exact (P -ᶠ Q) (p ⊖ q)
difference {p = p} {q} a b X Y l =
    let I = sub_exact binary32 8 p q a.fine b.fine (lit≤ tt) (at_same 256 (sym≈ a.eq) X) (at_same 256 (sym≈ b.eq) Y) l in
    record { fine = I.fine; held = sub-fits binary32 p q; eq = trans≈ I.eq (cong_sub a.eq b.eq) }

coordinates : (w v : ℤ) → beyond w ≡ false → beyond v ≡ false → Exact (exact_coordinate w -ᶠ exact_coordinate v) (coordinate_of w ⊖ coordinate_of v)
coordinates w v s t =
    let r = word_range w s in
    let q = word_range v t in
    difference (coordinate_is w s) (coordinate_is v t) (coordinate_at w) (coordinate_at v) (omega (arith, r.0, r.1, q.0, q.1))

-- ---- the edge as the engine has it, from its upper end to its lower
abbrev pub edge_from : Point → Point → Float → Edge
edge_from u v d = record {
  x = coordinate_of u.x;
  y = coordinate_of u.y;
  bottom = coordinate_of v.y;
  slope = (coordinate_of v.x ⊖ coordinate_of u.x) ⊘ (coordinate_of v.y ⊖ coordinate_of u.y);
  down = d;
}

-- an edge from its upper end u to its lower end v
pub record Downward (u v : Point) : Type 0 where
  pub upper : PointInLimit u
  pub lower : PointInLimit v
  pub down : exact_coordinate u.y <ᶠ exact_coordinate v.y

-- ---- THE PLACE, at a height Y on the edge
module _ (u v : Point) (d y : Float) (Y : Fraction) (edge : Downward u v) (e : Exact Y y) (Z : At 256 Y)
    (from : exact_coordinate u.y ≤ᶠ Y) (to : Y ≤ᶠ exact_coordinate v.y) where
  abbrev Xa : Fraction
  Xa = exact_coordinate u.x

  abbrev DX : Fraction
  DX = exact_coordinate v.x -ᶠ exact_coordinate u.x

  abbrev DY : Fraction
  DY = exact_coordinate v.y -ᶠ exact_coordinate u.y

  abbrev DT : Fraction
  DT = Y -ᶠ exact_coordinate u.y

  abbrev dx : Float
  dx = coordinate_of v.x ⊖ coordinate_of u.x

  abbrev dy : Float
  dy = coordinate_of v.y ⊖ coordinate_of u.y

  abbrev dt : Float
  dt = y ⊖ coordinate_of u.y

  xa : Exact Xa (coordinate_of u.x)
  xa = coordinate_is u.x edge.upper.0

  dx_is : Exact DX dx
  dx_is = coordinates v.x u.x edge.lower.0 edge.upper.0

  dy_is : Exact DY dy
  dy_is = coordinates v.y u.y edge.lower.1 edge.upper.1

  dt_is : Exact DT dt
  dt_is =
      let p = at_le 256 (coordinate_at u.y) Z from in
      let q = at_le 256 Z (coordinate_at v.y) to in
      let r = word_range u.y edge.upper.1 in
      let s = word_range v.y edge.lower.1 in
      difference e (coordinate_is u.y edge.upper.1) Z (coordinate_at u.y) (small Z.z (ofℤ u.y) (ofℤ v.y) p q r.0 s.1)
    where
      small : (a b c : Whole) → b ≤ʷ a → a ≤ʷ c → negʷ (natʷ 1048576) ≤ʷ b → c ≤ʷ natʷ 1048576 → sizeʷ (a -ʷ b) < 2 ^ 24
      small a b c h k l m = omega (arith, lit≤ {m = 2097153} {n = 2 ^ 24} tt)

  DY-pos : natᶠ 0 <ᶠ DY
  DY-pos = sub_above edge.down

  -- at least 1 / 256, so its reciprocal is at most 256
  DY-ge : 1 /2^ 8 ≤ᶠ DY
  DY-ge = le_at 256 (self (1 /2^ 8)) (sub_at 256 (coordinate_at v.y) (coordinate_at u.y)) (lit≤ tt)
      (omega (arith, at_lt 256 (coordinate_at u.y) (coordinate_at v.y) (lit≤ tt) edge.down))

  abbrev I : Fraction
  I = invᶠ DY

  I-nonneg : natᶠ 0 ≤ᶠ I
  I-nonneg = inv_nonneg DY DY-pos

  I-within : Within I (natᶠ 256)
  I-within = within_weaken (within_self I-nonneg) (over (I ∷ 1 /2^ 8 *ᶠ I ∷ natᶠ 1 ∷ natᶠ 256 ∷ []) (λ N n A J O K. le_at N A K n
      (omega (arith, O.is, K.is, scale_at N (1 /2^ 8) A J, at_le N J O (trans (mul_mono_right I-nonneg DY-ge) (trans (of_eq (mul_comm DY I)) (of_eq (inv_mul DY (above_not DY-pos)))))))))

  -- the height is a part of the edge's
  part_within : Within (DT *ᶠ I) (natᶠ 1)
  part_within = within_weaken (within_self (mul_nonneg (sub_nonneg from) I-nonneg))
      (trans (mul_mono_right I-nonneg (over (Y ∷ exact_coordinate u.y ∷ exact_coordinate v.y ∷ []) (λ N n C A B. le_at N (sub_at N C A) (sub_at N B A) n (omega (arith, at_le N C B to)))))
      (trans (of_eq (mul_comm DY I)) (of_eq (inv_mul DY (above_not DY-pos)))))

  DX-within : Within DX (natᶠ 8192)
  DX-within = within_weaken (within_sub (coordinate_within v.x edge.lower.0) (coordinate_within u.x edge.upper.0)) (unfold ◌+ᶠ◌ in lit tt)

  DT-within : Within DT (natᶠ 8192)
  DT-within = within_weaken (within_self (sub_nonneg from)) (trans (over (Y ∷ exact_coordinate u.y ∷ exact_coordinate v.y ∷ []) (λ N n C A B.
      le_at N (sub_at N C A) (sub_at N B A) n (omega (arith, at_le N C B to))))
      (trans (within_sub (coordinate_within v.y edge.lower.1) (coordinate_within u.y edge.upper.1)).hi (unfold ◌+ᶠ◌ in lit tt)))

  -- ---- the same of the floats' values
  dy_not : ¬ (val dy ≈ᶠ natᶠ 0)
  dy_not z = above_not DY-pos (trans≈ (sym≈ dy_is.eq) z)

  inv_is : invᶠ (val dy) ≈ᶠ I
  inv_is = cancel (invᶠ (val dy)) I DY (above_not DY-pos) (trans≈ (mul_cong (invᶠ (val dy)) (sym≈ dy_is.eq)) (trans≈ (inv_mul (val dy) dy_not) (sym≈ (inv_mul DY (above_not DY-pos)))))

  slope_is : val dx *ᶠ invᶠ (val dy) ≈ᶠ DX *ᶠ I
  slope_is = cong_mul dx_is.eq inv_is

  slope_within : Within (val dx *ᶠ invᶠ (val dy)) (natᶠ (2 ^ 21))
  slope_within = within_same (sym≈ slope_is) (within_weaken (within_mul DX-within I-within) (unfold ◌*ᶠ◌ in lit tt))

  along : Within (val dt *ᶠ (val dx *ᶠ invᶠ (val dy))) (natᶠ 8192)
  along = within_same (sym≈ (trans≈ (cong_mul dt_is.eq slope_is) (mul_left_comm DT DX I))) (within_weaken (within_mul DX-within part_within) (unfold ◌*ᶠ◌ in lit tt))

  same : val (coordinate_of u.x) +ᶠ val dt *ᶠ (val dx *ᶠ invᶠ (val dy)) ≈ᶠ crossing (exact_point u) (exact_point v) Y
  unfolding crossing ◌/ᶠ◌
  same = cong_add xa.eq (cong_mul dt_is.eq slope_is)

  cross_within : Within (crossing (exact_point u) (exact_point v) Y) (natᶠ 4096)
  cross_within = crossing_within (exact_point u) (exact_point v) Y (natᶠ 4096) edge.down from to (coordinate_within u.x edge.upper.0) (coordinate_within v.x edge.lower.0)

  pub place : Num (at_of (edge_from u v d) y) (natᶠ 4097) × Near (val (at_of (edge_from u v d) y)) (crossing (exact_point u) (exact_point v) Y) place_error
  place =
      let n = crossing_near (coordinate_of u.x) dt dx dy (xa.fine, xa.held) (dt_is.fine, dt_is.held) (dx_is.fine, dx_is.held) (dy_is.fine, dy_is.held)
      (within_same (sym≈ dx_is.eq) DX-within) dy_not (within_same (sym≈ inv_is) I-within) (within_same (sym≈ dt_is.eq) DT-within) along (within_same (sym≈ same) cross_within) slope_within in
      let near = near_to same n.1 in (
        record { fine = n.0; held = add-fits binary32 (coordinate_of u.x) (dt ⊗ (dx ⊘ dy)); within = within_weaken (within_near near cross_within) (unfold ◌+ᶠ◌ in lit tt) },
        near,
      )

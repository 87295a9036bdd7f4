-- Products and quotients by their relative errors (rounding/proofs/Relative.antt), with sizes and errors that are
-- literals: one test that computes decides them all. Assumes nothing.
use mathlib.Core.List.{[], ◌∷◌}
use Prim.Native.Nat.{◌^◌}
use native.Mathlib.Omega.{arith}
use lib.Dec.{T}
use lib.Ieee.{Float, binary32, fits}
use lib.Ieee.Fits.{div-fits}
use lib.Ieee.Scale.{finite}
use Rattle.fraction.specs.Fraction.{Fraction, ◌≤ᶠ◌, ◌<ᶠ◌, ◌≈ᶠ◌, leᵇ, natᶠ, ◌/2^◌, ◌+ᶠ◌, ◌-ᶠ◌, ◌*ᶠ◌, absᶠ, invᶠ, Near, Within}
use Rattle.fraction.proofs.Linear.{at_le, le_at, sub_at, over, lit, trans}
use Rattle.fraction.proofs.Order.{of_eq, refl≤, refl≈, sym≈, trans≈, add_mono, mul_comm, mul_cong, mul_assoc, mul_one, mul_mono_right, mul_nonneg, inv_mul, inv_nonneg, above_not, sub_nonneg}
use Rattle.fraction.proofs.Near.{near_weaken, within_weaken, within_near, within_self, within_same}
use Rattle.fraction.proofs.Abs.{within_abs, abs_cong}
use Rattle.fraction.proofs.Relative.{Rel, rel_near, rel_weaken, rel_mul, rel_inv}
use Rattle.fraction.proofs.Ring.{rep, reps, ring, cong_mul}
use Rattle.rounding.specs.Value.{val, roundoff, tiny}
use Rattle.rounding.specs.Rounding.{Rounds}
use Rattle.rounding.proofs.Round.{near_to, step}
use Rattle.rounding.proofs.Ops.{div_rounds}
use Rattle.rounding.proofs.Analyse.{Known, Leaf, leaf, op, minus, times, auto, known, analyse}
use Rattle.rounding.proofs.Relative.{Approx, once, spread, product_rel, product_tiny, rounds_rel, mul_approx, rel_not, approx_self}
use Rattle.float.specs.Ops.{◌⊖◌, ◌⊗◌, ◌⊘◌, f1}
use Rattle.bound.proofs.Adds.{cut_twice, quotient_error, cut_error}
use Rattle.bound.proofs.Numbers.{Num, Exact}
use Rattle.bound.proofs.OneCell.{one, sized}

-- ---- floats by relative errors
pub approx_weaken : {x : Float} {X r t s v : Fraction} → r ≤ᶠ s → t ≤ᶠ v → Approx binary32 x X r t → Approx binary32 x X s v
approx_weaken k l h = record { fine = h.fine; held = h.held; rel = rel_weaken k l h.rel }

pub approx_same : {x : Float} {X Y r t : Fraction} → X ≈ᶠ Y → Approx binary32 x X r t → Approx binary32 x Y r t
approx_same {r = r} {t} q h = record {
  fine = h.fine;
  held = h.held;
  rel = record { near = near_to q (near_weaken h.rel.near (add_mono (of_eq (mul_cong r (abs_cong q))) (refl≤ t))) };
}

pub approx_exact : {x : Float} {X : Fraction} → Exact X x → Approx binary32 x X (natᶠ 0) (natᶠ 0)
approx_exact {x} h = approx_same h.eq (approx_self binary32 x h.fine h.held)

pub approx_rounds : {x : Float} {X t : Fraction} → Rounds binary32 t X x → T (fits binary32 x) → Approx binary32 x X (roundoff binary32) t
approx_rounds h q = record { fine = h.fine; held = q; rel = rounds_rel h }

-- one with an absolute error, for an analysis
pub approx_known : {x : Float} {X r t : Fraction} (b e : Fraction) → Approx binary32 x X r t → natᶠ 0 ≤ᶠ r → Within X b → r *ᶠ b +ᶠ t ≤ᶠ e → Known binary32 x X b e
approx_known b e h p w l = record { fine = h.fine; held = h.held; near = near_weaken (rel_near p h.rel w) l; within = w }

abbrev pub leaf_of : {x : Float} {X b e : Fraction} → Known binary32 x X b e → Leaf binary32
leaf_of {x} {X} {b} {e} h = record { x = x; X = X; b = b; e = e; is = h }

-- ---- a product: factors of sizes b and c, with errors r, t and s, v; the product's are r' and t'. The eight tests
-- compute for literals
unfoldable pub Fit : Fraction → Fraction → Fraction → Fraction → Fraction → Fraction → Fraction → Fraction → Type 0
unfolding ◌+ᶠ◌ ◌*ᶠ◌
Fit r t b s v c r' t' =
    T (leᵇ (natᶠ 0) r) × T (leᵇ (natᶠ 0) s) × T (leᵇ (natᶠ 0) t) × T (leᵇ (natᶠ 0) v) × T (leᵇ (natᶠ 0) (product_rel r s))
    × T (leᵇ (spread (b *ᶠ c) (product_rel r s) (product_tiny r t b s v c)) (natᶠ (2 ^ 127)))
    × T (leᵇ (once binary32 (product_rel r s)) r') × T (leᵇ (tiny binary32 +ᶠ product_tiny r t b s v c +ᶠ roundoff binary32 *ᶠ product_tiny r t b s v c) t')

pub product : {x y : Float} {X Y r t s v : Fraction} (b c r' t' : Fraction) → Approx binary32 x X r t → Approx binary32 y Y s v → Within X b → Within Y c → Fit r t b s v c r' t'
    → Approx binary32 (x ⊗ y) (X *ᶠ Y) r' t'
unfolding Fit
product {x} {y} {X} {Y} {r} {t} {s} {v} b c r' t' A B wx wy k =
    approx_weaken (lit k.6) (lit k.7)
    (mul_approx binary32 x y X Y r t b s v c A B (record { r0 = lit k.0; s0 = lit k.1; t0 = lit k.2; v0 = lit k.3; both0 = lit k.4 }) wx wy (lit k.5))

-- ---- a quotient of size 1 at most, of two numbers with one rounding each. The divisor may be as small as a float can
-- be
abbrev u : Fraction
u = roundoff binary32

-- the reciprocal's error
abbrev w : Fraction
w = 17 /2^ 28

module _ {x y : Float} {X Y Q : Fraction} (A : Approx binary32 x X u (natᶠ 0)) (B : Approx binary32 y Y u (natᶠ 0)) (some : ¬ (Y ≈ᶠ natᶠ 0)) (is : Q *ᶠ Y ≈ᶠ X) (Q1 : Within Q (natᶠ 1)) where
  divisor : ¬ (val y ≈ᶠ natᶠ 0)
  divisor = rel_not (lit tt) B.rel some

  back : X *ᶠ invᶠ Y ≈ᶠ Q
  back = trans≈ (cong_mul (sym≈ is) (refl≈ (invᶠ Y))) (trans≈ (mul_assoc Q Y (invᶠ Y)) (trans≈ (mul_cong Q (trans≈ (mul_comm Y (invᶠ Y)) (inv_mul Y some))) (mul_one Q)))

  inverse : Rel (invᶠ (val y)) (invᶠ Y) w (natᶠ 0)
  inverse = rel_inv (val y) Y u w divisor some (lit tt) (unfold ◌-ᶠ◌ ◌*ᶠ◌ in lit tt) B.rel

  quotient_near : Near (val x *ᶠ invᶠ (val y)) Q (9 /2^ 26)
  quotient_near =
      let m = rel_mul (lit tt) (lit tt) (lit tt) (lit tt) A.rel inverse (within_abs X) (within_abs (invᶠ Y)) in
      near_to back (near_weaken (rel_near some' m (within_same (sym≈ back) Q1)) (trans (add_mono (refl≤ ((u +ᶠ w +ᶠ u *ᶠ w) *ᶠ natᶠ 1)) (of_eq (none u w (absᶠ X) (absᶠ (invᶠ Y))))) small))
    where
      some' : natᶠ 0 ≤ᶠ u +ᶠ w +ᶠ u *ᶠ w
      some' = unfold ◌+ᶠ◌ ◌*ᶠ◌ in lit tt

      small : (u +ᶠ w +ᶠ u *ᶠ w) *ᶠ natᶠ 1 +ᶠ natᶠ 0 ≤ᶠ 9 /2^ 26
      small = unfold ◌+ᶠ◌ ◌*ᶠ◌ in lit tt

      none : (r s b c : Fraction) → (natᶠ 1 +ᶠ s) *ᶠ natᶠ 0 *ᶠ c +ᶠ (natᶠ 1 +ᶠ r) *ᶠ natᶠ 0 *ᶠ b +ᶠ natᶠ 0 *ᶠ natᶠ 0 ≈ᶠ natᶠ 0
      none r s b c = let ρ = r ∷ s ∷ b ∷ c ∷ [] in let R = reps ρ in ring ρ (search rep depth 9) (search rep depth 9) tt

  pub quotient : Known binary32 (x ⊘ y) Q (natᶠ 1) quotient_error
  quotient =
      let r = div_rounds binary32 x y (val x *ᶠ invᶠ (val y)) A.fine B.fine divisor
      (trans≈ (mul_assoc (val x) (invᶠ (val y)) (val y)) (trans≈ (mul_cong (val x) (inv_mul (val y) divisor)) (mul_one (val x))))
      (within_weaken (within_near quotient_near Q1) (unfold ◌+ᶠ◌ in lit tt)) in
      record { fine = r.fine; held = div-fits binary32 x y; near = near_weaken (step r quotient_near Q1) (unfold ◌+ᶠ◌ ◌*ᶠ◌ in lit tt); within = Q1 }

-- ---- a part N / D, from 0 to 1
module _ (N D : Fraction) (N0 : natᶠ 0 ≤ᶠ N) (D0 : natᶠ 0 <ᶠ D) (N≤D : N ≤ᶠ D) where
  abbrev pub part : Fraction
  part = N *ᶠ invᶠ D

  pub part_is : part *ᶠ D ≈ᶠ N
  part_is = trans≈ (mul_assoc N (invᶠ D) D) (trans≈ (mul_cong N (inv_mul D (above_not D0))) (mul_one N))

  pub part_lo : natᶠ 0 ≤ᶠ part
  part_lo = mul_nonneg N0 (inv_nonneg D D0)

  pub part_hi : part ≤ᶠ natᶠ 1
  part_hi = trans (mul_mono_right (inv_nonneg D D0) N≤D) (trans (of_eq (mul_comm D (invᶠ D))) (of_eq (inv_mul D (above_not D0))))

-- ---- the height times a part, and times the rest
module _ {a o : Float} {O : Fraction} (A : Num a cut_twice) (h : Known binary32 o O (natᶠ 1) quotient_error) (O0 : natᶠ 0 ≤ᶠ O) (O1 : O ≤ᶠ natᶠ 1) where
  pub cut_in : T (finite (a ⊗ o)) × Near (val (a ⊗ o)) (val a *ᶠ O) cut_error
  unfolding ◌+ᶠ◌ ◌*ᶠ◌
  cut_in = let d = analyse (op times auto (leaf (sized a cut_twice A)) (leaf (leaf_of h))) tt (tt, tt, tt, tt) in (d.fine, near_weaken d.near (lit tt))

  pub rest_lo : natᶠ 0 ≤ᶠ natᶠ 1 -ᶠ O
  rest_lo = sub_nonneg O1

  pub rest_hi : natᶠ 1 -ᶠ O ≤ᶠ natᶠ 1
  rest_hi = over (natᶠ 0 ∷ natᶠ 1 ∷ O ∷ []) (λ N n Z I X. le_at N (sub_at N I X) I n (omega (arith, Z.is, at_le N Z X O0)))

  pub cut_out : T (finite (a ⊗ (f1 ⊖ o))) × Near (val (a ⊗ (f1 ⊖ o))) (val a *ᶠ (natᶠ 1 -ᶠ O)) cut_error
  unfolding one ◌+ᶠ◌ ◌*ᶠ◌
  cut_out =
      let d = analyse (op times auto (leaf (sized a cut_twice A)) (op minus (known (natᶠ 1)) (leaf one) (leaf (leaf_of h)))) tt (tt, tt, tt, (within_weaken (within_self rest_lo) rest_hi, tt, tt, tt)) in
      (d.fine, near_weaken d.near (lit tt))

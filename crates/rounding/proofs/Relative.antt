-- Relative errors of floats: `Approx f x X r t` says that x, a value of the format, stands for X with |x - X| ≤ r *
-- |X| + t. A rounding makes r into `once f r`, a product adds the two and their product, a quotient takes the
-- divisor's through its reciprocal. The sizes that the caller hands over (b, c) only keep results from overflowing
-- and weigh the terms in `tiny`, so they may be crude: X may be as large as 2 ^ 24 beside an r that is a few units of
-- the last place. Assumes nothing.
use mathlib.Core.List.{[], ◌∷◌}
use Prim.Native.Nat.{◌^◌}
use native.Mathlib.Omega.{arith}
use lib.Dec.{T}
use lib.Ieee.{Float, Format, emax, add, mul, div, fits}
use lib.Ieee.Fits.{add-fits, mul-fits, div-fits}
use lib.Ieee.Scale.{finite}
use Rattle.fraction.specs.Fraction.{Fraction, ◌≤ᶠ◌, ◌≈ᶠ◌, natᶠ, ◌/2^◌, ◌+ᶠ◌, ◌-ᶠ◌, ◌*ᶠ◌, invᶠ, absᶠ, Within}
use Rattle.fraction.proofs.Linear.{at_le, at_eq, eq_at, le_at, add_at, abs_at, scale_at, over}
use Rattle.fraction.proofs.Order.{trans≈, mul_assoc, mul_cong, mul_one, mul_mono_right, inv_mul}
use Rattle.fraction.proofs.Near.{abs_of_within, near_refl, near_sym, near_weaken, within_near, within_weaken, within_mul}
use Rattle.fraction.proofs.Abs.{within_abs, abs_nonneg}
use Rattle.fraction.proofs.Relative.{Rel, rel_near, rel_trans, rel_mul, rel_add, rel_inv}
use Rattle.rounding.specs.Value.{val, roundoff, tiny}
use Rattle.rounding.specs.Rounding.{Rounds}
use Rattle.rounding.proofs.Round.{roundoff_nonneg}
use Rattle.rounding.proofs.Ops.{add_rounds, mul_rounds, div_rounds}

pub record Approx (f : Format) (x : Float) (X r t : Fraction) : Type 0 where
  pub fine : T (finite x)
  pub held : T (fits f x)
  pub rel : Rel (val x) X r t

-- a float stands for itself
pub approx_self : (f : Format) (x : Float) → T (finite x) → T (fits f x) → Approx f x (val x) (natᶠ 0) (natᶠ 0)
approx_self f x p h = record {
  fine = p;
  held = h;
  rel = record {
    near = near_weaken (near_refl (val x))
        (over (natᶠ 0 *ᶠ absᶠ (val x) ∷ absᶠ (val x) ∷ natᶠ 0 ∷ []) (λ N n Z A O. le_at N O (add_at N Z O) n (omega (arith, O.is, scale_at N (natᶠ 0) A Z))));
  };
}

-- ---- one rounding more
abbrev pub once : Format → Fraction → Fraction
once f r = roundoff f +ᶠ r +ᶠ roundoff f *ᶠ r

pub rounds_rel : {f : Format} {t X : Fraction} {r : Float} → Rounds f t X r → Rel (val r) X (roundoff f) t
rounds_rel {X = X} h = record { near = h.near (absᶠ X) (within_abs X) }

pub rel_round : {f : Format} {t z Z r v : Fraction} {w : Float} → Rounds f t z w → Rel z Z r v → Rel (val w) Z (once f r) (t +ᶠ v +ᶠ roundoff f *ᶠ v)
rel_round {f} h k = rel_trans (roundoff_nonneg f) (rounds_rel h) k

-- a value with a relative error is no larger than this
abbrev pub spread : Fraction → Fraction → Fraction → Fraction
spread b r t = b +ᶠ (r *ᶠ b +ᶠ t)

within_spread : {z Z r t b : Fraction} → natᶠ 0 ≤ᶠ r → Rel z Z r t → Within Z b → Within z (spread b r t)
within_spread p h w = within_near (rel_near p h w) w

-- ---- the sum of two numbers of one sign
module _ (f : Format) (x y : Float) (X Y r t v b : Fraction) (A : Approx f x X r t) (B : Approx f y Y r v) where
  pub add_approx : natᶠ 0 ≤ᶠ r → natᶠ 0 ≤ᶠ X → natᶠ 0 ≤ᶠ Y → Within (X +ᶠ Y) b → spread b r (t +ᶠ v) ≤ᶠ natᶠ (2 ^ emax f)
      → Approx f (add f x y) (X +ᶠ Y) (once f r) (natᶠ 0 +ᶠ (t +ᶠ v) +ᶠ roundoff f *ᶠ (t +ᶠ v))
  add_approx r0 X0 Y0 w l =
      let s = rel_add X0 Y0 A.rel B.rel in
      let h = add_rounds f x y A.fine B.fine A.held B.held (within_weaken (within_spread r0 s w) l) in
      record { fine = h.fine; held = add-fits f x y; rel = rel_round h s }

-- ---- the product
abbrev pub product_rel : Fraction → Fraction → Fraction
product_rel r s = r +ᶠ s +ᶠ r *ᶠ s

abbrev pub product_tiny : Fraction → Fraction → Fraction → Fraction → Fraction → Fraction → Fraction
product_tiny r t b s v c = (natᶠ 1 +ᶠ s) *ᶠ t *ᶠ c +ᶠ (natᶠ 1 +ᶠ r) *ᶠ v *ᶠ b +ᶠ t *ᶠ v

-- the errors and bounds of two factors, none of them below 0
pub record Sizes (r t b s v c : Fraction) : Type 0 where
  pub r0 : natᶠ 0 ≤ᶠ r
  pub s0 : natᶠ 0 ≤ᶠ s
  pub t0 : natᶠ 0 ≤ᶠ t
  pub v0 : natᶠ 0 ≤ᶠ v
  pub both0 : natᶠ 0 ≤ᶠ product_rel r s

module _ (f : Format) (x y : Float) (X Y r t b s v c : Fraction) (A : Approx f x X r t) (B : Approx f y Y s v) (p : Sizes r t b s v c) (wx : Within X b) (wy : Within Y c) where
  pub mul_approx : spread (b *ᶠ c) (product_rel r s) (product_tiny r t b s v c) ≤ᶠ natᶠ (2 ^ emax f)
      → Approx f (mul f x y) (X *ᶠ Y) (once f (product_rel r s)) (tiny f +ᶠ product_tiny r t b s v c +ᶠ roundoff f *ᶠ product_tiny r t b s v c)
  mul_approx l =
      let m = rel_mul p.r0 p.s0 p.t0 p.v0 A.rel B.rel wx wy in
      let h = mul_rounds f x y A.fine B.fine (within_weaken (within_spread p.both0 m (within_mul wx wy)) l) in
      record { fine = h.fine; held = mul-fits f x y; rel = rel_round h m }

-- ---- the quotient. The divisor's error is a part of it alone (v = 0), at most a half; its reciprocal's is w, where
-- s ≤ w * (1 - s)
pub rel_not : {y Y s : Fraction} → s ≤ᶠ 1 /2^ 1 → Rel y Y s (natᶠ 0) → ¬ (Y ≈ᶠ natᶠ 0) → ¬ (y ≈ᶠ natᶠ 0)
rel_not {y} {Y} {s} l h f e =
    let a = abs_of_within (within_near (near_sym h.near) (within_abs y)) in
    let k = mul_mono_right (abs_nonneg Y) l in
    f
    (over (y ∷ Y ∷ natᶠ 0 ∷ s *ᶠ absᶠ Y ∷ 1 /2^ 1 *ᶠ absᶠ Y ∷ []) (λ N n A B O C D.
    let z = scale_at N (1 /2^ 1) (abs_at N n B) D in
    eq_at N B O n (omega (arith, O.is, z, at_le N C D k, at_eq N A O e, at_le N (abs_at N n B) (add_at N (abs_at N n A) (add_at N C O)) a))))

module _ (f : Format) (x y : Float) (X Y r t b s w c : Fraction) (A : Approx f x X r t) (B : Approx f y Y s (natᶠ 0)) (some : ¬ (Y ≈ᶠ natᶠ 0)) (half : s ≤ᶠ 1 /2^ 1)
    (wide : s ≤ᶠ w *ᶠ (natᶠ 1 -ᶠ s)) (p : Sizes r t b w (natᶠ 0) c) (wx : Within X b) (wy : Within (invᶠ Y) c) where
  divisor : ¬ (val y ≈ᶠ natᶠ 0)
  divisor = rel_not half B.rel some

  quotient_rel : Rel (val x *ᶠ invᶠ (val y)) (X *ᶠ invᶠ Y) (product_rel r w) (product_tiny r t b w (natᶠ 0) c)
  quotient_rel = rel_mul p.r0 p.s0 p.t0 p.v0 A.rel (rel_inv (val y) Y s w divisor some p.s0 wide B.rel) wx wy

  pub div_approx : spread (b *ᶠ c) (product_rel r w) (product_tiny r t b w (natᶠ 0) c) ≤ᶠ natᶠ (2 ^ emax f)
      → Approx f (div f x y) (X *ᶠ invᶠ Y) (once f (product_rel r w)) (tiny f +ᶠ product_tiny r t b w (natᶠ 0) c +ᶠ roundoff f *ᶠ product_tiny r t b w (natᶠ 0) c)
  div_approx l =
      let back = trans≈ (mul_assoc (val x) (invᶠ (val y)) (val y)) (trans≈ (mul_cong (val x) (inv_mul (val y) divisor)) (mul_one (val x))) in
      let h = div_rounds f x y (val x *ᶠ invᶠ (val y)) A.fine B.fine divisor back (within_weaken (within_spread p.both0 quotient_rel (within_mul wx wy)) l) in
      record { fine = h.fine; held = div-fits f x y; rel = rel_round h quotient_rel }

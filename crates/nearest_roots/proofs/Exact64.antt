-- The f64 side of the check: squares of 26 digits are exact, midpoints are what their bit patterns say, and what was
-- rounded to an f64 is on the same side of every f64 as that one. Assumes nothing.
use mathlib.Core.Path.{◌≡◌, refl, sym, ap, ◌∙◌, subst}
use mathlib.Core.Logic.{inl, inr}
use mathlib.Core.Bool.{Bool, true, false}
use Prim.Native.Nat.{ℕ, suc, ◌+◌, ◌-◌, ◌*◌, ◌^◌, ◌≤◌, ◌<◌}
use native.Mathlib.Nat.{le_refl, le_of_lt, lt_of_lt_of_le, mul-le-mul, mul-pos, mul_right_comm}
use native.Mathlib.Nat.{eq_of_mul-eq-mul_right, min-eq_left, zero-add}
use native.Mathlib.Omega.{arith}
use lib.Dec.{T, lit≤}
use lib.Pow.{pow-add, pow_pos, pow_mono, shl_lt}
use lib.Ieee.{Float, nan, inf, fin, binary64, emax, low, up, down, unlike, units, round, mul, lt, fits, of_bits}
use lib.Ieee.Exact.{HasValue, round_exact, units_val}
use lib.Ieee.Fits.{down_pos, mul-fits}
use lib.Ieee.Scale.{finite}
use Rattle.fraction.specs.Fraction.{Fraction, ◌≤ᶠ◌, ◌≈ᶠ◌}
use Rattle.fraction.proofs.Order.{le_cong, sym≈, lt_not_le}
use Rattle.rounding.specs.Value.{val, signedᶠ}
use Rattle.rounding.proofs.Base.{value_is}
use Rattle.rounding.proofs.Compare.{lt_val}
use Rattle.float.specs.Parts.{pattern_of}
use Rattle.float.proofs.Pattern.{split, packed, under}
use Rattle.float.proofs.Tests.{holds}
use Rattle.square_sums.specs.Squares.{square, RootOfSquares}
use Rattle.nearest_roots.specs.Guess.{midpoint_of, mid_square_of, Between}
use Rattle.nearest_roots.proofs.Checked.{mid_digits, mid_exponent, checked}

-- from one fraction to another of the same size
pub rescale : (x : Float) (s : Bool) (w l num den : ℕ) → 0 < l → num * l ≡ w * den → HasValue x s w l → HasValue x s num den
rescale nan s w l num den p h v = v
rescale (inf t) s w l num den p h v = v
rescale (fin t m e) s w l num den p h v = (
  v.0,
  eq_of_mul-eq-mul_right l p (m * up e * den) (num * down e)
      (mul_right_comm (m * up e) den l
      ∙ ap (λ (x : ℕ). x * den) v.1
      ∙ mul_right_comm w (down e) den
      ∙ ap (λ (x : ℕ). x * down e) (sym h)
      ∙ mul_right_comm num l (down e)),
)

-- ---- a square of 26 digits

same_sign : (s : Bool) → unlike s s ≡ false
same_sign true = refl
same_sign false = refl

squared : (M D m E C G L : ℕ) → M * C ≡ m * E * D → L ≡ C * C * G → M * M * L ≡ m * m * (E * E * G) * (D * D)
squared M D m E C G L h l =
    let q : M * C * (M * C) ≡ m * E * D * (m * E * D) = ap (λ (x : ℕ). x * x) h in
    ap (λ (x : ℕ). M * M * x) l ∙ omega (arith, ap (λ (x : ℕ). x * G) q)

module _ (m j c : ℕ) (small : m < 2 ^ 26) (fine : c + c ≤ 1074) (J : j ≤ 300) where
  low_is : 2 ^ 1074 ≡ 2 ^ c * 2 ^ c * 2 ^ (1074 - (c + c))
  low_is =
      let e : 1074 ≡ c + c + (1074 - (c + c)) = omega arith in
      ap (λ (x : ℕ). 2 ^ x) e ∙ pow-add 2 (c + c) (1074 - (c + c)) ∙ ap (λ (x : ℕ). x * 2 ^ (1074 - (c + c))) (pow-add 2 c c)

  step_is : 2 ^ (j + j + (1074 - (c + c))) ≡ 2 ^ j * 2 ^ j * 2 ^ (1074 - (c + c))
  step_is = pow-add 2 (j + j) (1074 - (c + c)) ∙ ap (λ (x : ℕ). x * 2 ^ (1074 - (c + c))) (pow-add 2 j j)

  few : m * m < 2 ^ 52
  few = let l : m ≤ 2 ^ 26 - 1 = omega arith in let k = mul-le-mul l l in omega arith

  in_range : m * m * 2 ^ (j + j + (1074 - (c + c))) < 2 ^ (low binary64 + suc (emax binary64))
  in_range = let l : 52 + (j + j + (1074 - (c + c))) ≤ 2098 = omega arith in lt_of_lt_of_le (shl_lt 52 (j + j + (1074 - (c + c))) few) (pow_mono l)

  pub square_exact : (x : Float) (s : Bool) → HasValue x s (m * 2 ^ j) (2 ^ c) → HasValue (mul binary64 x x) false (square m j) (2 ^ c * 2 ^ c)
  unfolding mul
  square_exact nan s v = absurd v
  square_exact (inf t) s v = absurd v
  square_exact (fin t n e) s v =
      let M = n * up e in
      let D = down e in
      let J2 = j + j + (1074 - (c + c)) in
      let q : M * M * 2 ^ 1074 ≡ m * m * 2 ^ J2 * (D * D) =
      squared M D m (2 ^ j) (2 ^ c) (2 ^ (1074 - (c + c))) (2 ^ 1074) v.1 low_is ∙ ap (λ (x : ℕ). m * m * x * (D * D)) (sym step_is) in
      let r = round binary64 (unlike t t) (M * M) (D * D) in
      let h = round_exact binary64 (unlike t t) (M * M) (D * D) (m * m) J2 (mul-pos (down_pos e) (down_pos e)) (lt_of_lt_of_le few (lit≤ tt)) in_range q in
      let g : HasValue r false (M * M) (D * D) = subst (λ (b : Bool). HasValue r b (M * M) (D * D)) (same_sign t) h in
      rescale r false (M * M) (D * D) (square m j) (2 ^ c * 2 ^ c) (mul-pos (down_pos e) (down_pos e)) (both M D m (2 ^ j) (2 ^ c) v.1) g
    where
      both : (M D m E C : ℕ) → M * C ≡ m * E * D → m * E * (m * E) * (D * D) ≡ M * M * (C * C)
      both M D m E C h = let q : M * C * (M * C) ≡ m * E * D * (m * E * D) = ap (λ (x : ℕ). x * x) h in omega arith

-- ---- a midpoint's bit pattern

mid_value : (m : ℕ) → 2 ^ 24 ≤ m → m < 256 * 2 ^ 24
    → HasValue (midpoint_of m) false (mid_digits m * 2 ^ mid_exponent m) (2 ^ 150)
mid_value m a b =
    let q = mid_digits m * 2 ^ 28 in
    let k = mid_exponent m + 896 in
    let ql : q ≤ 2 ^ 53 = omega arith in
    let qh : 2 ^ 52 ≤ q = omega arith in
    let bits : k * 2 ^ 52 + q ≡ (m + 896 * 2 ^ 24) * 2 ^ 28 = omega arith in
    let less : k * 2 ^ 52 + q < 2047 * 2 ^ 52 = omega arith in
    let pat : pattern_of false (k * 2 ^ 52 + q) (2047 * 2 ^ 52) (2 ^ 63) ≡ (m + 896 * 2 ^ 24) * 2 ^ 28 = zero-add _ ∙ min-eq_left (le_of_lt less) ∙ bits in
    let is : units binary64 false q k ≡ midpoint_of m = sym (packed binary64 false q k ql (inr qh)) ∙ ap (of_bits binary64) pat in
    let v = units_val binary64 false q k (under binary64 q k ql (inr qh) less) in
    let E = 2 ^ mid_exponent m in
    let powers : 2 ^ 1074 ≡ 2 ^ 28 * 2 ^ 896 * 2 ^ 150 = pow-add 2 924 150 ∙ ap (λ (x : ℕ). x * 2 ^ 150) (pow-add 2 28 896) in
    rescale (midpoint_of m) false (q * 2 ^ k) (2 ^ 1074) (mid_digits m * E) (2 ^ 150) (pow_pos 1074)
    (again (mid_digits m) E (2 ^ k) (2 ^ 28) (2 ^ 896) (2 ^ 150) (2 ^ 1074) (pow-add 2 (mid_exponent m) 896) powers)
    (subst (λ (x : Float). HasValue x false (q * 2 ^ k) (2 ^ 1074)) is v)
  where
    again : (d E K P Q R U : ℕ) → K ≡ E * Q → U ≡ P * Q * R → d * E * U ≡ d * P * K * R
    again d E K P Q R U h g = ap (λ (x : ℕ). d * E * x) g ∙ omega (arith, ap (λ (x : ℕ). d * P * x * R) h)

-- ---- a midpoint's square against v, which stands for X: S squares of the smallest f32

-- v is on the same side of every f64 as X, or at it
pub record SameSide (X : Fraction) (v : Float) : Type 0 where
  pub fine : T (finite v)
  pub below : (y : Float) → T (finite y) → T (fits binary64 y) → X ≤ᶠ val y → val v ≤ᶠ val y
  pub above : (y : Float) → T (finite y) → T (fits binary64 y) → val y ≤ᶠ X → val y ≤ᶠ val v

abbrev pub one : ℕ
one = 2 ^ 149 * 2 ^ 149

pub one_pos : 0 < one
one_pos = mul-pos (pow_pos 149) (pow_pos 149)

fours_pos : 0 < 2 ^ 150 * 2 ^ 150
fours_pos = mul-pos (pow_pos 150) (pow_pos 150)

module _ {X : Fraction} {v : Float} {S : ℕ} (o : SameSide X v) (is : X ≈ᶠ signedᶠ false S one one_pos) where
  module _ (m : ℕ) (L : 2 ^ 24 ≤ m) (H : m < 256 * 2 ^ 24) where
    abbrev A : ℕ
    A = square (mid_digits m) (mid_exponent m)

    mid_square : HasValue (mid_square_of m) false A (2 ^ 150 * 2 ^ 150)
    mid_square = square_exact (mid_digits m) (mid_exponent m) 150 (omega arith) (lit≤ tt) (omega arith) (midpoint_of m) false (mid_value m L H)

    abbrev known : T (finite (mid_square_of m)) × (val (mid_square_of m) ≈ᶠ signedᶠ false A (2 ^ 150 * 2 ^ 150) fours_pos)
    known = value_is (mid_square_of m) false A (2 ^ 150 * 2 ^ 150) fours_pos mid_square

    fit : T (fits binary64 (mid_square_of m))
    fit = mul-fits binary64 (midpoint_of m) (midpoint_of m)

    mid_over : lt (mid_square_of m) v ≡ true → A < S * 4
    mid_over h =
        elim (split A (S * 4)) [
          | inl g ↦ g
          | inr g ↦
              absurd (lt_not_le (lt_val (mid_square_of m) v known.0 o.fine (holds h))
              (o.below (mid_square_of m) known.0 fit (le_cong (sym≈ is) (sym≈ known.1) (record { le = over one (2 ^ 150 * 2 ^ 150) refl g }))))
        ]
      where
        over : (O F : ℕ) → F ≡ 4 * O → S * 4 ≤ A → S * F + 0 * O ≤ A * O + 0 * F
        over O F e g = omega (arith, ap (λ (x : ℕ). S * x) e, mul-le-mul g (le_refl O))

    mid_under : lt v (mid_square_of m) ≡ true → S * 4 < A
    mid_under h =
        elim (split (S * 4) A) [
          | inl g ↦ g
          | inr g ↦
              absurd (lt_not_le (lt_val v (mid_square_of m) o.fine known.0 (holds h))
              (o.above (mid_square_of m) known.0 fit (le_cong (sym≈ known.1) (sym≈ is) (record { le = under_it one (2 ^ 150 * 2 ^ 150) refl g }))))
        ]
      where
        under_it : (O F : ℕ) → F ≡ 4 * O → A ≤ S * 4 → A * O + 0 * F ≤ S * F + 0 * O
        under_it O F e g = omega (arith, ap (λ (x : ℕ). S * x) e, mul-le-mul g (le_refl O))

  -- an f32 that was held by the check is the one nearest to the root of S
  pub held : {r : Float} → Between v r → RootOfSquares S r
  held {r} b =
      let p = b.pattern in
      let l = b.least in
      let h = b.most in
      let under = mid_over (2 * p - 1) (omega arith) (omega arith) b.over in
      let over = mid_under (2 * p + 1) (omega arith) (omega arith) b.under in
      subst (RootOfSquares S) (sym b.is) (checked S p l h under over)

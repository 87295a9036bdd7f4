-- What the proofs of `align`, `root_parts`, `root32`, `root64`, `sqrt` and `sqrt64` cite. Over the width.
-- Assumes nothing.
use mathlib.Core.Path.{◌≡◌, refl, sym, ap, ap₂, ◌∙◌, subst}
use mathlib.Core.Logic.{inl, inr}
use mathlib.Core.Bool.{Bool, true, false}
use Prim.Native.Nat.{ℕ, zero, suc, ◌+◌, ◌-◌, ◌*◌, ◌/◌, ◌%◌, ◌^◌, ◌≤◌, ◌<◌}
use native.Mathlib.Nat.{le_trans, le_of_eq, lt_of_lt_of_le, lt_of_le_of_lt, not-le_of_lt, mul_assoc, mul-pos, mul-div_cancel, mul-le-mul_right, zero-lt-suc}
use native.Mathlib.Nat.{eq_of_mul-eq-mul_right, pow-suc}
use native.Mathlib.Numerals.{add-one}
use native.Mathlib.Omega.{arith}
use borrow.Author.Tests.{ltb-true}
use lib.Dec.{T, lt→ltb, lit≤}
use lib.Count.{count_leading_zeros, leading_top}
use lib.Pow.{pow-add, pow_pos, pow_mono, shl_lt, shl_exact}
use lib.Ieee.{Float, nan, inf, fin, Format, prec, low, up, down, units, lt, eq}
use lib.Ieee.Exact.{HasValue}
use lib.Ieee.Positive.{num, den, positive, den_pos, first_pos, value_pos, own_value}
use Rattle.root_digits.specs.Root.{round_root}
use Rattle.roots.specs.Root.{sqrt_of}
use Rattle.float.specs.Parts.{Unpacked}
use Rattle.root_digits.specs.Digits.{RootDigits, rounded_half}
use Rattle.roots.specs.Digits.{AlignedBy, RootParts}
use Rattle.float.proofs.Pattern.{split}
use Rattle.float.proofs.Tests.{never, zero_f, zero_level, not_level, zero_below, is_inf}
use Rattle.root_digits.proofs.RootLoop.{double}
use Rattle.root_digits.proofs.RootExtend.{at_least}
use Rattle.root_digits.proofs.Roots.{root_by, with_rest}

-- ---- a root by x's parts

pub root_positive : (f : Format) (x : Float) → T (positive x) → sqrt_of f x ≡ round_root f (num x) (den x)
unfolding sqrt_of
root_positive f nan p = absurd p
root_positive f (inf s) p = absurd p
root_positive f (fin true m e) p = absurd p
root_positive f (fin false zero e) p = absurd p
root_positive f (fin false (suc m) e) p = refl

module _ {f : Format} {x : Float} {s : Bool} {d e : ℕ} (a : Unpacked f x s d e) (p : T (positive x)) where
  pub cross : num x * 2 ^ low f ≡ d * 2 ^ e * den x
  cross = go x a.value
    where
      go : (x : Float) → HasValue x s (d * 2 ^ e) (2 ^ low f) → num x * 2 ^ low f ≡ d * 2 ^ e * den x
      go nan v = absurd v
      go (inf t) v = absurd v
      go (fin t m g) v = v.1

  pub digits_pos : 0 < d
  digits_pos =
      let n : 0 < num x = value_pos x (num x) (den x) p (den_pos x) (own_value x p) in
      first_pos d (2 ^ e) (first_pos (d * 2 ^ e) (den x) (subst (λ (z : ℕ). 0 < z) cross (mul-pos n (pow_pos (low f)))))

  root_at : (k r t : ℕ) → d * 2 ^ e * 2 ^ low f * 4 ≡ (r * r + t) * (2 ^ k * 2 ^ k) → t ≤ 2 * r → 2 ^ prec f ≤ r → r < 2 ^ suc (prec f)
      → units f false (rounded_half r t) k ≡ sqrt_of f x
  root_at k r t exact rest lo hi =
      let u = mul-pos (den_pos x) (mul-pos (pow_pos k) (pow_pos k)) in
      sym (root_positive f x p ∙ root_by f (num x) (den x) k r t (den_pos x) (with_rest (num x * (2 ^ low f * 2 ^ low f)) (den x * (2 ^ k * 2 ^ k)) r t u same rest) (inr lo) hi)
    where
      same : num x * (2 ^ low f * 2 ^ low f) * 4 ≡ (r * r + t) * (den x * (2 ^ k * 2 ^ k))
      same = omega (arith, ap (λ (z : ℕ). z * 2 ^ low f) cross, ap (λ (z : ℕ). z * den x) exact)

  -- what `root32` and `root64` return
  pub root_of : {bias q k : ℕ} → bias + 2 * prec f ≡ low f + 64 → RootParts d e (prec f) bias q k → units f false q k ≡ sqrt_of f x
  root_of {bias} {q} {k} b o =
      let short : o.root < 2 ^ suc (prec f) = subst (λ (z : ℕ). o.root < 2 ^ z) (add-one (prec f)) o.short in
      ap (λ (z : ℕ). units f false z k) o.kept
      ∙ root_at k o.root o.rest (exact (o.root * o.root + o.rest) o.square) o.left o.high short
    where
      exact : (w : ℕ) → w * 2 ^ 64 * (2 ^ k * 2 ^ k) ≡ d * 2 ^ (e + bias + 2 * prec f + 2) → d * 2 ^ e * 2 ^ low f * 4 ≡ w * (2 ^ k * 2 ^ k)
      exact w h =
          let j : e + bias + 2 * prec f + 2 ≡ e + low f + 66 = omega arith in
          let g = ap (λ (z : ℕ). d * z) (ap (λ (z : ℕ). 2 ^ z) j ∙ pow-add 2 (e + low f) 66 ∙ ap (λ (z : ℕ). z * 2 ^ 66) (pow-add 2 e (low f))) in
          eq_of_mul-eq-mul_right (2 ^ 64) (pow_pos 64) (d * 2 ^ e * 2 ^ low f * 4) (w * (2 ^ k * 2 ^ k)) (omega arith)

-- ---- `align`

module _ (d e : ℕ) (P : 0 < d) (l : d < 2 ^ 60) where
  abbrev zeros : ℕ
  zeros = count_leading_zeros 64 d

  wide : d < 2 ^ 64
  wide = lt_of_lt_of_le l (lit≤ tt)

  -- d's highest digit stands at the place j
  abbrev top_digit : (j : ℕ) × (zeros + suc j ≡ 64) × (2 ^ j ≤ d) × (d < 2 ^ suc j)
  top_digit = leading_top 64 d P wide

  pub zeros_some : (3 < zeros) × (zeros < 64)
  zeros_some =
      let t = top_digit in
      let s = t.1 in
      let j : t.0 < 60 = below_top t.0 (lt_of_le_of_lt t.2 l) in
      (omega arith, omega arith)
    where
      below_top : (j : ℕ) → 2 ^ j < 2 ^ 60 → j < 60
      below_top j h =
          elim (split j 60) [
            | inl a ↦ a
            | inr b ↦ absurd (not-le_of_lt h (pow_mono b))
          ]

  abbrev shift : ℕ
  shift = zeros - (e + zeros) % 2

  pub aligned : AlignedBy d e (d * 2 ^ shift % 2 ^ 64) shift
  aligned =
      let t = top_digit in
      let s = t.1 in
      let z = zeros_some in
      let fit : suc t.0 + shift ≤ 64 = omega arith in
      let m : d * 2 ^ shift % 2 ^ 64 ≡ d * 2 ^ shift = shl_exact (suc t.0) shift 64 t.3 fit in
      let far : 62 ≤ t.0 + shift = omega arith in
      record {
        moved = m;
        high = rw m (le_trans (pow_mono far) (le_trans (le_of_eq (pow-add 2 t.0 shift)) (mul-le-mul_right (2 ^ shift) t.2)));
        fits = rw m (lt_of_lt_of_le (shl_lt (suc t.0) shift t.3) (pow_mono fit));
        even = omega arith;
        under = omega arith;
      }

-- ---- `root_parts`: a has 63 or 64 digits, and no pair that is not zero is cut off

four_is : (n : ℕ) → 4 ^ n ≡ 2 ^ n * 2 ^ n
four_is zero = refl
four_is (suc n) = pow-suc 4 n ∙ ap (λ (z : ℕ). z * 4) (four_is n) ∙ regroup (2 ^ n) ∙ sym (ap (λ (z : ℕ). z * z) (pow-suc 2 n))
  where
    regroup : (a : ℕ) → a * a * 4 ≡ a * 2 * (a * 2)
    regroup a = omega arith

powers : (y k : ℕ) → 2 ^ y * (2 ^ k * 2 ^ k) ≡ 2 ^ (y + (k + k))
powers y k = ap (λ (z : ℕ). 2 ^ y * z) (sym (pow-add 2 k k)) ∙ sym (pow-add 2 y (k + k))

module _ (e p bias : ℕ) {d a y r t : ℕ} (al : AlignedBy d (e + bias) a y) (ro : RootDigits a (p + 1) r t) (small : d < 2 ^ p) where
  far : 64 ≤ y + 2 * (p + 1)
  far =
      elim (split (p + y) 63) [
        | inl h ↦ absurd (not-le_of_lt (lt_of_lt_of_le (shl_lt p y small) (few h)) (le_trans al.high (le_of_eq al.moved)))
        | inr h ↦ omega arith
      ]
    where
      few : p + y < 63 → 2 ^ (p + y) ≤ 2 ^ 62
      few h = let l : p + y ≤ 62 = omega arith in pow_mono l

  abbrev h : ℕ
  h = 2 ^ p

  pairs : a * 4 ^ (p + 1) ≡ a * (4 * (h * h))
  pairs = let q = double p in ap (λ (z : ℕ). a * z) (four_is (p + 1) ∙ ap (λ (z : ℕ). z * z) q ∙ omega arith)

  -- a's pairs, in all
  abbrev z : ℕ
  z = y + 2 * (p + 1)

  in_pairs : a * 4 ^ (p + 1) ≡ d * 2 ^ z
  in_pairs =
      let i : y + (p + 1 + (p + 1)) ≡ z = omega arith in
      ap₂ (λ (a b : ℕ). a * b) al.moved (four_is (p + 1))
      ∙ mul_assoc d (2 ^ y) (2 ^ (p + 1) * 2 ^ (p + 1))
      ∙ ap (λ (x : ℕ). d * x) (powers y (p + 1) ∙ ap (λ (x : ℕ). 2 ^ x) i)

  all_pairs : (r * r + t) * 2 ^ 64 ≡ d * 2 ^ z
  all_pairs =
      let f = far in
      let j : z ≡ z - 64 + 64 = omega arith in
      let w = d * 2 ^ (z - 64) in
      let m : d * 2 ^ z ≡ w * 2 ^ 64 = ap (λ (x : ℕ). d * 2 ^ x) j ∙ ap (λ (x : ℕ). d * x) (pow-add 2 (z - 64) 64) ∙ sym (mul_assoc d (2 ^ (z - 64)) (2 ^ 64)) in
      ap (λ (x : ℕ). x * 2 ^ 64) (ro.square ∙ ap (λ (x : ℕ). x / 2 ^ 64) (in_pairs ∙ m) ∙ mul-div_cancel w (pow_pos 64)) ∙ sym m

  full_root : 2 ^ p ≤ r
  full_root =
      let q = ro.square in
      let s = pairs in
      let g = mul-le-mul_right (h * h) al.high in
      at_least r t (r * r + t) refl ro.left (2 ^ p) (omega arith)

  pub root_parts : 64 ≤ bias → e < 2 ^ 11 → bias < 2 ^ 11 → RootParts d e p bias (rounded_half r t) ((e + bias - y) / 2)
  root_parts B E F =
      let k = (e + bias - y) / 2 in
      let u = al.under in
      let v = al.even in
      let j : z + (k + k) ≡ e + bias + 2 * p + 2 = omega arith in
      record {
        root = r;
        rest = t;
        kept = refl;
        square =
            ap (λ (x : ℕ). x * (2 ^ k * 2 ^ k)) all_pairs
            ∙ mul_assoc d (2 ^ z) (2 ^ k * 2 ^ k)
            ∙ ap (λ (x : ℕ). d * x) (powers z k ∙ ap (λ (x : ℕ). 2 ^ x) j);
        left = ro.left;
        high = full_root;
        short = ro.short;
        exponent = omega arith;
      }

-- ---- the values that have no root to find

pub at_top : (f : Format) (x : Float) → eq x (inf false) ≡ true → x ≡ sqrt_of f x
unfolding sqrt_of
at_top f x h = rw (is_inf false x h)

pub above : (x : Float) → lt zero_f x ≡ true → eq x (inf false) ≡ false → T (positive x)
unfolding lt eq
above nan h k = never h
above (inf false) h k = never (sym k)
above (inf true) h k = never h
above (fin true m e) h k = never h
above (fin false zero e) h k = let l : 0 * 1 * down e < 0 * up e * 1 = ltb-true _ _ h in absurd (omega arith)
above (fin false (suc m) e) h k = lt→ltb 0 (suc m) (zero-lt-suc m)

pub at_zero : (f : Format) (x : Float) → eq x zero_f ≡ true → x ≡ sqrt_of f x
unfolding eq sqrt_of
at_zero f nan h = never h
at_zero f (inf s) h = never h
at_zero f (fin s zero e) h = refl
at_zero f (fin s (suc m) e) h = not_level s m e h

pub no_root : (f : Format) (x : Float) → lt zero_f x ≡ false → eq x zero_f ≡ false → nan ≡ sqrt_of f x
unfolding lt sqrt_of
no_root f nan h k = refl
no_root f (inf true) h k = refl
no_root f (inf false) h k = never (sym h)
no_root f (fin s zero e) h k = never (sym k ∙ zero_level s e)
no_root f (fin true (suc m) e) h k = refl
no_root f (fin false (suc m) e) h k = never (sym h ∙ zero_below m e)

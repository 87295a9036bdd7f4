-- The exact sum of two squares in whole numbers, and its root by the digits of a part of it. Assumes nothing.
use mathlib.Core.Path.{◌≡◌, refl, sym, ap, ap₂, ◌∙◌, subst}
use mathlib.Core.Logic.{◌⊎◌, inl, inr}
use mathlib.Core.Bool.{false}
use Prim.Native.Nat.{ℕ, ◌+◌, ◌-◌, ◌*◌, ◌/◌, ◌%◌, ◌^◌, ◌≤◌, ◌<◌, min}
use native.Mathlib.Nat.{le_trans, le_of_eq, lt_of_lt_of_le, lt_of_le_of_lt, mul-le-mul, mul-le-mul_right, mul-lt-mul_of_pos_right, mul-pos, mod-lt, div-add-mod}
use native.Mathlib.Nat.{mul_assoc, pow-suc, div-eq_of_lt, div-le_self, mod-le, mod-one, add-zero}
use native.Mathlib.Numerals.{add-one}
use native.Mathlib.Omega.{arith}
use lib.Pow.{pow-add, pow_pos, pow_mono}
use lib.Ieee.{Float, binary32, units}
use Rattle.float.proofs.Pattern.{split}
use Rattle.float.proofs.Shift.{one_shl}
use Rattle.root_digits.specs.Digits.{RootDigits, rounded_half, HalfSteps}
use Rattle.root_digits.proofs.Roots.{root_lt, root_by}
use Rattle.root_digits.proofs.RootExtend.{at_least}
use Rattle.square_sums.specs.Squares.{square, RootOfSquares, InSquares, RootOfSum}

-- ---- from half steps to `round_root`

-- the sum over a denominator
over : {S w r t : ℕ} (n d : ℕ) → 0 < d → n ≡ S * d → HalfSteps S w r t → HalfSteps n (d * w) r t
over {S} {w} {r} {t} n d D e o = record {
  from = up_to (r * r) o.from;
  below = past ((r + 1) * (r + 1)) o.below;
  exact = λ z. is (r * r) (o.exact z);
  inexact = λ p. less (r * r) (o.inexact p);
}
  where
    up_to : (a : ℕ) → a * w ≤ S * 4 → a * (d * w) ≤ n * 4
    up_to a h = omega (arith, e, mul-le-mul_right d h)

    past : (a : ℕ) → S * 4 < a * w → n * 4 < a * (d * w)
    past a h = omega (arith, e, mul-lt-mul_of_pos_right h D)

    is : (a : ℕ) → S * 4 ≡ a * w → n * 4 ≡ a * (d * w)
    is a h = omega (arith, e, ap (λ (x : ℕ). x * d) h)

    less : (a : ℕ) → a * w < S * 4 → a * (d * w) < n * 4
    less a h = omega (arith, e, mul-lt-mul_of_pos_right h D)

-- r half steps of 2 ^ k units, one digit more than an f32 keeps
pub rooted : {S r t k : ℕ} → HalfSteps S (2 ^ k * 2 ^ k) r t → (k ≡ 0) ⊎ (2 ^ 24 ≤ r) → r < 2 ^ 25 → RootOfSquares S (units binary32 false (rounded_half r t) k)
unfolding RootOfSquares
rooted {S} {r} {t} {k} o full short num den D e = sym (root_by binary32 num den k r t D (over (num * (2 ^ 149 * 2 ^ 149)) den D e o) full short)

-- ---- the digits of the squares that are counted

abbrev W : ℕ → ℕ
W k = 2 ^ k * 2 ^ k

W-pos : (k : ℕ) → 0 < W k
W-pos k = mul-pos (pow_pos k) (pow_pos k)

-- their whole root is that of all of four times S
half_steps : {S sum more k r rest : ℕ} → InSquares S sum more k → r * r + rest ≡ sum → rest ≤ 2 * r → HalfSteps S (W k) r (rest + more)
half_steps {S} {sum} {more} {k} {r} {rest} o q left =
    let h : r * r ≤ sum = omega arith in
    let n : sum + 1 ≤ (r + 1) * (r + 1) = omega arith in
    record {
      from = le_trans (mul-le-mul_right (W k) h) o.from;
      below = lt_of_lt_of_le o.below (mul-le-mul_right (W k) n);
      exact = λ t. o.exact (omega arith) ∙ ap (λ (x : ℕ). x * W k) (whole t);
      inexact = λ t. elim (split 0 rest) [
        | inl g ↦ lt_of_lt_of_le (mul-lt-mul_of_pos_right (part g) (W-pos k)) o.from
        | inr g ↦ lt_of_le_of_lt (mul-le-mul_right (W k) h) (o.inexact (omega arith))
      ];
    }
  where
    whole : rest + more ≡ 0 → sum ≡ r * r
    whole t = omega arith

    part : 0 < rest → r * r < sum
    part g = omega arith

-- counted in squares of 2 ^ (k + 1)
four : (k : ℕ) → W (k + 1) ≡ 4 * W k
four k = ap (λ (x : ℕ). x * x) (ap (λ (x : ℕ). 2 ^ x) (add-one k) ∙ pow-suc 2 k) ∙ omega arith

pub in_fours : {S sum more k : ℕ} → InSquares S sum more k → InSquares S (sum / 4) (sum % 4 + more) (k + 1)
in_fours {S} {sum} {more} {k} o = record {
  from = le_trans (le_of_eq (at (sum / 4))) (le_trans (mul-le-mul_right (W k) few) o.from);
  below = lt_of_lt_of_le o.below (le_trans (mul-le-mul_right (W k) many) (le_of_eq (sym (at (sum / 4 + 1)))));
  exact = λ t. o.exact (omega arith) ∙ ap (λ (x : ℕ). x * W k) (whole t) ∙ sym (at (sum / 4));
  inexact = λ t. elim (split 0 (sum % 4)) [
    | inl g ↦ lt_of_le_of_lt (le_of_eq (at (sum / 4))) (lt_of_lt_of_le (mul-lt-mul_of_pos_right (part g) (W-pos k)) o.from)
    | inr g ↦ lt_of_le_of_lt (le_of_eq (at (sum / 4))) (lt_of_le_of_lt (mul-le-mul_right (W k) few) (o.inexact (omega arith)))
  ];
}
  where
    at : (n : ℕ) → n * W (k + 1) ≡ n * 4 * W k
    at n = ap (λ (x : ℕ). n * x) (four k) ∙ sym (mul_assoc n 4 (W k))

    few : sum / 4 * 4 ≤ sum
    few = omega arith

    many : sum + 1 ≤ (sum / 4 + 1) * 4
    many = omega arith

    whole : sum % 4 + more ≡ 0 → sum ≡ sum / 4 * 4
    whole t = omega arith

    part : 0 < sum % 4 → sum / 4 * 4 < sum
    part g = omega arith

-- ---- the two squares, the smaller one in parts of the larger one's

module _ {e b f two : ℕ} (F : f ≤ e) (B : b < 2 ^ 24) (is : two ≡ min (2 * (e - f)) 50) where
  abbrev part : ℕ
  part = 4 * b * b

  part_small : part < 2 ^ 50
  part_small = let h : b ≤ 2 ^ 24 - 1 = omega arith in let k = mul-le-mul h h in omega arith

  -- 2 ^ two parts of 4 ^ f are 4 ^ e, or fewer
  within : 2 ^ two * (2 ^ f * 2 ^ f) ≤ 2 ^ e * 2 ^ e
  within =
      let l : two + (f + f) ≤ e + e = omega arith in
      le_trans (le_of_eq (ap (λ (x : ℕ). 2 ^ two * x) (sym (pow-add 2 f f)) ∙ sym (pow-add 2 two (f + f)))) (le_trans (pow_mono l) (le_of_eq (pow-add 2 e e)))

  -- what is lost is less than one square of 2 ^ e
  lost_less : part % 2 ^ two * (2 ^ f * 2 ^ f) < 2 ^ e * 2 ^ e
  lost_less = lt_of_lt_of_le (mul-lt-mul_of_pos_right (mod-lt part (pow_pos two)) (mul-pos (pow_pos f) (pow_pos f))) within

  -- the part, in squares of 2 ^ e and what is lost
  in_squares : part * (2 ^ f * 2 ^ f) ≡ part / 2 ^ two * (2 ^ e * 2 ^ e) + part % 2 ^ two * (2 ^ f * 2 ^ f)
  in_squares =
      let d = div-add-mod part (2 ^ two) in
      let g = 2 ^ f * 2 ^ f in
      elim (split 50 (2 * (e - f))) [
        | inl h ↦
            let i : two ≡ 50 = omega arith in
            let p = part_small in
            let s : part < 2 ^ two = subst (λ (x : ℕ). part < 2 ^ x) (sym i) p in
            let q : part / 2 ^ two ≡ 0 = none (2 ^ two) s in
            let r : part % 2 ^ two ≡ part = sym (ap (λ (x : ℕ). 2 ^ two * x + part % 2 ^ two) q ∙ omega arith) ∙ d in
            sym (ap₂ (λ (x y : ℕ). x * (2 ^ e * 2 ^ e) + y * g) q r ∙ omega arith)
        | inr h ↦
            let i : two + (f + f) ≡ e + e = omega arith in
            let w : 2 ^ two * g ≡ 2 ^ e * 2 ^ e = ap (λ (x : ℕ). 2 ^ two * x) (sym (pow-add 2 f f)) ∙ sym (pow-add 2 two (f + f)) ∙ ap (λ (x : ℕ). 2 ^ x) i ∙ pow-add 2 e e in
            spread (2 ^ two) (part / 2 ^ two) (part % 2 ^ two) g (2 ^ e * 2 ^ e) d w
      ]
    where
      none : (m : ℕ) → part < m → part / m ≡ 0
      none m h = div-eq_of_lt h

      spread : (m q r g w : ℕ) → m * q + r ≡ part → m * g ≡ w → part * g ≡ q * w + r * g
      spread m q r g w d e = omega (arith, ap (λ (x : ℕ). x * g) d, ap (λ (x : ℕ). q * x) e)

  pub unit_is : 1 * 2 ^ two % 2 ^ 64 ≡ 2 ^ two
  unit_is = one_shl two (omega arith)

  pub lost_small : part % 2 ^ two < 2 ^ 50
  lost_small = lt_of_le_of_lt (mod-le part (2 ^ two)) part_small

  module _ (a : ℕ) where
    abbrev sum : ℕ
    sum = 4 * a * a + part / 2 ^ two

    sum_is : (square a e + square b f) * 4 ≡ sum * (2 ^ e * 2 ^ e) + part % 2 ^ two * (2 ^ f * 2 ^ f)
    sum_is = go (2 ^ e) (2 ^ f) (part / 2 ^ two) (part % 2 ^ two) in_squares
      where
        go : (E F q r : ℕ) → 4 * b * b * (F * F) ≡ q * (E * E) + r * (F * F)
            → (a * E * (a * E) + b * F * (b * F)) * 4 ≡ (4 * a * a + q) * (E * E) + r * (F * F)
        go E F q r h = omega arith

    pub sum_small : a < 2 ^ 24 → sum < 2 ^ 51
    sum_small A =
        let h : a ≤ 2 ^ 24 - 1 = omega arith in
        let k = mul-le-mul h h in
        let p = part_small in
        let q : part / 2 ^ two ≤ part = div-le_self part (2 ^ two) in
        omega arith

    pub full_sum : (e ≡ 0) ⊎ (2 ^ 23 ≤ a) → (2 ^ 48 ≤ sum) ⊎ ((e ≡ 0) × (part % 2 ^ two ≡ 0))
    full_sum (inl z) =
        let t : two ≡ 0 = omega arith in
        inr (z, ap (λ (x : ℕ). part % 2 ^ x) t ∙ mod-one part)
    full_sum (inr h) = let k = mul-le-mul h h in inl (omega arith)

    counted : InSquares (square a e + square b f) sum (part % 2 ^ two) e
    counted =
        let g = parts (square a e + square b f) sum (part % 2 ^ two) (2 ^ f * 2 ^ f) (W e) (mul-pos (pow_pos f) (pow_pos f)) sum_is lost_less in
        record { from = g.0; below = g.1; exact = g.2; inexact = g.3 }
      where
        parts : (S n l z w : ℕ) → 0 < z → S * 4 ≡ n * w + l * z → l * z < w
            → (n * w ≤ S * 4) × (S * 4 < (n + 1) * w) × (l ≡ 0 → S * 4 ≡ n * w) × (0 < l → n * w < S * 4)
        parts S n l z w Z is less = (
          omega arith,
          omega arith,
          λ e. is ∙ ap (λ (x : ℕ). n * w + x * z) e ∙ omega arith,
          λ p. omega (arith, mul-pos p Z),
        )

    -- what `joined` returns
    pub joined_is : (r : Float) → RootOfSum sum (part % 2 ^ two) e r → RootOfSquares (square a e + square b f) r
    unfolding RootOfSum
    joined_is r h = h (square a e + square b f) counted

-- ---- `root_of_sum`

pub few_digits : {sum more e r rest : ℕ} → sum < 2 ^ 48 → (2 ^ 48 ≤ sum) ⊎ ((e ≡ 0) × (more ≡ 0)) → RootDigits (sum * 0x1000) 26 r rest
    → (r < 2 ^ 25) × RootOfSum sum more e (units binary32 false (rounded_half r rest) 0)
unfolding RootOfSum
few_digits h (inl g) d = absurd (omega arith)
few_digits {sum} {more} {e} {r} {rest} h (inr g) d =
    let s : r * r + rest ≡ sum = (let s = d.square in omega arith) in
    let l : r < 2 ^ 24 = root_lt r (2 ^ 24) (omega arith) in
    let short : r < 2 ^ 25 = omega arith in (
      short,
      λ S o.
          let t : HalfSteps S (W 0) r (rest + 0) = half_steps (subst (λ (x : ℕ). InSquares S sum x 0) g.1 (subst (InSquares S sum more) g.0 o)) s d.left in
          rooted (subst (HalfSteps S (W 0) r) (add-zero rest) t) (inl refl) short,
    )

-- ---- `rounded`

pub full_root : {sum r rest : ℕ} → 2 ^ 48 ≤ sum → RootDigits (sum * 0x4000) 25 r rest → (2 ^ 24 ≤ r) × (r * r + rest ≡ sum)
full_root {sum} {r} {rest} h d =
    let s : r * r + rest ≡ sum = (let s = d.square in omega arith) in
    (at_least r rest sum s d.left (2 ^ 24) (omega arith), s)

pub all_digits : {sum r rest : ℕ} (more k : ℕ) → 2 ^ 48 ≤ sum → RootDigits (sum * 0x4000) 25 r rest
    → RootOfSum sum more k (units binary32 false (rounded_half r (rest + more)) k)
unfolding RootOfSum
all_digits more k h d S o = let l = full_root h d in rooted (half_steps o l.1 d.left) (inr l.0) d.short

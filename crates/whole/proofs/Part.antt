-- The whole part of a number from 1 to below 2 ^ 23 is its digits above the point. Assumes nothing.
use mathlib.Core.Path.{◌≡◌, refl, sym, ap, ◌∙◌, subst}
use mathlib.Core.Logic.{◌⊎◌, inl, inr}
use mathlib.Core.Bool.{Bool, true, false, false≢true}
use Prim.Native.Nat.{ℕ, ◌+◌, ◌-◌, ◌*◌, ◌/◌, ◌^◌, ◌≤◌, ◌<◌, min}
use native.Mathlib.Nat.{le-div_iff_mul-le, div-eq_of_lt, lt_of_lt_of_le, mul-le-mul, mul_assoc}
use native.Mathlib.Omega.{arith}
use native.Mathlib.Decide.{dec_lt}
use lib.Dec.{T, eqb}
use lib.IntN.{ℤ, pos}
use lib.Pow.{pow-add, pow_pos, pow_mono, shl_lt}
use lib.Ieee.{Float, nan, inf, fin, up, down, lt, le, eq, of_bits, to_unsigned}
use lib.Ieee.Exact.{HasValue}
use lib.Ieee.Fits.{down_pos}
use lib.Ieee.Nearest.{div_same}
use lib.Ieee.Scale.{finite}
use lib.Ieee.Casts.{to_unsigned-lt}
use borrow.Author.Tests.{eqb-true, lt-ltb}
use Rattle.float.specs.Ops.{f1}
use Rattle.whole.proofs.Cast.{tall, low, second}

-- ---- the exponent, where q is the whole part of d * 2 ^ e / 2 ^ 149

positive : (e : ℕ) → 149 ≤ e → e ≡ 0 → ⊥
positive e h z = omega arith

reached : (q a : ℕ) → q < a → a ≤ q → ⊥
reached q a h g = omega arith

module _ (d e q : ℕ) (small : d < 2 ^ 24) (full : (e ≡ 0) ⊎ (2 ^ 23 ≤ d)) (is : q ≡ d * 2 ^ e / 2 ^ 149) (some : 1 ≤ q) (few : q < 2 ^ 23) where
  pub exponent_low : 86 ≤ e
  exponent_low = go (dec_lt e 86)
    where
      none : e < 86 → q ≡ 0
      none h = is ∙ div-eq_of_lt (lt_of_lt_of_le (shl_lt 24 e small) (pow_mono (fits h)))
        where
          fits : e < 86 → 24 + e ≤ 149
          fits h = omega arith

      go : Dec (e < 86) → 86 ≤ e
      go (yes h) = absurd (reached 0 1 (omega arith) (subst (λ (n : ℕ). 1 ≤ n) (none h) some))
      go (no h) = omega arith

  pub exponent_high : e < 149
  exponent_high = go (dec_lt e 149)
    where
      big : (e ≡ 0) ⊎ (2 ^ 23 ≤ d) → 149 ≤ e → 2 ^ 23 ≤ q
      big (inl z) h = absurd (positive e h z)
      big (inr l) h = subst (λ (n : ℕ). 2 ^ 23 ≤ n) (sym is) ((le-div_iff_mul-le (pow_pos 149)).1 (mul-le-mul l (pow_mono h)))

      past : (149 ≤ e) → ⊥
      past h = reached q (2 ^ 23) few (big full h)

      go : Dec (e < 149) → e < 149
      go (yes h) = h
      go (no h) = absurd (past (at_least e h))
        where
          at_least : (e : ℕ) → (e < 149 → ⊥) → 149 ≤ e
          at_least e h = omega arith

  pub part_digits : e < 149 → d / 2 ^ (149 - e) ≡ q
  part_digits h = div_same d (2 ^ (149 - e)) (d * 2 ^ e) (2 ^ 149) (pow_pos (149 - e)) (pow_pos 149) scaled ∙ sym is
    where
      sum : e + (149 - e) ≡ 149
      sum = omega arith

      scaled : d * 2 ^ 149 ≡ d * 2 ^ e * 2 ^ (149 - e)
      scaled = sym (mul_assoc d (2 ^ e) (2 ^ (149 - e)) ∙ ap (λ (n : ℕ). d * n) (sym (pow-add 2 e (149 - e)) ∙ ap (λ (n : ℕ). 2 ^ n) sum))

-- ---- the number

held : (q : ℕ) → min q (2 ^ 64 - 1) < 2 ^ 23 → min q (2 ^ 64 - 1) ≡ q
held q h = omega arith

not_top : 2 ^ 64 - 1 < 2 ^ 23 → ⊥
not_top h = omega arith

pub part_finite : (x : Float) → le f1 x ≡ true → to_unsigned 64 x < 2 ^ 23 → T (finite x)
unfolding le lt eq of_bits to_unsigned
part_finite nan h l = absurd (false≢true h)
part_finite (inf true) h l = absurd (false≢true h)
part_finite (inf false) h l = absurd (not_top l)
part_finite (fin s m g) h l = tt

no_negative : (m : ℕ) (g : ℤ) → le f1 (fin true m g) ≡ true → ⊥
unfolding le lt eq of_bits
no_negative m g h = none (1 * 1 * down g) (down_pos g) (omega arith) (eqb-true (1 * 1 * down g) 0 (second (eqb (1 * 1 * down g) (m * up g * 1)) (eqb (1 * 1 * down g) 0) h))
  where
    none : (a : ℕ) → 0 < down g → a ≡ down g → a ≡ 0 → ⊥
    none a p e z = omega arith

pub part_some : (x : Float) → le f1 x ≡ true → to_unsigned 64 x < 2 ^ 23 → 1 ≤ to_unsigned 64 x
unfolding le lt eq of_bits to_unsigned
part_some nan h l = absurd (false≢true h)
part_some (inf true) h l = absurd (false≢true h)
part_some (inf false) h l = absurd (not_top l)
part_some (fin true m g) h l = absurd (no_negative m g h)
part_some (fin false m g) h l = subst (λ (n : ℕ). 1 ≤ n) (sym (held (m * up g / down g) l)) (tall 0 m g h)

pub part_whole : (x : Float) (s : Bool) (a : ℕ) → HasValue x s a (2 ^ 149) → le f1 x ≡ true → to_unsigned 64 x < 2 ^ 23 → to_unsigned 64 x ≡ a / 2 ^ 149
unfolding to_unsigned
part_whole nan s a v h l = absurd v
part_whole (inf t) s a v h l = absurd v
part_whole (fin true m g) s a v h l = absurd (no_negative m g h)
part_whole (fin false m g) s a v h l = held (m * up g / down g) l ∙ div_same (m * up g) (down g) a (2 ^ 149) (down_pos g) (pow_pos 149) v.1

-- ---- a number below 1, and one from 1 on, for the casts

pub above_one : (x : Float) → le f1 x ≡ true → lt (fin true 1 (pos 0)) x ≡ true
unfolding le lt eq of_bits
above_one nan h = absurd (false≢true h)
above_one (inf true) h = absurd (false≢true h)
above_one (inf false) h = refl
above_one (fin true m g) h = absurd (no_negative m g h)
above_one (fin false m g) h = let d = down_pos g in lt-ltb 0 (1 * 1 * down g + m * up g * 1) (omega arith)

pub below_one : (w : ℕ) (x : Float) → le f1 x ≡ false → 0 ≡ to_unsigned w x
unfolding le lt eq of_bits to_unsigned
below_one w nan h = refl
below_one w (inf true) h = refl
below_one w (inf false) h = absurd (false≢true (sym h))
below_one w (fin true m g) h = refl
below_one w (fin false m g) h = let q = low 0 m g h in omega arith

pub part_few : (w : ℕ) (x : Float) → w ≤ 23 → to_unsigned 64 x ≡ to_unsigned w x → to_unsigned 64 x < 2 ^ 23
part_few w x h e = subst (λ (n : ℕ). n < 2 ^ 23) (sym e) (lt_of_lt_of_le (to_unsigned-lt w x) (pow_mono h))

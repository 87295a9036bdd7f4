-- A float cut to an unsigned number of w bits, by its test against 2 ^ w. For any width. Assumes nothing.
use mathlib.Core.Path.{◌≡◌, refl, sym, ◌∙◌}
use mathlib.Core.Bool.{Bool, true, false, ◌||◌, ◌&&◌, true≢false, false≢true}
use Prim.Native.Nat.{ℕ, ◌*◌, ◌-◌, ◌/◌, ◌^◌, ◌<◌, ◌≤◌, min}
use native.Mathlib.Nat.{le_of_lt, le_trans, le-div_iff_mul-le, div-lt_iff_lt-mul, min-eq_left, min-eq_right, zero-min, mul-one, one-mul, mul-pos, lt_of_lt_of_le}
use native.Mathlib.Omega.{arith}
use lib.IntN.{ℤ, pos}
use lib.Dec.{ltb, eqb}
use lib.Pow.{pow_pos, pow_mono, ones_lt, le_ones}
use lib.Ieee.{Float, nan, inf, fin, lt, le, eq, up, down, to_unsigned}
use lib.Ieee.Fits.{down_pos}
use borrow.Author.Tests.{ltb-true, ltb-false, eqb-true, eqb-false}

reached : (t u : Bool) (a b : ℕ) → ltb a b ≡ t → eqb a b ≡ u → (t || (u && true)) ≡ true → a ≤ b
reached true u a b p q h = le_of_lt (ltb-true a b p)
reached false true a b p q h = let e = eqb-true a b q in omega arith
reached false false a b p q h = absurd (false≢true h)

short : (t u : Bool) (a b : ℕ) → ltb a b ≡ t → eqb a b ≡ u → (t || (u && true)) ≡ false → b < a
short true u a b p q h = absurd (true≢false h)
short false true a b p q h = absurd (true≢false h)
short false false a b p q h = let l = ltb-false a b p in let n = eqb-false a b q in omega arith

pub second : (u v : Bool) → (u && v) ≡ true → v ≡ true
second true v h = h
second false v h = absurd (false≢true h)

module _ (w : ℕ) where
  -- 2 ^ w, and what a finite magnitude is to it
  abbrev pub top : Float
  top = fin false 1 (pos w)

  pub tall : (m : ℕ) (e : ℤ) → le top (fin false m e) ≡ true → 2 ^ w ≤ m * up e / down e
  unfolding le lt eq
  tall m e h = (le-div_iff_mul-le (down_pos e)).1 (simp (one-mul, mul-one) at (reached _ _ (1 * 2 ^ w * down e) (m * up e * 1) refl refl h))

  pub low : (m : ℕ) (e : ℤ) → le top (fin false m e) ≡ false → m * up e / down e < 2 ^ w
  unfolding le lt eq
  low m e h = (div-lt_iff_lt-mul (down_pos e)).1 (simp (one-mul, mul-one) at (short _ _ (1 * 2 ^ w * down e) (m * up e * 1) refl refl h))

  pub cut_top : (x : Float) → le top x ≡ true → 2 ^ w - 1 ≡ to_unsigned w x
  unfolding le lt eq to_unsigned
  cut_top nan h = absurd (false≢true h)
  cut_top (inf true) h = absurd (false≢true h)
  cut_top (inf false) h = refl
  cut_top (fin true m e) h =
      let z = eqb-true (1 * 2 ^ w * down e) 0 (second (eqb (1 * 2 ^ w * down e) (m * up e * 1)) _ h) in
      let p : 0 < 1 * 2 ^ w * down e = simp one-mul (mul-pos (pow_pos w) (down_pos e)) in
      absurd (omega arith)
  cut_top (fin false m e) h = sym (min-eq_right (le_trans (le_of_lt (ones_lt w)) (tall m e h)))

  pub cut_mid : (x : Float) → w ≤ 64 → le top x ≡ false → lt (fin true 1 (pos 0)) x ≡ true → to_unsigned 64 x ≡ to_unsigned w x
  unfolding le lt eq to_unsigned
  cut_mid nan n h g = refl
  cut_mid (inf true) n h g = refl
  cut_mid (inf false) n h g = absurd (true≢false h)
  cut_mid (fin true m e) n h g = refl
  cut_mid (fin false m e) n h g =
      let q = low m e h in
      min-eq_left (le_ones 64 (lt_of_lt_of_le q (pow_mono n))) ∙ sym (min-eq_left (le_ones w q))

-- a number of fewer bits is one of more, held down
pub cut_narrower : (v w : ℕ) (x : Float) → v ≤ w → min (to_unsigned w x) (2 ^ v - 1) ≡ to_unsigned v x
unfolding to_unsigned
cut_narrower v w nan h = zero-min (2 ^ v - 1)
cut_narrower v w (inf true) h = zero-min (2 ^ v - 1)
cut_narrower v w (inf false) h = let p : 2 ^ v ≤ 2 ^ w = pow_mono h in omega arith
cut_narrower v w (fin true m e) h = zero-min (2 ^ v - 1)
cut_narrower v w (fin false m e) h = let p : 2 ^ v ≤ 2 ^ w = pow_mono h in omega arith

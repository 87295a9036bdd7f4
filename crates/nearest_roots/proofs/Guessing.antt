-- What the proofs of `guess`, `midpoint`, `checked_root`, `sqrt`, `hypot_by_digits` and `hypot` cite. Assumes nothing.
use mathlib.Core.Path.{◌≡◌, refl, sym, ap, ◌∙◌, subst}
use mathlib.Core.Logic.{inl, inr}
use mathlib.Core.Bool.{Bool, true, false, not}
use Prim.Native.Nat.{ℕ, ◌+◌, ◌*◌, ◌^◌, ◌≤◌, ◌<◌}
use native.Mathlib.Nat.{le_trans, le_of_eq, le_of_lt, lt_of_lt_of_le, mul-le-mul, mul-pos, mod-le}
use native.Mathlib.Omega.{arith}
use lib.Dec.{T, lit≤}
use lib.Arith.{le→nltb}
use lib.Pow.{pow-add, pow_pos, pow_mono, shl_lt}
use lib.Ieee.{Float, nan, inf, fin, Format, binary32, binary64, hid, ones, top, up, down, add, mul, lt, eq, fits, is_nan, nan_bits}
use lib.Ieee.Bits.{nan_bits_above}
use lib.Ieee.Exact.{HasValue}
use lib.Ieee.Fits.{down_pos, mul-fits}
use lib.Ieee.Positive.{num, den, positive, den_pos, positive-finite}
use lib.Ieee.Scale.{finite}
use Rattle.fraction.specs.Fraction.{◌≈ᶠ◌, ◌+ᶠ◌, natᶠ, negᶠ, Within}
use Rattle.fraction.proofs.Order.{sym≈, trans≈}
use Rattle.fraction.proofs.Ring.{cong_add}
use Rattle.fraction.proofs.Near.{within_same}
use Rattle.rounding.specs.Value.{val, signedᶠ}
use Rattle.rounding.proofs.Base.{value_is}
use Rattle.rounding.proofs.Ops.{add_rounds}
use Rattle.float.specs.Parts.{Unpacked}
use Rattle.float.proofs.Fields.{apart}
use Rattle.float.proofs.Tests.{never, zero_f}
use Rattle.square_sums.specs.Squares.{square, Digits, RootOfSquares}
use Rattle.roots.specs.Root.{sqrt_of}
use Rattle.roots.proofs.Rooting.{above, root_positive, cross}
use Rattle.nearest_roots.specs.Root.{sum_of_squares, hypot_of}
use Rattle.nearest_roots.specs.Guess.{mid_square_of, Between, Checked}
use Rattle.nearest_roots.proofs.Exact64.{rescale, square_exact, one, one_pos, held}

-- ---- no NaN

pub above_no_nan : (z x : Float) → lt z x ≡ true → T (not (is_nan x))
unfolding lt is_nan
above_no_nan nan nan h = never h
above_no_nan (inf s) nan h = never h
above_no_nan (fin s m e) nan h = never h
above_no_nan z (inf t) h = tt
above_no_nan z (fin t n d) h = tt

pub bits_no_nan : (f : Format) (n : ℕ) → n ≤ ones f * hid f → T (not (nan_bits f n))
bits_no_nan f n h = subst (λ (b : Bool). T (not b)) (sym (nan_bits_above f n)) (le→nltb _ _ (le_trans (mod-le n (top f)) h))

-- ---- a root above 0 was held by the check

not_above : lt zero_f zero_f ≡ true → ⊥
unfolding lt
not_above h = never h

pub was_held : (v r : Float) → Checked v r → lt zero_f r ≡ true → Between v r
was_held v r (inl e) h = absurd (not_above (rw e at h))
was_held v r (inr b) h = b

-- ---- the square root of x

module _ {x : Float} {s : Bool} {d e : ℕ} (u : Unpacked binary32 x s d e) (p : T (positive x)) where
  sign : s ≡ false
  sign = go x p u.value
    where
      go : (x : Float) → T (positive x) → HasValue x s (d * 2 ^ e) (2 ^ 149) → s ≡ false
      go nan p v = absurd v
      go (inf t) p v = absurd v
      go (fin true m g) p v = absurd p
      go (fin false m g) p v = sym v.0

  abbrev S : ℕ
  S = d * 2 ^ e * 2 ^ 149

  known : T (finite x) × (val x ≈ᶠ signedᶠ false S one one_pos)
  known =
      value_is x false S one one_pos
      (subst (λ (t : Bool). HasValue x t S one) sign (rescale x s (d * 2 ^ e) (2 ^ 149) S one (pow_pos 149) (again (d * 2 ^ e) (2 ^ 149)) u.value))
    where
      again : (n l : ℕ) → n * l * l ≡ n * (l * l)
      again n l = omega arith

  root_of_squares : {r : Float} → RootOfSquares S r → r ≡ sqrt_of binary32 x
  unfolding RootOfSquares
  root_of_squares h = h (num x) (den x) (den_pos x) (same (num x) (2 ^ 149) (d * 2 ^ e) (den x) (cross u p)) ∙ sym (root_positive binary32 x p)
    where
      same : (n L X D : ℕ) → n * L ≡ X * D → n * (L * L) ≡ X * L * D
      same n L X D h = omega (arith, ap (λ (y : ℕ). y * L) h)

  held_root : {r : Float} → Between x r → r ≡ sqrt_of binary32 x
  held_root b = root_of_squares (held (record { fine = known.0; below = λ y f g h. h; above = λ y f g h. h }) known.1 b)

-- what is below something is no infinity
not_top : (x H : Float) → lt x H ≡ true → eq x (inf false) ≡ false
unfolding lt eq
not_top nan H h = refl
not_top (fin s m e) H h = refl
not_top (inf true) H h = refl
not_top (inf false) nan h = never h
not_top (inf false) (inf true) h = never h
not_top (inf false) (inf false) h = never h
not_top (inf false) (fin s m e) h = never h

-- what `sqrt` returns
pub root_held : (x : Float) → T (fits binary32 x) → lt zero_f x ≡ true → {r : Float} → Between x r → r ≡ sqrt_of binary32 x
root_held x f h b =
    let p = above x h (not_top x (mid_square_of (2 * b.pattern + 1)) b.under) in
    held_root (apart binary32 x f (positive-finite x p) (record { negative = refl; digits = refl; exponent = refl })) p b

-- ---- hypot of x and y

pub digits_of : {x : Float} {s : Bool} {d e : ℕ} → Unpacked binary32 x s d e → Digits d e
digits_of u = record { small = u.small; exponent = let h = u.fields in omega arith; full = u.full }

module _ {x y : Float} {s t : Bool} {a e b f : ℕ} (u : Unpacked binary32 x s a e) (v : Unpacked binary32 y t b f) where
  pub hypot_of_lem : {r : Float} → RootOfSquares (square a e + square b f) r → r ≡ hypot_of x y
  unfolding RootOfSquares hypot_of
  hypot_of_lem {r} h = go x y u.value v.value
    where
      same : (X D Y G A B L : ℕ) → X * L ≡ A * D → Y * L ≡ B * G → sum_of_squares X D Y G * (L * L) ≡ (A * A + B * B) * (D * D * (G * G))
      same X D Y G A B L u v =
          let uu : X * L * (X * L) ≡ A * D * (A * D) = ap (λ (z : ℕ). z * z) u in
          let vv : Y * L * (Y * L) ≡ B * G * (B * G) = ap (λ (z : ℕ). z * z) v in
          omega (arith, ap (λ (z : ℕ). z * (G * G)) uu, ap (λ (z : ℕ). z * (D * D)) vv)

      go : (x y : Float) → HasValue x s (a * 2 ^ e) (2 ^ 149) → HasValue y t (b * 2 ^ f) (2 ^ 149) → r ≡ hypot_of x y
      go nan y v w = absurd v
      go (inf _) y v w = absurd v
      go (fin _ m g) nan v w = absurd w
      go (fin _ m g) (inf _) v w = absurd w
      go (fin _ m g) (fin _ n k) v w =
          h (sum_of_squares (m * up g) (down g) (n * up k) (down k)) (down g * down g * (down k * down k))
          (mul-pos (mul-pos (down_pos g) (down_pos g)) (mul-pos (down_pos k) (down_pos k)))
          (same (m * up g) (down g) (n * up k) (down k) (a * 2 ^ e) (b * 2 ^ f) (2 ^ 149) v.1 w.1)

  -- the f64 squares are exact, and their sum is rounded
  abbrev xx : Float
  xx = mul binary64 x x

  abbrev yy : Float
  yy = mul binary64 y y

  square_known : {z : Float} {s : Bool} {d e : ℕ} → Unpacked binary32 z s d e
      → T (finite (mul binary64 z z)) × (val (mul binary64 z z) ≈ᶠ signedᶠ false (square d e) one one_pos)
  square_known {z} {s} {d} {e} w =
      let g = w.fields in
      value_is (mul binary64 z z) false (square d e) one one_pos (square_exact d e 149 (lt_of_lt_of_le w.small (lit≤ tt)) (lit≤ tt) (omega arith) z s w.value)

  together : signedᶠ false (square a e) one one_pos +ᶠ signedᶠ false (square b f) one one_pos ≈ᶠ signedᶠ false (square a e + square b f) one one_pos
  unfolding ◌+ᶠ◌
  together = record { eq = go (square a e) (square b f) one }
    where
      go : (A B O : ℕ) → (A * O + B * O) * O + 0 * (O * O) ≡ (A + B) * (O * O) + (0 * O + 0 * O) * O
      go A B O = omega arith

  sum_known : val xx +ᶠ val yy ≈ᶠ signedᶠ false (square a e + square b f) one one_pos
  sum_known = trans≈ (cong_add (square_known u).1 (square_known v).1) together

  far : {d e : ℕ} → d < 2 ^ 24 → e < 254 → square d e ≤ 2 ^ 1022
  far {d} {e} h g =
      let l : 24 + e ≤ 511 = omega arith in
      let k : d * 2 ^ e ≤ 2 ^ 511 = le_of_lt (lt_of_lt_of_le (shl_lt 24 e h) (pow_mono l)) in
      le_trans (mul-le-mul k k) (le_of_eq (sym (pow-add 2 511 511)))

  within : Within (signedᶠ false (square a e + square b f) one one_pos) (natᶠ (2 ^ 1023))
  unfolding negᶠ
  within =
      let k : square a e + square b f ≤ 2 ^ 1023 = both (square a e) (square b f) (2 ^ 1022) (2 ^ 1023) refl (far u.small u.fields) (far v.small v.fields) in
      record { lo = record { le = lo (square a e + square b f) (2 ^ 1023) one }; hi = record { le = hi (square a e + square b f) (2 ^ 1023) one k one_pos } }
    where
      both : (a b h t : ℕ) → h + h ≡ t → a ≤ h → b ≤ h → a + b ≤ t
      both a b h t e p q = omega arith

      lo : (N P O : ℕ) → 0 * O + 0 * 1 ≤ N * 1 + P * O
      lo N P O = omega arith

      hi : (N P O : ℕ) → N ≤ P → 0 < O → N * 1 + 0 * O ≤ P * O + 0 * 1
      hi N P O k g = let j : P * 1 ≤ P * O = mul-le-mul (le_of_eq refl) g in omega arith

  held_hypot : {r : Float} → Between (add binary64 xx yy) r → r ≡ hypot_of x y
  held_hypot h =
      let o = add_rounds binary64 xx yy (square_known u).0 (square_known v).0 (mul-fits binary64 x x) (mul-fits binary64 y y) (within_same (sym≈ sum_known) within) in
      hypot_of_lem (held (record { fine = o.fine; below = o.below; above = o.above }) sum_known h)

-- nothing is above a NaN or an infinity, so a sum of squares that is below something has finite arguments
module _ (H : Float) where
  no_nan : lt nan H ≡ true → ⊥
  unfolding lt
  no_nan h = never h

  no_top : lt (inf false) H ≡ true → ⊥
  unfolding lt
  no_top h = go H h
    where
      go : (H : Float) → lt (inf false) H ≡ true → ⊥
      go nan h = never h
      go (inf true) h = never h
      go (inf false) h = never h
      go (fin s m e) h = never h

  top_and : (Y : Float) → lt (add binary64 (inf false) Y) H ≡ true → ⊥
  unfolding add
  top_and nan h = no_nan h
  top_and (inf true) h = no_nan h
  top_and (inf false) h = no_top h
  top_and (fin s m e) h = no_top h

  and_top : (X : Float) → lt (add binary64 X (inf false)) H ≡ true → ⊥
  unfolding add
  and_top nan h = no_nan h
  and_top (inf true) h = no_nan h
  and_top (inf false) h = no_top h
  and_top (fin s m e) h = no_top h

  and_nan : (X : Float) → lt (add binary64 X nan) H ≡ true → ⊥
  unfolding add
  and_nan nan h = no_nan h
  and_nan (inf s) h = no_nan h
  and_nan (fin s m e) h = no_nan h

  first_finite : (x Y : Float) → lt (add binary64 (mul binary64 x x) Y) H ≡ true → T (finite x)
  unfolding add mul
  first_finite nan Y h = absurd (no_nan h)
  first_finite (fin s m e) Y h = tt
  first_finite (inf true) Y h = absurd (top_and Y h)
  first_finite (inf false) Y h = absurd (top_and Y h)

  second_finite : (X y : Float) → lt (add binary64 X (mul binary64 y y)) H ≡ true → T (finite y)
  unfolding add mul
  second_finite X (fin s m e) h = tt
  second_finite X nan h = absurd (and_nan X h)
  second_finite X (inf true) h = absurd (and_top X h)
  second_finite X (inf false) h = absurd (and_top X h)

-- what `hypot` returns
pub hypot_held : (x y : Float) → T (fits binary32 x) → T (fits binary32 y) → {r : Float} → Between (add binary64 (mul binary64 x x) (mul binary64 y y)) r
    → r ≡ hypot_of x y
hypot_held x y f g b =
    let H = mid_square_of (2 * b.pattern + 1) in
    let p = first_finite H x (mul binary64 y y) b.under in
    let q = second_finite H (mul binary64 x x) y b.under in
    held_hypot (apart binary32 x f p (record { negative = refl; digits = refl; exponent = refl })) (apart binary32 y g q (record { negative = refl; digits = refl; exponent = refl })) b

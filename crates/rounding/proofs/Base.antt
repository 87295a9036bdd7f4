-- `round` by the fraction that it is worth: ± grid / 2 ^ low, where nothing overflows. A value of the format comes
-- back as it is, and so bounds whatever rounds below or above it. Assumes nothing.
use mathlib.Core.Path.{◌≡◌, refl, sym, ap, ◌∙◌, subst}
use mathlib.Core.Bool.{Bool, true, false, ◌&&◌}
use Prim.Native.Nat.{ℕ, zero, suc, ◌+◌, ◌-◌, ◌*◌, ◌%◌, ◌^◌, ◌≤◌, ◌<◌}
use native.Mathlib.Nat.{lt_of_not-le, not-le_of_lt, lt_of_mul-lt-mul_right, mul-lt-mul_of_pos_right, le_of_suc-le-suc, mul-le-mul_right, mul-le-mul_left}
use native.Mathlib.Omega.{arith}
use lib.IntN.{ℤ, pos, negsuc}
use lib.Dec.{T, ltb, leb, eqb, ltb→lt, leb→le, lit≤}
use lib.Pow.{pow-add, pow_pos, pow-lt}
use lib.Ieee.{Float, nan, inf, fin, Format, binary32, binary64, prec, emax, low, hid, up, down, round, fits}
use lib.Ieee.Fits.{round_is, down_pos, and_l, and_r}
use lib.Ieee.Exact.{HasValue, units_val, round_exact}
use lib.Ieee.Order.{drop, kept, round_mono}
use lib.Ieee.Scale.{grid, overflow, finite}
use Rattle.fraction.specs.Whole.{◌×ℕ◌, ◌≈ʷ◌}
use Rattle.fraction.specs.Fraction.{◌≈ᶠ◌}
use Rattle.fraction.proofs.Linear.{trans}
use Rattle.fraction.proofs.Order.{of_eq, sym≈}
use Rattle.rounding.specs.Value.{signed, signedᶠ, val}
use Rattle.rounding.proofs.Grid.{Off, grid_off}
use Rattle.rounding.proofs.Compare.{le_val}

-- ---- no overflow up to 2 ^ emax
big : (f : Format) → (2 ≤ hid f) × (2 ≤ 2 ^ emax f * 2 ^ low f)
big binary32 = (lit≤ tt, lit≤ tt)
big binary64 = (lit≤ tt, lit≤ tt)

top_is : (f : Format) → overflow f ≡ 2 * (2 ^ emax f * 2 ^ low f)
top_is binary32 = refl
top_is binary64 = refl

fine : (G c n P E : ℕ) → 0 < c → 2 ≤ P → 2 ≤ E → Off G c n P (c * P) → n ≤ E * c → G < 2 * E
fine G c n P E C p e o h =
    lt_of_not-le (λ (g : 2 * E ≤ G). omega (arith, o.hi, mul-le-mul_right (2 * P) h, mul-le-mul_right (c * (2 * P)) g, mul-le-mul_left (E * c) p, mul-le-mul_right (c * P) e, mul-le-mul_left c p))

pub under : (f : Format) (a c : ℕ) → 0 < c → a ≤ 2 ^ emax f * c → grid f a c < overflow f
under f a c C h =
    let L = 2 ^ low f in
    subst (λ (x : ℕ). grid f a c < x) (sym (top_is f))
    (fine (grid f a c) c (a * L) (hid f) (2 ^ emax f * L) C (big f).0 (big f).1 (grid_off f a c C) (omega (arith, mul-le-mul_right L h)))

-- ---- a float by the fraction that it equals
pub value_is : (x : Float) (s : Bool) (a c : ℕ) (C : 0 < c) → HasValue x s a c → T (finite x) × (val x ≈ᶠ signedᶠ s a c C)
unfolding val
value_is nan s a c C h = absurd h
value_is (inf t) s a c C h = absurd h
value_is (fin t m e) s a c C h = (tt, record { eq = go t s h.0 })
  where
    go : (t s : Bool) → t ≡ s → signed t (m * up e) ×ℕ c ≈ʷ signed s a ×ℕ down e
    go true true q = omega (arith, h.1)
    go false false q = omega (arith, h.1)
    go true false q = absurd (mathlib.Core.Bool.true≢false q)
    go false true q = absurd (mathlib.Core.Bool.true≢false (sym q))

pub round_value : (f : Format) (s : Bool) (a c : ℕ) → grid f a c < overflow f → HasValue (round f s a c) s (grid f a c) (2 ^ low f)
round_value f s a c h = subst (λ (z : Float). HasValue z s (grid f a c) (2 ^ low f)) (sym (round_is f s a c)) (units_val f s (kept (prec f) (a * 2 ^ low f) c) (drop (prec f) (a * 2 ^ low f) c) h)

-- ---- a value of the format, rounded, is itself
pub divides : (l : ℕ) (e : ℤ) → down e ≤ 2 ^ l → (j : ℕ) × (2 ^ l * up e ≡ 2 ^ j * down e)
divides l (pos k) h = (l + k, sym (pow-add 2 l k) ∙ omega arith)
divides l (negsuc k) h =
    let g : suc k ≤ l = le_of_suc-le-suc (lt_of_not-le (λ (n : suc l ≤ suc k). not-le_of_lt (pow-lt n) h)) in
    (l - suc k, omega (arith, ap (λ (x : ℕ). 2 ^ x) (back l (suc k) g) ∙ pow-add 2 (l - suc k) (suc k)))
  where
    back : (l k : ℕ) → k ≤ l → l ≡ l - k + k
    back l k h = omega arith

-- what `fits` says of a value that is not zero
pub fits_parts : (f : Format) (s : Bool) (m : ℕ) (e : ℤ) → T (fits f (fin s (suc m) e)) → (suc m < 2 ^ prec f) × (down e ≤ 2 ^ low f) × (suc m * up e < 2 ^ suc (emax f) * down e)
unfolding fits
fits_parts f s m e t =
    let a : Bool = eqb (suc m % 2) 1 in
    let b : Bool = ltb (suc m) (2 ^ prec f) in
    let c : Bool = leb (down e) (2 ^ low f) in
    let d : Bool = ltb (suc m * up e) (2 ^ suc (emax f) * down e) in (
      ltb→lt (suc m) (2 ^ prec f) (and_r a b (and_l (a && b) c (and_l (a && b && c) d t))),
      leb→le (down e) (2 ^ low f) (and_r (a && b) c (and_l (a && b && c) d t)),
      ltb→lt (suc m * up e) (2 ^ suc (emax f) * down e) (and_r (a && b && c) d t),
    )

-- a value of the format is a whole number of its smallest values
pub in_units : (f : Format) (s : Bool) (m : ℕ) (e : ℤ) → T (fits f (fin s m e)) → (w : ℕ) × (m * up e * 2 ^ low f ≡ w * down e)
in_units f s zero e t = (0, omega arith)
in_units f s (suc m) e t =
    let j = divides (low f) e (fits_parts f s m e t).1 in
    (suc m * 2 ^ j.0, omega (arith, ap (λ (x : ℕ). suc m * x) j.1))

pub own_rounding : (f : Format) (s r : Bool) (m : ℕ) (e : ℤ) → T (fits f (fin s m e)) → HasValue (round f r (m * up e) (down e)) r (m * up e) (down e)
own_rounding f s r zero e t = round_exact f r (0 * up e) (down e) 0 0 (down_pos e) (pow_pos (prec f)) (pow_pos (low f + suc (emax f))) (omega arith)
own_rounding f s r (suc m) e t =
    let p = fits_parts f s m e t in
    let j = divides (low f) e p.1 in
    let M = suc m in
    let q : M * up e * 2 ^ low f ≡ M * 2 ^ j.0 * down e = omega (arith, ap (λ (x : ℕ). M * x) j.1) in
    let w : M * 2 ^ j.0 * down e < 2 ^ (low f + suc (emax f)) * down e =
    omega (arith, q, mul-lt-mul_of_pos_right p.2 (pow_pos (low f)), ap (λ (x : ℕ). x * down e) (pow-add 2 (low f) (suc (emax f)))) in
    round_exact f r (M * up e) (down e) M j.0 (down_pos e) p.0 (lt_of_mul-lt-mul_right (down e) w) q

-- ---- so it bounds what rounds below or above it. The value is b / d in size, the fraction a / c, and G / 2 ^ low
-- what that rounds to
module _ (f : Format) (a c : ℕ) (C : 0 < c) (h : a ≤ 2 ^ emax f * c) (s : Bool) (m : ℕ) (e : ℤ) (t : T (fits f (fin s m e))) where
  mine : T (finite (round f false a c)) × (val (round f false a c) ≈ᶠ signedᶠ false (grid f a c) (2 ^ low f) (pow_pos (low f)))
  mine = value_is (round f false a c) false (grid f a c) (2 ^ low f) (pow_pos (low f)) (round_value f false a c (under f a c C h))

  its : T (finite (round f false (m * up e) (down e))) × (val (round f false (m * up e) (down e)) ≈ᶠ signedᶠ false (m * up e) (down e) (down_pos e))
  its = value_is (round f false (m * up e) (down e)) false (m * up e) (down e) (down_pos e) (own_rounding f s false m e t)

  pub cap_above : a * down e ≤ m * up e * c → grid f a c * down e ≤ m * up e * 2 ^ low f
  cap_above l =
      let k =
      trans (of_eq (sym≈ mine.1))
      (trans (le_val (round f false a c) (round f false (m * up e) (down e)) mine.0 its.0 (round_mono f a c (m * up e) (down e) C (down_pos e) l)) (of_eq its.1)) in
      omega (arith, k.le)

  pub cap_below : m * up e * c ≤ a * down e → m * up e * 2 ^ low f ≤ grid f a c * down e
  cap_below l =
      let k =
      trans (of_eq (sym≈ its.1))
      (trans (le_val (round f false (m * up e) (down e)) (round f false a c) its.0 mine.0 (round_mono f (m * up e) (down e) a c (down_pos e) C l)) (of_eq mine.1)) in
      omega (arith, k.le)

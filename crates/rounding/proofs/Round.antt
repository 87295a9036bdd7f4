-- `round` in fractions: near its fraction, with its sign, finite where nothing overflows. Assumes nothing.
use mathlib.Core.Path.{◌≡◌, refl, ap}
use mathlib.Core.List.{[], ◌∷◌}
use mathlib.Core.Bool.{Bool, true, false}
use Prim.Native.Nat.{ℕ, ◌-◌, ◌*◌, ◌^◌, ◌≤◌, ◌<◌}
use native.Mathlib.Nat.{le_of_mul-le-mul_right, mul-le-mul_right, mul-pos, zero-lt-suc}
use native.Mathlib.Omega.{arith}
use lib.Dec.{T}
use lib.Pow.{pow_pos}
use lib.Ieee.{Float, nan, inf, fin, Format, prec, emax, low, hid, up, down, round, fits}
use lib.Ieee.Scale.{grid, finite}
use Rattle.fraction.specs.Whole.{Whole, ◌+ʷ◌, ◌×ℕ◌, natʷ, ◌≤ʷ◌, ◌≈ʷ◌}
use Rattle.fraction.specs.Fraction.{Fraction, ◌≤ᶠ◌, ◌≈ᶠ◌, natᶠ, ◌+ᶠ◌, ◌*ᶠ◌, negᶠ, Near, Within}
use Rattle.fraction.proofs.Linear.{At, at_le, at_eq, le_at, add_at, neg_at, over, trans}
use Rattle.fraction.proofs.Order.{mul_mono, of_eq, sym≈, trans≈, antisym, refl≤, add_mono}
use Rattle.fraction.proofs.Near.{near_weaken, near_same, near_sym, near_trans, within_near, within_same}
use Rattle.rounding.specs.Value.{signed, signedᶠ, val, roundoff, tiny}
use Rattle.rounding.specs.Rounding.{Rounds}
use Rattle.rounding.proofs.Grid.{Off, grid_off, grid_off_units}
use Rattle.rounding.proofs.Base.{value_is, round_value, under, cap_above, cap_below}

-- ---- the rounded fraction ± G / L and the fraction ± a / c, over N = L * c * 2 ^ prec. t is z / N, half the
-- smallest value or 0
module _ (s : Bool) (G c L a P z : ℕ) (C : 0 < c) (l : 0 < L) (p : 0 < 2 * P) where
  abbrev N : ℕ
  N = L * c * (2 * P)

  pub gap : (t : Fraction) (T : At N t) → T.z ≡ natʷ z → Off G c (a * L) P z
      → Near (signedᶠ s G L l) (signedᶠ s a c C) (record { num = natʷ 1; den = 2 * P; pos = p } *ᶠ record { num = natʷ a; den = c; pos = C } +ᶠ t)
  gap t T e o = record { lo = le_at N X (add_at N R E) n (less s); hi = le_at N R (add_at N X E) n (more s) }
    where
      n : 0 < N
      n = mul-pos (mul-pos l C) p

      at-R : (s : Bool) → signed s (G * c * (2 * P)) ×ℕ L ≈ʷ signed s G ×ℕ N
      at-R true = omega arith
      at-R false = omega arith

      at-X : (s : Bool) → signed s (a * L * (2 * P)) ×ℕ c ≈ʷ signed s a ×ℕ N
      at-X true = omega arith
      at-X false = omega arith

      part : natʷ (a * L) ×ℕ (record { num = natʷ 1; den = 2 * P; pos = p } *ᶠ record { num = natʷ a; den = c; pos = C }).den
          ≈ʷ (record { num = natʷ 1; den = 2 * P; pos = p } *ᶠ record { num = natʷ a; den = c; pos = C }).num ×ℕ N
      part = unfold ◌*ᶠ◌ in omega arith

      R : At N (signedᶠ s G L l)
      R = record { z = signed s (G * c * (2 * P)); is = at-R s }

      X : At N (signedᶠ s a c C)
      X = record { z = signed s (a * L * (2 * P)); is = at-X s }

      E : At N (record { num = natʷ 1; den = 2 * P; pos = p } *ᶠ record { num = natʷ a; den = c; pos = C } +ᶠ t)
      E = add_at N (record { z = natʷ (a * L); is = part }) T

      up : T.z.plus ≡ z
      up = ap (λ (w : Whole). w.plus) e

      down : T.z.minus ≡ 0
      down = ap (λ (w : Whole). w.minus) e

      less : (s : Bool) → signed s (a * L * (2 * P)) ≤ʷ signed s (G * c * (2 * P)) +ʷ (natʷ (a * L) +ʷ T.z)
      less true = omega (arith, o.hi, up, down)
      less false = omega (arith, o.lo, up, down)

      more : (s : Bool) → signed s (G * c * (2 * P)) ≤ʷ signed s (a * L * (2 * P)) +ʷ (natʷ (a * L) +ʷ T.z)
      more true = omega (arith, o.lo, up, down)
      more false = omega (arith, o.hi, up, down)

turn : (a c : ℕ) (C : 0 < c) → signedᶠ true a c C ≈ᶠ negᶠ (signedᶠ false a c C)
unfolding negᶠ
turn a c C = record { eq = refl }

-- a size from either end of a bound
pub size_le : (s : Bool) (a c : ℕ) (C : 0 < c) (B : Fraction) → Within (signedᶠ s a c C) B → signedᶠ false a c C ≤ᶠ B
size_le true a c C B w = over (signedᶠ true a c C ∷ signedᶠ false a c C ∷ B ∷ []) (λ N n X Y Z.
    le_at N Y Z n (omega (arith, at_le N (neg_at N Z) X w.lo, at_eq N X (neg_at N Y) (turn a c C))))
size_le false a c C B w = w.hi

pub roundoff_nonneg : (f : Format) → natᶠ 0 ≤ᶠ roundoff f
roundoff_nonneg f = record { le = omega arith }

not_over : (s : Bool) (a c E : ℕ) (C : 0 < c) → Within (signedᶠ s a c C) (natᶠ E) → a ≤ E * c
not_over s a c E C w = omega (arith, (size_le s a c C (natᶠ E) w).le)

-- a value of the format on either side, by the signs
is_none : (b c : ℕ) → 0 < c → b * c ≤ 0 → b ≤ 0
is_none b c C h = le_of_mul-le-mul_right (omega (arith, h)) C

side⁺ : (s t : Bool) (a c b d G L : ℕ) → 0 < c → (a * d ≤ b * c → G * d ≤ b * L) → (b * c ≤ a * d → b * L ≤ G * d) → signed s a ×ℕ d ≤ʷ signed t b ×ℕ c → signed s G ×ℕ d ≤ʷ signed t b ×ℕ L
side⁺ false false a c b d G L C f g h = omega (arith, f (omega (arith, h)))
side⁺ false true a c b d G L C f g h = omega (arith, f (omega (arith, h)), mul-le-mul_right L (is_none b c C (omega (arith, h))))
side⁺ true false a c b d G L C f g h = omega arith
side⁺ true true a c b d G L C f g h = omega (arith, g (omega (arith, h)))

side⁻ : (s t : Bool) (a c b d G L : ℕ) → 0 < c → (a * d ≤ b * c → G * d ≤ b * L) → (b * c ≤ a * d → b * L ≤ G * d) → signed t b ×ℕ c ≤ʷ signed s a ×ℕ d → signed t b ×ℕ L ≤ʷ signed s G ×ℕ d
side⁻ false false a c b d G L C f g h = omega (arith, g (omega (arith, h)))
side⁻ false true a c b d G L C f g h = omega arith
side⁻ true false a c b d G L C f g h = omega (arith, f (omega (arith, h)), mul-le-mul_right L (is_none b c C (omega (arith, h))))
side⁻ true true a c b d G L C f g h = omega (arith, f (omega (arith, h)))

module _ (f : Format) (s : Bool) (a c : ℕ) (C : 0 < c) (w : Within (signedᶠ s a c C) (natᶠ (2 ^ emax f))) where
  small : a ≤ 2 ^ emax f * c
  small = not_over s a c (2 ^ emax f) C w

  worth : T (finite (round f s a c)) × (val (round f s a c) ≈ᶠ signedᶠ s (grid f a c) (2 ^ low f) (pow_pos (low f)))
  worth = value_is (round f s a c) s (grid f a c) (2 ^ low f) (pow_pos (low f)) (round_value f s a c (under f a c C small))

  capped⁺ : (y : Float) → T (finite y) → T (fits f y) → signedᶠ s a c C ≤ᶠ val y → signedᶠ s (grid f a c) (2 ^ low f) (pow_pos (low f)) ≤ᶠ val y
  unfolding val
  capped⁺ nan p t h = absurd p
  capped⁺ (inf b) p t h = absurd p
  capped⁺ (fin b m e) p t h = record { le = side⁺ s b a c (m * up e) (down e) (grid f a c) (2 ^ low f) C (cap_above f a c C small b m e t) (cap_below f a c C small b m e t) h.le }

  capped⁻ : (y : Float) → T (finite y) → T (fits f y) → val y ≤ᶠ signedᶠ s a c C → val y ≤ᶠ signedᶠ s (grid f a c) (2 ^ low f) (pow_pos (low f))
  unfolding val
  capped⁻ nan p t h = absurd p
  capped⁻ (inf b) p t h = absurd p
  capped⁻ (fin b m e) p t h = record { le = side⁻ s b a c (m * up e) (down e) (grid f a c) (2 ^ low f) C (cap_above f a c C small b m e t) (cap_below f a c C small b m e t) h.le }

  abbrev twice_pos : 0 < 2 * hid f
  twice_pos = mul-pos (zero-lt-suc 1) (pow_pos (prec f - 1))

  -- off by t, whichever it is
  by : (t : Fraction) (z : ℕ) (T : At (2 ^ low f * c * (2 * hid f)) t) → T.z ≡ natʷ z → Off (grid f a c) c (a * 2 ^ low f) (hid f) z → Rounds f t (signedᶠ s a c C) (round f s a c)
  by t z T e o = record {
    fine = worth.0;
    near = λ B b. near_same (sym≈ worth.1)
        (near_weaken (gap s (grid f a c) c (2 ^ low f) a (hid f) z C (pow_pos (low f)) twice_pos t T e o)
        (add_mono (mul_mono (roundoff_nonneg f) (size_le s a c C B b)) (refl≤ t)));
    below = λ y p t h. trans (of_eq worth.1) (capped⁺ y p t h);
    above = λ y p t h. trans (capped⁻ y p t h) (of_eq (sym≈ worth.1));
  }

  pub round_rounds : Rounds f (tiny f) (signedᶠ s a c C) (round f s a c)
  round_rounds = by (tiny f) (c * hid f) (record { z = natʷ (c * hid f); is = omega arith }) refl (grid_off f a c C)

  -- where the fraction is a whole number w of the format's smallest values
  pub round_rounds_units : (w : ℕ) → a * 2 ^ low f ≡ w * c → Rounds f (natᶠ 0) (signedᶠ s a c C) (round f s a c)
  round_rounds_units w e = by (natᶠ 0) 0 (record { z = natʷ 0; is = omega arith }) refl (grid_off_units f a c C w e)

-- ---- another way to write X
pub near_to : {x y z e : Fraction} → y ≈ᶠ z → Near x y e → Near x z e
near_to q h = near_sym (near_same q (near_sym h))

pub rounds_same : {f : Format} {t X Y : Fraction} {r : Float} → X ≈ᶠ Y → Rounds f t X r → Rounds f t Y r
rounds_same q h = record {
  fine = h.fine;
  near = λ B w. near_to q (h.near B (within_same (sym≈ q) w));
  below = λ y p t l. h.below y p t (trans (of_eq q) l);
  above = λ y p t l. h.above y p t (trans l (of_eq (sym≈ q)));
}

-- a value of the format is not rounded
pub rounds_to : {f : Format} {t X : Fraction} {r : Float} (y : Float) → T (finite y) → T (fits f y) → val y ≈ᶠ X → Rounds f t X r → val r ≈ᶠ X
rounds_to y p h e r = trans≈ (antisym (r.below y p h (of_eq (sym≈ e))) (r.above y p h (of_eq e))) e

-- a sum's error has no second term
pub sum_near : {f : Format} {X B : Fraction} {r : Float} → Rounds f (natᶠ 0) X r → Within X B → Near (val r) X (roundoff f *ᶠ B)
sum_near {f} {X} {B} h w = near_weaken (h.near B w) (over (roundoff f *ᶠ B ∷ natᶠ 0 ∷ []) (λ N n A O. le_at N (add_at N A O) A n (omega (arith, O.is))))

-- ---- THE STEP of an error analysis: x is near X, and r is x rounded
pub step : {f : Format} {t x X e b : Fraction} {r : Float} → Rounds f t x r → Near x X e → Within X b → Near (val r) X (roundoff f *ᶠ (b +ᶠ e) +ᶠ t +ᶠ e)
step {e = e} {b = b} h n w = near_trans (h.near (b +ᶠ e) (within_near n w)) n

-- What `add`, `sub`, `mul` and `div` of finite floats are off by. Assumes nothing.
use mathlib.Core.Path.{◌≡◌, refl, sym, ap, subst}
use mathlib.Core.Bool.{Bool, true, false, not, ◌&&◌, cond}
use Prim.Native.Nat.{ℕ, zero, suc, ◌+◌, ◌-◌, ◌*◌, ◌^◌, ◌≤◌, ◌<◌}
use native.Mathlib.Nat.{le_dest, le_of_lt, le_of_mul-le-mul_right, mul-pos, zero-lt-suc, add-sub_of_le}
use native.Mathlib.Omega.{arith}
use lib.Dec.{eqb-suc-zero, T, ltb, ltb→lt, nltb→le}
use lib.Ieee.{Float, nan, inf, fin, Format, emax, low, unlike, up, down, round, sum, add, sub, mul, div, fits}
use lib.Ieee as Ieee
use lib.Ieee.Fits.{up_pos, down_pos, neg-fits}
use lib.Ieee.Scale.{finite}
use Rattle.fraction.specs.Whole.{◌+ʷ◌, ◌×ℕ◌, ◌≈ʷ◌}
use Rattle.fraction.specs.Fraction.{Fraction, ◌≈ᶠ◌, natᶠ, ◌+ᶠ◌, ◌-ᶠ◌, ◌*ᶠ◌, negᶠ, Within}
use Rattle.fraction.proofs.Linear.{At, at_eq, eq_at, add_at, sub_at, neg_at, self, over}
use mathlib.Core.List.{[], ◌∷◌}
use Rattle.fraction.proofs.Order.{sym≈, trans≈}
use Rattle.fraction.proofs.Near.{within_same}
use Rattle.rounding.specs.Value.{signed, signedᶠ, val, tiny}
use Rattle.rounding.proofs.Base.{in_units}
use Rattle.rounding.specs.Rounding.{Rounds}
use Rattle.rounding.proofs.Round.{round_rounds, round_rounds_units, rounds_same}

-- ---- `sum` is one rounding: of ± d / c
pub record SumIs (f : Format) (s : Bool) (a : ℕ) (t : Bool) (b c : ℕ) (C : 0 < c) : Type 0 where
  pub r : Bool
  pub d : ℕ
  pub is : sum f s a t b c ≡ round f r d c
  pub eq : signedᶠ s a c C +ᶠ signedᶠ t b c C ≈ᶠ signedᶠ r d c C
  pub units : (L w v : ℕ) → a * L ≡ w * c → b * L ≡ v * c → (u : ℕ) × (d * L ≡ u * c)

-- with one denominator the numerators are added
join : (s : Bool) (a : ℕ) (t : Bool) (b : ℕ) (r : Bool) (d c : ℕ) (C : 0 < c) → signed s a +ʷ signed t b ≈ʷ signed r d → signedᶠ s a c C +ᶠ signedᶠ t b c C ≈ᶠ signedᶠ r d c C
join s a t b r d c C h = eq_at c (add_at c (self (signedᶠ s a c C)) (self (signedᶠ t b c C))) (self (signedᶠ r d c C)) C h

rest : (a b d c : ℕ) → 0 < c → a + d ≡ b → (L w v : ℕ) → a * L ≡ w * c → b * L ≡ v * c → (u : ℕ) × (d * L ≡ u * c)
rest a b d c C e L w v h k =
    let x = ap (λ (z : ℕ). z * L) e in
    let l : w ≤ v = le_of_mul-le-mul_right (omega (arith, x)) C in
    let u = le_dest l in
    (u.0, omega (arith, x, ap (λ (z : ℕ). z * c) u.1))

pub sum_is : (f : Format) (s : Bool) (a : ℕ) (t : Bool) (b c : ℕ) (C : 0 < c) → SumIs f s a t b c C
unfolding sum
sum_is f true a true b c C = record { r = true; d = a + b; is = refl; eq = join true a true b true (a + b) c C (omega arith); units = λ L w v h k. (w + v, omega arith) }
sum_is f false a false b c C = record { r = false; d = a + b; is = refl; eq = join false a false b false (a + b) c C (omega arith); units = λ L w v h k. (w + v, omega arith) }
sum_is f true a false b c C = go (ltb a b) refl (ltb→lt a b) (nltb→le a b)
  where
    low_end : (y : Bool) → ltb b a ≡ y → (T y → b < a) → (T (not y) → a ≤ b) → b ≤ a → signed true a +ʷ signed false b ≈ʷ signed y (a - b)
    low_end true q g h l = omega arith
    low_end false q g h l = omega (arith, h tt)

    go : (x : Bool) → ltb a b ≡ x → (T x → a < b) → (T (not x) → b ≤ a) → SumIs f true a false b c C
    go true q g h = record {
      r = false;
      d = b - a;
      is = ap (λ (z : Bool). cond z (round f false (b - a) c) (round f (true && ltb b a) (a - b) c)) q;
      eq = join true a false b false (b - a) c C (omega (arith, g tt));
      units = rest a b (b - a) c C (add-sub_of_le (le_of_lt (g tt)));
    }
    go false q g h = record {
      r = true && ltb b a;
      d = a - b;
      is = ap (λ (z : Bool). cond z (round f false (b - a) c) (round f (true && ltb b a) (a - b) c)) q;
      eq = join true a false b (true && ltb b a) (a - b) c C (low_end (ltb b a) refl (ltb→lt b a) (nltb→le b a) (h tt));
      units = λ L w v x y. rest b a (a - b) c C (add-sub_of_le (h tt)) L v w y x;
    }
sum_is f false a true b c C = go (ltb a b) refl (ltb→lt a b) (nltb→le a b)
  where
    go : (x : Bool) → ltb a b ≡ x → (T x → a < b) → (T (not x) → b ≤ a) → SumIs f false a true b c C
    go true q g h = record {
      r = true;
      d = b - a;
      is = ap (λ (z : Bool). cond z (round f true (b - a) c) (round f false (a - b) c)) q;
      eq = join false a true b true (b - a) c C (omega (arith, g tt));
      units = rest a b (b - a) c C (add-sub_of_le (le_of_lt (g tt)));
    }
    go false q g h = record {
      r = false;
      d = a - b;
      is = ap (λ (z : Bool). cond z (round f true (b - a) c) (round f false (a - b) c)) q;
      eq = join false a true b false (a - b) c C (omega (arith, h tt));
      units = λ L w v x y. rest b a (a - b) c C (add-sub_of_le (h tt)) L v w y x;
    }

-- ---- the sum, over one denominator
at_left : (s : Bool) (a c k : ℕ) (C : 0 < c) → At (c * k) (signedᶠ s a c C)
at_left s a c k C = record { z = signed s (a * k); is = over s }
  where
    over : (s : Bool) → signed s (a * k) ×ℕ c ≈ʷ signed s a ×ℕ (c * k)
    over true = omega arith
    over false = omega arith

at_right : (s : Bool) (a c k : ℕ) (C : 0 < c) → At (k * c) (signedᶠ s a c C)
at_right s a c k C = record { z = signed s (a * k); is = over s }
  where
    over : (s : Bool) → signed s (a * k) ×ℕ c ≈ʷ signed s a ×ℕ (k * c)
    over true = omega arith
    over false = omega arith

pub spread : (s : Bool) (a c : ℕ) (C : 0 < c) (t : Bool) (b d : ℕ) (D : 0 < d)
    → signedᶠ s (a * d) (c * d) (mul-pos C D) +ᶠ signedᶠ t (b * c) (c * d) (mul-pos C D) ≈ᶠ signedᶠ s a c C +ᶠ signedᶠ t b d D
unfolding at_left at_right
spread s a c C t b d D =
    let E = mul-pos C D in
    eq_at (c * d) (add_at (c * d) (self (signedᶠ s (a * d) (c * d) E)) (self (signedᶠ t (b * c) (c * d) E))) (add_at (c * d) (at_left s a c d C) (at_right t b d c D)) E refl

pub add_rounds : (f : Format) (x y : Float) → T (finite x) → T (finite y) → T (fits f x) → T (fits f y) → Within (val x +ᶠ val y) (natᶠ (2 ^ emax f)) → Rounds f (natᶠ 0) (val x +ᶠ val y) (add f x y)
unfolding add val
add_rounds f nan y p q g h w = absurd p
add_rounds f (inf s) y p q g h w = absurd p
add_rounds f (fin s m e) nan p q g h w = absurd q
add_rounds f (fin s m e) (inf t) p q g h w = absurd q
add_rounds f (fin s m e) (fin t n d) p q g h w =
    let C = mul-pos (down_pos e) (down_pos d) in
    let S = sum_is f s (m * up e * down d) t (n * up d * down e) (down e * down d) C in
    let i = in_units f s m e g in
    let j = in_units f t n d h in
    let u = S.units (2 ^ low f) i.0 j.0 (omega (arith, ap (λ (x : ℕ). x * down d) i.1)) (omega (arith, ap (λ (x : ℕ). x * down e) j.1)) in
    let E = trans≈ (sym≈ S.eq) (spread s (m * up e) (down e) (down_pos e) t (n * up d) (down d) (down_pos d)) in
    subst (λ (r : Float). Rounds f (natᶠ 0) (signedᶠ s (m * up e) (down e) (down_pos e) +ᶠ signedᶠ t (n * up d) (down d) (down_pos d)) r) (sym S.is)
    (rounds_same E (round_rounds_units f S.r S.d (down e * down d) C (within_same (sym≈ E) w) u.0 u.1))

-- ---- the difference
pub val_neg : (y : Float) → val (Ieee.neg y) ≈ᶠ negᶠ (val y)
unfolding val Ieee.neg negᶠ
val_neg nan = record { eq = refl }
val_neg (inf s) = record { eq = refl }
val_neg (fin true m e) = record { eq = refl }
val_neg (fin false m e) = record { eq = refl }

pub finite_neg : (y : Float) → T (finite y) → T (finite (Ieee.neg y))
unfolding Ieee.neg
finite_neg nan p = p
finite_neg (inf s) p = p
finite_neg (fin s m e) p = tt

pub minus_is : (x y z : Fraction) → z ≈ᶠ negᶠ y → x +ᶠ z ≈ᶠ x -ᶠ y
minus_is x y z h = over (x ∷ y ∷ z ∷ []) (λ N n X Y Z. eq_at N (add_at N X Z) (sub_at N X Y) n (omega (arith, at_eq N Z (neg_at N Y) h)))

pub sub_rounds : (f : Format) (x y : Float) → T (finite x) → T (finite y) → T (fits f x) → T (fits f y) → Within (val x -ᶠ val y) (natᶠ (2 ^ emax f)) → Rounds f (natᶠ 0) (val x -ᶠ val y) (sub f x y)
unfolding sub
sub_rounds f x y p q g h w =
    let E = minus_is (val x) (val y) (val (Ieee.neg y)) (val_neg y) in
    rounds_same E (add_rounds f x (Ieee.neg y) p (finite_neg y q) g (neg-fits f y h) (within_same (sym≈ E) w))

-- ---- the product
pub product : (s : Bool) (a c : ℕ) (C : 0 < c) (t : Bool) (b d : ℕ) (D : 0 < d) → signedᶠ (unlike s t) (a * b) (c * d) (mul-pos C D) ≈ᶠ signedᶠ s a c C *ᶠ signedᶠ t b d D
unfolding ◌*ᶠ◌
product true a c C true b d D = record { eq = omega arith }
product true a c C false b d D = record { eq = omega arith }
product false a c C true b d D = record { eq = omega arith }
product false a c C false b d D = record { eq = omega arith }

pub mul_rounds : (f : Format) (x y : Float) → T (finite x) → T (finite y) → Within (val x *ᶠ val y) (natᶠ (2 ^ emax f)) → Rounds f (tiny f) (val x *ᶠ val y) (mul f x y)
unfolding mul val
mul_rounds f nan y p q w = absurd p
mul_rounds f (inf s) y p q w = absurd p
mul_rounds f (fin s m e) nan p q w = absurd q
mul_rounds f (fin s m e) (inf t) p q w = absurd q
mul_rounds f (fin s m e) (fin t n d) p q w =
    let E = product s (m * up e) (down e) (down_pos e) t (n * up d) (down d) (down_pos d) in
    rounds_same E (round_rounds f (unlike s t) (m * up e * (n * up d)) (down e * down d) (mul-pos (down_pos e) (down_pos d)) (within_same (sym≈ E) w))

-- ---- the quotient: X is x / y where X * y is x
quotient : (X : Fraction) (s : Bool) (a c : ℕ) (C : 0 < c) (t : Bool) (b d : ℕ) (D : 0 < d) (B : 0 < b * c) → X *ᶠ signedᶠ t b d D ≈ᶠ signedᶠ s a c C → signedᶠ (unlike s t) (a * d) (b * c) B ≈ᶠ X
unfolding ◌*ᶠ◌
quotient X true a c C true b d D B h = record { eq = omega (arith, h.eq) }
quotient X true a c C false b d D B h = record { eq = omega (arith, h.eq) }
quotient X false a c C true b d D B h = record { eq = omega (arith, h.eq) }
quotient X false a c C false b d D B h = record { eq = omega (arith, h.eq) }

pub div_rounds : (f : Format) (x y : Float) (X : Fraction) → T (finite x) → T (finite y) → ¬ (val y ≈ᶠ natᶠ 0) → X *ᶠ val y ≈ᶠ val x → Within X (natᶠ (2 ^ emax f)) → Rounds f (tiny f) X (div f x y)
unfolding div val
div_rounds f nan y X p q z h w = absurd p
div_rounds f (inf s) y X p q z h w = absurd p
div_rounds f (fin s m e) nan X p q z h w = absurd q
div_rounds f (fin s m e) (inf t) X p q z h w = absurd q
div_rounds f (fin s m e) (fin true zero d) X p q z h w = absurd (z (record { eq = omega arith }))
div_rounds f (fin s m e) (fin false zero d) X p q z h w = absurd (z (record { eq = omega arith }))
div_rounds f (fin s m e) (fin t (suc n) d) X p q z h w =
    let B = mul-pos (mul-pos (zero-lt-suc n) (up_pos d)) (down_pos e) in
    let E = quotient X s (m * up e) (down e) (down_pos e) t (suc n * up d) (down d) (down_pos d) B h in
    rw (eqb-suc-zero n) (rounds_same E (round_rounds f (unlike s t) (m * up e * down d) (suc n * up d * down e) B (within_same (sym≈ E) w)))

-- The floats' tests `lt`, `eq` and `le`, at finite values, are the fractions' order. Assumes nothing.
use mathlib.Core.Path.{◌≡◌, sym, ap, subst₂}
use mathlib.Core.Logic.{◌⊎◌, inl, inr}
use mathlib.Core.Bool.{Bool, true, false, not, ◌||◌}
use Prim.Native.Nat.{ℕ, ◌+◌, ◌*◌, ◌<◌}
use native.Mathlib.Nat.{eq-or-lt_of_le, zero-mul}
use native.Mathlib.Omega.{arith}
use lib.Dec.{T, eqb, ltb→lt, lt→ltb, eqb→eq}
use lib.Ieee.{Float, nan, inf, fin, up, down, below, level, lt, eq, le}
use lib.Ieee.Fits.{and_i, and_l, and_r, eq→eqb}
use lib.Ieee.Scale.{finite}
use Rattle.fraction.specs.Whole.{Whole, ◌×ℕ◌, ◌<ʷ◌, ◌≈ʷ◌}
use Rattle.fraction.specs.Fraction.{◌≤ᶠ◌, ◌<ᶠ◌, ◌≈ᶠ◌}
use Rattle.fraction.proofs.Linear.{trans}
use Rattle.fraction.proofs.Order.{of_eq, of_lt, le_or_lt}
use Rattle.rounding.specs.Value.{signed, val}

-- ---- two numbers with signs
below_lt : (s : Bool) (a : ℕ) (t : Bool) (b : ℕ) → T (below s a t b) → signed s a <ʷ signed t b
below_lt false a false b h = omega (arith, ltb→lt a b h)
below_lt false a true b h = absurd h
below_lt true a false b h = omega (arith, ltb→lt 0 (a + b) h)
below_lt true a true b h = omega (arith, ltb→lt b a h)

lt_below : (s : Bool) (a : ℕ) (t : Bool) (b : ℕ) → signed s a <ʷ signed t b → T (below s a t b)
lt_below false a false b h = lt→ltb a b (omega (arith, h))
lt_below false a true b h = absurd (none a b h)
  where
    none : (a b : ℕ) → a + b < 0 + 0 → ⊥
    none a b h = omega arith
lt_below true a false b h = lt→ltb 0 (a + b) (omega (arith, h))
lt_below true a true b h = lt→ltb b a (omega (arith, h))

eq_level : (s : Bool) (a : ℕ) (t : Bool) (b : ℕ) → signed s a ≈ʷ signed t b → T (level s a t b)
eq_level false a false b h = and_i (eqb a b) true (eq→eqb {a = a} {b = b} (omega (arith, h))) tt
eq_level true a true b h = and_i (eqb a b) true (eq→eqb {a = a} {b = b} (omega (arith, h))) tt
eq_level false a true b h = and_i (eqb a b) (eqb a 0) (eq→eqb {a = a} {b = b} (omega (arith, h))) (eq→eqb {a = a} {b = 0} (omega (arith, h)))
eq_level true a false b h = and_i (eqb a b) (eqb a 0) (eq→eqb {a = a} {b = b} (omega (arith, h))) (eq→eqb {a = a} {b = 0} (omega (arith, h)))

or_split : (a b : Bool) → T (a || b) → T a ⊎ T b
or_split true b t = inl tt
or_split false b t = inr t

level_eq : (s : Bool) (a : ℕ) (t : Bool) (b : ℕ) → T (level s a t b) → signed s a ≈ʷ signed t b
level_eq false a false b h = omega (arith, eqb→eq a b (and_l (eqb a b) true h))
level_eq true a true b h = omega (arith, eqb→eq a b (and_l (eqb a b) true h))
level_eq false a true b h = omega (arith, eqb→eq a b (and_l (eqb a b) (eqb a 0) h), eqb→eq a 0 (and_r (eqb a b) (eqb a 0) h))
level_eq true a false b h = omega (arith, eqb→eq a b (and_l (eqb a b) (eqb a 0) h), eqb→eq a 0 (and_r (eqb a b) (eqb a 0) h))

-- a multiple of a number with a sign
pub scaled : (s : Bool) (a k : ℕ) → signed s a ×ℕ k ≡ signed s (a * k)
scaled true a k = ap (λ (z : ℕ). record { plus = z; minus = a * k }) (zero-mul k)
scaled false a k = ap (λ (z : ℕ). record { plus = a * k; minus = z }) (zero-mul k)

module _ (P : Whole → Whole → Type 0) (s : Bool) (a k : ℕ) (t : Bool) (b l : ℕ) where
  multiples : P (signed s (a * k)) (signed t (b * l)) → P (signed s a ×ℕ k) (signed t b ×ℕ l)
  multiples h = subst₂ P (sym (scaled s a k)) (sym (scaled t b l)) h

  of_multiples : P (signed s a ×ℕ k) (signed t b ×ℕ l) → P (signed s (a * k)) (signed t (b * l))
  of_multiples h = subst₂ P (scaled s a k) (scaled t b l) h

-- ---- `lt`
pub lt_val : (x y : Float) → T (finite x) → T (finite y) → T (lt x y) → val x <ᶠ val y
unfolding lt val
lt_val nan y p q h = absurd p
lt_val (inf s) y p q h = absurd p
lt_val (fin s m e) nan p q h = absurd q
lt_val (fin s m e) (inf t) p q h = absurd q
lt_val (fin s m e) (fin t n d) p q h = record { lt = multiples ◌<ʷ◌ s (m * up e) (down d) t (n * up d) (down e) (below_lt s (m * up e * down d) t (n * up d * down e) h) }

pub val_lt : (x y : Float) → T (finite x) → T (finite y) → val x <ᶠ val y → T (lt x y)
unfolding lt val
val_lt nan y p q h = absurd p
val_lt (inf s) y p q h = absurd p
val_lt (fin s m e) nan p q h = absurd q
val_lt (fin s m e) (inf t) p q h = absurd q
val_lt (fin s m e) (fin t n d) p q h = lt_below s (m * up e * down d) t (n * up d * down e) (of_multiples ◌<ʷ◌ s (m * up e) (down d) t (n * up d) (down e) h.lt)

pub not_lt_val : (x y : Float) → T (finite x) → T (finite y) → T (not (lt x y)) → val y ≤ᶠ val x
not_lt_val x y p q h = elim (le_or_lt (val y) (val x)) [
  | inl k ↦ k
  | inr k ↦ absurd (lib.Dec.T_not (lt x y) h (val_lt x y p q k))
]

-- ---- `eq` and `le`
pub eq_val : (x y : Float) → T (finite x) → T (finite y) → T (eq x y) → val x ≈ᶠ val y
unfolding eq val
eq_val nan y p q h = absurd p
eq_val (inf s) y p q h = absurd p
eq_val (fin s m e) nan p q h = absurd q
eq_val (fin s m e) (inf t) p q h = absurd q
eq_val (fin s m e) (fin t n d) p q h = record { eq = multiples ◌≈ʷ◌ s (m * up e) (down d) t (n * up d) (down e) (level_eq s (m * up e * down d) t (n * up d * down e) h) }

pub val_eq : (x y : Float) → T (finite x) → T (finite y) → val x ≈ᶠ val y → T (eq x y)
unfolding eq val
val_eq nan y p q h = absurd p
val_eq (inf s) y p q h = absurd p
val_eq (fin s m e) nan p q h = absurd q
val_eq (fin s m e) (inf t) p q h = absurd q
val_eq (fin s m e) (fin t n d) p q h = eq_level s (m * up e * down d) t (n * up d * down e) (of_multiples ◌≈ʷ◌ s (m * up e) (down d) t (n * up d) (down e) h.eq)

pub le_val : (x y : Float) → T (finite x) → T (finite y) → T (le x y) → val x ≤ᶠ val y
unfolding le
le_val x y p q h = elim (or_split (lt x y) (eq x y) h) [
  | inl k ↦ of_lt (lt_val x y p q k)
  | inr k ↦ of_eq (eq_val x y p q k)
]

or_l : (a b : Bool) → T a → T (a || b)
or_l true b t = tt
or_l false b t = absurd t

or_r : (a b : Bool) → T b → T (a || b)
or_r true b t = tt
or_r false b t = t

pub val_le : (x y : Float) → T (finite x) → T (finite y) → val x ≤ᶠ val y → T (le x y)
unfolding le
val_le x y p q h = elim (eq-or-lt_of_le h.le) [
  | inl k ↦ or_r (lt x y) (eq x y) (val_eq x y p q (record { eq = k }))
  | inr k ↦ or_l (lt x y) (eq x y) (val_lt x y p q (record { lt = k }))
]

pub not_le_val : (x y : Float) → T (finite x) → T (finite y) → T (not (le x y)) → val y <ᶠ val x
not_le_val x y p q h = elim (le_or_lt (val x) (val y)) [
  | inl k ↦ absurd (lib.Dec.T_not (le x y) h (val_le x y p q k))
  | inr k ↦ k
]

-- what is at most one limit is at most every higher one, though it be infinite
pub le_trans : (x y z : Float) → T (finite y) → T (finite z) → T (le x y) → T (le y z) → T (le x z)
unfolding le lt eq
le_trans nan y z q r h k = absurd h
le_trans (inf s) nan z q r h k = absurd q
le_trans (inf s) (inf t) z q r h k = absurd q
le_trans (inf s) (fin t n d) nan q r h k = absurd r
le_trans (inf s) (fin t n d) (inf u) q r h k = absurd r
le_trans (inf s) (fin t n d) (fin u o c) q r h k = h
le_trans (fin s m e) y z q r h k = val_le (fin s m e) z tt r (trans (le_val (fin s m e) y tt q h) (le_val y z q r k))

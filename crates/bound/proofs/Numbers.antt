-- Floats that are known: exactly, or up to a bound of their size. The constants, whole numbers, and the columns that a
-- number lies between. Assumes nothing.
use mathlib.Core.Path.{◌≡◌, refl, sym, ap}
use mathlib.Core.List.{[], ◌∷◌}
use mathlib.Core.Bool.{Bool, true, false, not, cond}
use Prim.Native.Nat.{ℕ, suc, ◌+◌, ◌*◌, ◌^◌, ◌≤◌, ◌<◌}
use native.Mathlib.Omega.{arith}
use lib.Dec.{T, lit≤}
use lib.Ieee.{Float, nan, inf, fin, binary32, up, down, neg, of_bits, of_fields, odd, fits, is_nan, lt, le, eq}
use lib.Ieee.Bits.{of_bits-fits}
use lib.Ieee.Fits.{of_int-fits, neg-fits, down_pos}
use lib.Ieee.Scale.{finite}
use lib.Count.{count_trailing_zeros}
use lib.IntN.{pos}
use Rattle.fraction.specs.Whole.{sizeʷ}
use Rattle.fraction.specs.Fraction.{Fraction, ◌≤ᶠ◌, ◌<ᶠ◌, ◌≈ᶠ◌, natᶠ, ◌/2^◌, ◌+ᶠ◌, absᶠ, minᶠ, maxᶠ, Within}
use Rattle.fraction.proofs.Clamp.{min_left, min_right, max_left, max_right}
use Rattle.fraction.proofs.Linear.{at_le, at_lt, at_eq, le_at, lt_at, add_at, over, lit, lit<ᶠ, lit≈, trans}
use Rattle.fraction.proofs.Order.{of_eq, of_lt, refl≈, sym≈, trans≈, le_lt, lt_le}
use Rattle.fraction.proofs.Near.{within_weaken}
use Rattle.rounding.specs.Value.{signed, signedᶠ, val}
use Rattle.rounding.proofs.Compare.{lt_val, val_lt, le_val, eq_val, val_eq, not_lt_val, not_le_val}
use Rattle.float.specs.Ops.{f0, f½, f1, f2}
use Rattle.float.specs.Simple.{abs_of, min_of, max_of}
use Rattle.whole.specs.Whole.{column_of, of_whole}
use Rattle.whole.proofs.CastBelief.{of_whole_exact, column_below}
use Rattle.row.specs.Row.{ceil_column}
use Rattle.sweep.specs.Bytes.{f255}

-- a value of the format, and a bound of its size
pub record Num (v : Float) (b : Fraction) : Type 0 where
  pub fine : T (finite v)
  pub held : T (fits binary32 v)
  pub within : Within (val v) b

-- a value of the format that is X
pub record Exact (X : Fraction) (v : Float) : Type 0 where
  pub fine : T (finite v)
  pub held : T (fits binary32 v)
  pub eq : val v ≈ᶠ X

pub num_weaken : {v : Float} {b c : Fraction} → b ≤ᶠ c → Num v b → Num v c
num_weaken l h = record { fine = h.fine; held = h.held; within = within_weaken h.within l }

pub exact_same : {X Y : Fraction} {v : Float} → X ≈ᶠ Y → Exact X v → Exact Y v
exact_same q e = record { fine = e.fine; held = e.held; eq = trans≈ e.eq q }

-- ---- the constants
pub zero_is : Exact (natᶠ 0) f0
unfolding of_bits of_fields odd val
zero_is = record { fine = tt; held = of_bits-fits binary32 0; eq = lit≈ tt }

pub half_is : Exact (1 /2^ 1) f½
unfolding of_bits of_fields odd val count_trailing_zeros
half_is = record { fine = tt; held = of_bits-fits binary32 0x3f00_0000; eq = lit≈ tt }

pub one_is : Exact (natᶠ 1) f1
unfolding of_bits of_fields odd val count_trailing_zeros
one_is = record { fine = tt; held = of_bits-fits binary32 0x3f80_0000; eq = lit≈ tt }

pub two_is : Exact (natᶠ 2) f2
unfolding of_bits of_fields odd val count_trailing_zeros
two_is = record { fine = tt; held = of_bits-fits binary32 0x4000_0000; eq = lit≈ tt }

pub f255_is : Exact (natᶠ 255) f255
unfolding of_bits of_fields odd val count_trailing_zeros
f255_is = record { fine = tt; held = of_bits-fits binary32 0x437f_0000; eq = lit≈ tt }

-- ---- a whole number
pub whole_held : (n : ℕ) → T (fits binary32 (of_whole n))
whole_held n = of_int-fits binary32 (pos n)

pub whole_is : (n : ℕ) → n ≤ 8192 → Exact (natᶠ n) (of_whole n)
whole_is n h = let I = of_whole_exact n (big n h) in record { fine = I.fine; held = whole_held n; eq = I.eq }
  where
    big : (n : ℕ) → n ≤ 8192 → n ≤ 2 ^ 24
    big n h = omega (arith, lit≤ {m = 8192} {n = 2 ^ 24} tt)

-- ---- comparisons of floats that are known exactly
pub lt_cong : {x x' y y' : Fraction} → x ≈ᶠ x' → y ≈ᶠ y' → x <ᶠ y → x' <ᶠ y'
lt_cong {x} {x'} {y} {y'} p q h = over (x ∷ x' ∷ y ∷ y' ∷ []) (λ N n X X' Y Y'. lt_at N X' Y' (omega (arith, at_eq N X X' p, at_eq N Y Y' q, at_lt N X Y n h)))

module _ {X Y : Fraction} {x y : Float} (a : Exact X x) (b : Exact Y y) where
  pub lt_yes : T (lt x y) → X <ᶠ Y
  lt_yes t = lt_cong a.eq b.eq (lt_val x y a.fine b.fine t)

  pub lt_no : T (not (lt x y)) → Y ≤ᶠ X
  lt_no t = trans (of_eq (sym≈ b.eq)) (trans (not_lt_val x y a.fine b.fine t) (of_eq a.eq))

  pub le_yes : T (le x y) → X ≤ᶠ Y
  le_yes t = trans (of_eq (sym≈ a.eq)) (trans (le_val x y a.fine b.fine t) (of_eq b.eq))

  pub le_no : T (not (le x y)) → Y <ᶠ X
  le_no t = lt_cong b.eq a.eq (not_le_val x y a.fine b.fine t)

  pub lt_do : X <ᶠ Y → T (lt x y)
  lt_do h = val_lt x y a.fine b.fine (lt_cong (sym≈ a.eq) (sym≈ b.eq) h)

  pub eq_yes : T (eq x y) → X ≈ᶠ Y
  eq_yes t = trans≈ (sym≈ a.eq) (trans≈ (eq_val x y a.fine b.fine t) b.eq)

  pub eq_do : X ≈ᶠ Y → T (eq x y)
  eq_do h = val_eq x y a.fine b.fine (trans≈ a.eq (trans≈ h (sym≈ b.eq)))

pub itself : (x : Float) → T (finite x) → T (fits binary32 x) → Exact (val x) x
itself x p q = record { fine = p; held = q; eq = refl≈ (val x) }

pub num_itself : {x : Float} {b : Fraction} → Num x b → Exact (val x) x
num_itself {x} h = itself x h.fine h.held

-- ---- the column that a number is in, and the first that is not below it
pub column_is : (x : Float) → T (finite x) → natᶠ 0 ≤ᶠ val x → val x <ᶠ natᶠ 8192 → (natᶠ (column_of x) ≤ᶠ val x) × (val x <ᶠ natᶠ (suc (column_of x)))
column_is x p h k =
    let c = column_below x p h (lt_le k (lit tt)) in
    (c.0, lt_le c.1 (record { le = omega arith }))

pub ceil_is : (x : Float) → T (finite x) → T (fits binary32 x) → natᶠ 0 ≤ᶠ val x → val x ≤ᶠ natᶠ 4096 → (val x ≤ᶠ natᶠ (ceil_column x)) × (natᶠ (ceil_column x) <ᶠ val x +ᶠ natᶠ 1)
unfolding ceil_column
ceil_is x p q h k = go (lt (of_whole (column_of x)) x) (lt_yes F (itself x p q)) (lt_no F (itself x p q))
  where
    W : (natᶠ (column_of x) ≤ᶠ val x) × (val x <ᶠ natᶠ (suc (column_of x)))
    W = column_is x p h (le_lt k (lit<ᶠ tt))

    F : Exact (natᶠ (column_of x)) (of_whole (column_of x))
    F = whole_is (column_of x) (small (column_of x) (trans W.0 k))
      where
        small : (n : ℕ) → natᶠ n ≤ᶠ natᶠ 4096 → n ≤ 8192
        small n h = omega (arith, h.le)

    go : (b : Bool) → (T b → natᶠ (column_of x) <ᶠ val x) → (T (not b) → val x ≤ᶠ natᶠ (column_of x))
        → (val x ≤ᶠ natᶠ (cond b (column_of x + 1) (column_of x))) × (natᶠ (cond b (column_of x + 1) (column_of x)) <ᶠ val x +ᶠ natᶠ 1)
    go true f g = over (val x ∷ natᶠ (column_of x) ∷ natᶠ (suc (column_of x)) ∷ natᶠ (column_of x + 1) ∷ natᶠ 1 ∷ []) (λ N n X A B C O. (
      le_at N X C n (omega (arith, B.is, C.is, at_lt N X B n W.1)),
      lt_at N C (add_at N X O) (omega (arith, A.is, C.is, O.is, at_lt N A X n (f tt))),
    ))
    go false f g = over (val x ∷ natᶠ (column_of x) ∷ natᶠ 1 ∷ []) (λ N n X A O.
        (le_at N X A n (omega (arith, at_le N X A (g tt))), lt_at N A (add_at N X O) (omega (arith, n, O.is, at_le N A X W.0))))

-- ---- the size, the lesser and the greater of floats that are known exactly
pub size_signed : (s : Bool) (a : ℕ) → sizeʷ (signed s a) ≡ a
size_signed true a = omega arith
size_signed false a = omega arith

size_is : (s : Bool) (a d : ℕ) (D : 0 < d) → signedᶠ false a d D ≈ᶠ absᶠ (signedᶠ s a d D)
unfolding absᶠ
size_is s a d D = record { eq = ap (λ (n : ℕ). n * d + 0 * d) (sym (size_signed s a)) }

pub abs_is : (x : Float) → T (finite x) → T (fits binary32 x) → Exact (absᶠ (val x)) (abs_of x)
unfolding abs_of val
abs_is nan p q = absurd p
abs_is (inf s) p q = absurd p
abs_is (fin false m e) p q = record { fine = tt; held = q; eq = size_is false (m * up e) (down e) (down_pos e) }
abs_is (fin true m e) p q = record { fine = tt; held = (unfold neg in neg-fits binary32 (fin true m e) q); eq = size_is true (m * up e) (down e) (down_pos e) }

number : (x : Float) → T (finite x) → is_nan x ≡ false
unfolding is_nan
number nan p = absurd p
number (inf s) p = absurd p
number (fin s m e) p = refl

module _ {A B : Fraction} {a b : Float} (p : Exact A a) (q : Exact B b) where
  pub min_is : Exact (minᶠ A B) (min_of a b)
  unfolding min_of
  min_is = rw (number a p.fine) (go (lt b a) (lt_yes q p) (lt_no q p))
    where
      go : (x : Bool) → (T x → B <ᶠ A) → (T (not x) → A ≤ᶠ B) → Exact (minᶠ A B) (cond x b a)
      go true f g = exact_same (sym≈ (min_right A B (of_lt (f tt)))) q
      go false f g = exact_same (sym≈ (min_left A B (g tt))) p

  pub max_is : Exact (maxᶠ A B) (max_of a b)
  unfolding max_of
  max_is = rw (number a p.fine) (go (lt a b) (lt_yes p q) (lt_no p q))
    where
      go : (x : Bool) → (T x → A <ᶠ B) → (T (not x) → B ≤ᶠ A) → Exact (maxᶠ A B) (cond x b a)
      go true f g = exact_same (sym≈ (max_right A B (of_lt (f tt)))) q
      go false f g = exact_same (sym≈ (max_left A B (g tt))) p

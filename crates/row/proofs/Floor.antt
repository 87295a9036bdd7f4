-- Why the definitions may cut to columns where the Rust takes floor and ceiling: for a number from 0 on, other than
-- -0, whose column is below 8,191, `x.floor()` is its column as a float, `x.floor() as usize` its column, and
-- `x.ceil() as usize` its ceil_column. Assumes nothing.
use mathlib.Core.Path.{◌≡◌, refl, sym, ap, ◌∙◌, subst}
use mathlib.Core.Bool.{Bool, true, false, cond, ◌||◌, ◌&&◌, false≢true}
use Prim.Native.Nat.{ℕ, zero, suc, ◌+◌, ◌*◌, ◌/◌, ◌%◌, ◌≤◌, ◌<◌}
use native.Mathlib.Nat.{mul-one, mul-pos, zero-lt-suc, div-add-mod', mul-lt-mul_of_pos_right, mul-le-mul_right}
use native.Mathlib.Omega.{arith}
use lib.IntN.{ℤ}
use lib.Dec.{T, eqb, ltb}
use lib.Ieee.{Float, nan, inf, fin, binary32, up, down, round, of_int, of_bits, to_unsigned, in_float, lt, le, eq}
use lib.Ieee.Exact.{HasValue}
use lib.Ieee.Fits.{up_pos, down_pos}
use lib.Ieee.Back.{unsigned_back, round_whole}
use borrow.Author.Tests.{ltb-true, ltb-false, eq-eqb, ne_eqb, lt-ltb, le-ltb, le-leb}
use Rattle.whole.specs.Whole.{integral_of, floor_of, ceil_of, column_of, of_whole}
use Rattle.row.specs.Row.{ceil_column}
use Rattle.row.specs.Laws.{ColumnsAre}

-- a column comes back from its float
pub column_back : (n : ℕ) → n ≤ 8191 → column_of (of_whole n) ≡ n
unfolding in_float
column_back n h = (unsigned_back binary32 13 n (subst T (sym (le-leb n 16777216 (omega arith))) tt) (omega arith)).1

module _ (m : ℕ) (e : ℤ) (low : column_of (fin false m e) < 8191) where
  abbrev x : Float
  x = fin false m e

  abbrev whole : ℕ
  whole = m * up e / down e

  column_is : column_of x ≡ whole
  unfolding to_unsigned
  column_is = let l = low in omega arith

  floor_is : floor_of x ≡ of_whole (column_of x)
  unfolding integral_of of_int
  floor_is = ap (λ (n : ℕ). round binary32 false n 1) (sym column_is)

  -- whether x has a fraction
  below : lt (of_whole whole) x ≡ ltb (whole * down e) (m * up e)
  unfolding of_int lt
  below = go (round binary32 false whole 1) (round_whole binary32 false whole (let l = low in let c = column_is in omega arith))
    where
      scaled : (a b g : ℕ) → 0 < g → (p : Bool) → ltb a b ≡ p → ltb (a * g) (b * g) ≡ p
      scaled a b g G true h = lt-ltb (a * g) (b * g) (mul-lt-mul_of_pos_right (ltb-true a b h) G)
      scaled a b g G false h = le-ltb (a * g) (b * g) (mul-le-mul_right g (ltb-false a b h))

      go : (y : Float) → HasValue y false whole 1 → lt y x ≡ ltb (whole * down e) (m * up e)
      go nan v = absurd v
      go (inf s) v = absurd v
      go (fin true k g) v = absurd (false≢true (sym v.0))
      go (fin false k g) v =
          let a : k * up g * down e ≡ whole * down e * down g = (let w : k * up g ≡ whole * down g = sym (mul-one (k * up g)) ∙ v.1 in omega (arith, ap (λ (n : ℕ). n * down e) w)) in
          ap (λ (n : ℕ). ltb n (m * up e * down g)) a ∙ scaled (whole * down e) (m * up e) (down g) (down_pos g) (ltb (whole * down e) (m * up e)) refl

  ceil_is : column_of (ceil_of x) ≡ ceil_column x
  unfolding integral_of ceil_column of_int
  ceil_is = go (m * up e % down e) refl
    where
      rounded : Bool → ℕ
      rounded exact = column_of (of_whole (cond exact whole (whole + 1)))

      ceiled : Bool → ℕ
      ceiled more = cond more (column_of x + 1) (column_of x)

      less : lt (of_whole (column_of x)) x ≡ ltb (whole * down e) (m * up e)
      less = ap (λ (n : ℕ). lt (of_whole n) x) column_is ∙ below

      go : (r : ℕ) → m * up e % down e ≡ r → rounded (eqb (m * up e % down e) 0) ≡ ceiled (lt (of_whole (column_of x)) x)
      go zero z =
          let c = column_is in
          let l = low in
          let d = div-add-mod' (m * up e) (down e) in
          let b = less ∙ le-ltb (whole * down e) (m * up e) (omega arith) in
          ap rounded (eq-eqb (m * up e % down e) 0 z) ∙ column_back whole (omega arith) ∙ sym c ∙ sym (ap ceiled b)
      go (suc r) z =
          let c = column_is in
          let l = low in
          let d = div-add-mod' (m * up e) (down e) in
          let b = less ∙ lt-ltb (whole * down e) (m * up e) (omega arith) in
          ap rounded (ne_eqb (m * up e % down e) 0 (λ q. omega arith)) ∙ column_back (whole + 1) (omega arith)
          ∙ sym (ap ceiled b ∙ ap (λ (n : ℕ). n + 1) c)

pub columns : ColumnsAre
unfolding le lt eq of_bits to_unsigned
columns nan h n l = absurd (false≢true h)
columns (inf true) h n l = absurd (false≢true h)
columns (inf false) h n l = absurd (omega arith)
columns (fin true zero e) h n l = absurd (n e refl)
columns (fin true (suc m) e) h n l =
    absurd (no (suc m * up e * 1) (0 * 1 * down e) (mul-pos (mul-pos (zero-lt-suc m) (up_pos e)) (zero-lt-suc 0)) (omega arith) h)
  where
    no : (a b : ℕ) → 0 < a → b ≡ 0 → (false || (eqb b a && (false || eqb b 0))) ≡ true → ⊥
    no a b p z t = false≢true (sym (ap (λ (q : Bool). q && (false || eqb b 0)) (ne_eqb b a (λ r. omega arith))) ∙ t)
columns (fin false m e) h n l =
    let f = floor_is m e l in
    record { floor = f; floor_column = ap column_of f ∙ column_back (column_of (fin false m e)) (omega arith); ceil_column_law = ceil_is m e l }

-- An edge starts in a row of the mask: one that the Rust's test `ya >= height` lets pass joins in a row below the
-- height. Assumes nothing.
use mathlib.Core.Path.{◌≡◌, refl, sym, ap, ◌∙◌, subst}
use mathlib.Core.Bool.{Bool, true, false, cond, ◌||◌, ◌&&◌, true≢false}
use mathlib.Core.List.{List, [], ◌∷◌, ◌++◌}
use Prim.Native.Nat.{ℕ, zero, suc, ◌+◌, ◌*◌, ◌/◌, ◌≤◌, ◌<◌, min}
use native.Mathlib.Nat.{mul_comm, mul_assoc, mul-le-mul_right, le-div_iff_mul-le, zero-mul, mul-one, mul-pos, mul-lt-mul_of_pos_right, div-lt_iff_lt-mul}
use native.Mathlib.Decide.{ℕ_discrete, dec_lt}
use native.Mathlib.Omega.{arith}
use lib.Dec.{ltb, leb, eqb}
use lib.IntN.{ℤ, pos}
use lib.Ieee.{Float, nan, inf, fin, binary32, up, down, lt, le, eq, is_nan, of_bits, of_fields, odd, of_int, to_unsigned}
use lib.Ieee.Exact.{HasValue}
use lib.Ieee.Back.{round_whole}
use lib.Ieee.Fits.{down_pos}
use borrow.Author.Tests.{lt-ltb, le-ltb, le-leb, lt-leb, leb-false, eq-eqb, ne_eqb}
use Rattle.float.specs.Ops.{◌⊖◌, ◌⊘◌, f0, f1, f_minus_1}
use Rattle.float.specs.Simple.{max_of}
use Rattle.whole.specs.Whole.{column_of, of_whole}
use Rattle.edge.specs.declared.Edge.{Edge}
use Rattle.edge.specs.Edges.{sloped_of, edge_between, start_row}
use Rattle.edge.specs.Floats.{edge_at, edges_at}

-- an f32 of a whole number has that value
whole_value : (h : ℕ) → h ≤ 4096 → HasValue (of_whole h) false h 1
unfolding of_int
whole_value h l = round_whole binary32 false h (omega arith)

zero_is : f0 ≡ fin false 0 (pos 0)
unfolding of_bits of_fields odd
zero_is = refl

-- a test of two sizes
at_most : (p q : ℕ) → (ltb p q || (eqb p q && true)) ≡ leb p q
at_most p q = go (dec_lt p q) (ℕ_discrete p q)
  where
    go : Dec (p < q) → Dec (p ≡ q) → (ltb p q || (eqb p q && true)) ≡ leb p q
    go (yes l) d = rw (lt-ltb p q l, le-leb p q (omega arith)) refl
    go (no l) (yes e) = rw (le-ltb p q (omega arith), eq-eqb p q e, le-leb p q (omega arith)) refl
    go (no l) (no e) = rw (le-ltb p q (omega arith), ne_eqb p q e, lt-leb p q (omega arith)) refl

pub and_no : (b : Bool) → (b && false) ≡ false
and_no true = refl
and_no false = refl

module _ (h : ℕ) (some : 0 < h) (few : h ≤ 4096) (a : ℕ) (b : ℤ) (v : a * up b * 1 ≡ h * down b) where
  size : (d : ℕ) → a * up b * d ≡ h * d * down b
  size d =
      let q : a * up b ≡ h * down b = sym (mul-one (a * up b)) ∙ v in
      rw q (mul_assoc h (down b) d ∙ ap (λ (x : ℕ). h * x) (mul_comm (down b) d) ∙ sym (mul_assoc h d (down b)))

  -- a height from 0 on: its whole part is not below h where it is not below h itself
  from_zero : (m : ℕ) (e : ℤ) → leb h (min (m * up e / down e) 8191) ≡ leb (a * up b * down e) (m * up e * down b)
  from_zero m e = go (dec_lt (m * up e) (h * down e))
    where
      s : a * up b * down e ≡ h * down e * down b
      s = size (down e)

      go : Dec (m * up e < h * down e) → leb h (min (m * up e / down e) 8191) ≡ leb (a * up b * down e) (m * up e * down b)
      go (yes l) =
          let f : m * up e / down e < h = (div-lt_iff_lt-mul (down_pos e)).1 l in
          let g : m * up e * down b < h * down e * down b = mul-lt-mul_of_pos_right l (down_pos b) in
          rw (lt-leb h (min (m * up e / down e) 8191) (omega arith), s, lt-leb (h * down e * down b) (m * up e * down b) g) refl
      go (no l) =
          let n : h * down e ≤ m * up e = omega arith in
          let f : h ≤ m * up e / down e = (le-div_iff_mul-le (down_pos e)).1 n in
          let g : h * down e * down b ≤ m * up e * down b = mul-le-mul_right (down b) n in
          rw (le-leb h (min (m * up e / down e) 8191) (omega arith), s, le-leb (h * down e * down b) (m * up e * down b) g) refl

  abbrev x : Float
  x = fin false a b

  positive : (m : ℕ) (e : ℤ) → leb h (column_of (max_of (fin false m e) f0)) ≡ le x (fin false m e)
  unfolding to_unsigned le lt eq max_of is_nan
  positive m e =
      let z : 0 * up (pos 0) * down e ≡ 0 = ap (λ (k : ℕ). k * down e) (zero-mul (up (pos 0))) ∙ zero-mul (down e) in
      let n : ltb (m * up e * down (pos 0)) (0 * up (pos 0) * down e) ≡ false = le-ltb (m * up e * down (pos 0)) (0 * up (pos 0) * down e) (omega arith) in
      rw (zero_is, n) (from_zero m e ∙ sym (at_most (a * up b * down e) (m * up e * down b)))

  negative : (m : ℕ) (e : ℤ) → leb h (column_of (max_of (fin true m e) f0)) ≡ le x (fin true m e)
  unfolding to_unsigned le lt eq max_of is_nan
  negative m e =
      let p : 0 < a * up b * down e = subst (λ (k : ℕ). 0 < k) (sym (size (down e))) (mul-pos (mul-pos some (down_pos e)) (down_pos b)) in
      let n : eqb (a * up b * down e) 0 ≡ false = ne_eqb (a * up b * down e) 0 (λ q. omega arith) in
      rw (n, and_no (eqb (a * up b * down e) (m * up e * down b))) (go (lt (fin true m e) f0))
    where
      go : (s : Bool) → leb h (column_of (cond s f0 (fin true m e))) ≡ false
      go true = rw zero_is (lt-leb h 0 some)
      go false = lt-leb h 0 some

  at_height : (y : Float) → leb h (column_of (max_of y f0)) ≡ le x y
  unfolding to_unsigned le lt eq max_of is_nan
  at_height nan = rw zero_is (lt-leb h 0 some)
  at_height (inf true) = rw zero_is (lt-leb h 0 some)
  at_height (inf false) = rw zero_is (le-leb h 8191 (omega arith))
  at_height (fin true m e) = negative m e
  at_height (fin false m e) = positive m e

-- a row at or past the mask's height is a top line at or below it
same_test : (height : ℕ) (y : Float) → 0 < height → height ≤ 4096 → leb height (column_of (max_of y f0)) ≡ le (of_whole height) y
same_test height y some few = go (of_whole height) (whole_value height few)
  where
    go : (x : Float) → HasValue x false height 1 → leb height (column_of (max_of y f0)) ≡ le x y
    go nan v = absurd v
    go (inf s) v = absurd v
    go (fin false a b) v = at_height height some few a b v.1 y
    go (fin true a b) v = absurd (true≢false v.0)

-- ---- edges

abbrev pub Below : ℕ → List Edge → Type 0
Below height [] = Unit
Below height (e ∷ es) = (start_row e < height) × Below height es

pub both : (height : ℕ) (a b : List Edge) → Below height a → Below height b → Below height (a ++ b)
both height [] b p q = q
both height (e ∷ a) b p q = (p.0, both height a b p.1 q)

module _ (height : ℕ) (some : 0 < height) (few : height ≤ 4096) where
  sloped_starts : (xa ya xb yb down : Float) → Below height (sloped_of height xa ya xb yb down)
  unfolding sloped_of
  sloped_starts xa ya xb yb down = go (le yb f0) (le (of_whole height) ya) refl
    where
      edge : Edge
      edge = record { x = xa; y = ya; bottom = yb; slope = (xb ⊖ xa) ⊘ (yb ⊖ ya); down = down }

      go : (p q : Bool) → le (of_whole height) ya ≡ q → Below height (cond (p || q) [] (edge ∷ []))
      go true q e = tt
      go false true e = tt
      go false false e = (leb-false height (column_of (max_of ya f0)) (same_test height ya some few ∙ e), tt)

  pub edge_starts : (x0 y0 x1 y1 : Float) → Below height (edge_between height x0 y0 x1 y1)
  unfolding edge_between
  edge_starts x0 y0 x1 y1 = go (eq y0 y1) (lt y0 y1)
    where
      go : (level falls : Bool) → Below height (cond level [] (cond falls (sloped_of height x0 y0 x1 y1 f1) (sloped_of height x1 y1 x0 y0 f_minus_1)))
      go true falls = tt
      go false true = sloped_starts x0 y0 x1 y1 f1
      go false false = sloped_starts x1 y1 x0 y0 f_minus_1

-- of edges that are stored
pub below_at : (n height : ℕ) (fs : List Float) (at : ℕ) → Below height (edges_at fs at n) → (j : ℕ) → j < n → start_row (edge_at fs (at + 5 * j)) < height
unfolding edges_at
below_at zero height fs at b j h = absurd (omega arith)
below_at (suc n) height fs at b zero h = let e : at + 5 * 0 ≡ at = omega arith in rw e b.0
below_at (suc n) height fs at b (suc j) h = let e : at + 5 * suc j ≡ at + 5 + 5 * j = omega arith in rw e (below_at n height fs (at + 5) b.1 j (omega arith))

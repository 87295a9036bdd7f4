-- The active edges of a row are those that cross it: coordinates, rows and comparisons are all exact. Assumes nothing.
use mathlib.Core.Path.{◌≡◌, refl, sym, subst}
use mathlib.Core.Logic.{◌⊎◌, inl, inr}
use mathlib.Core.List.{List, [], ◌∷◌}
use mathlib.Core.Bool.{Bool, true, false, not, cond, ◌&&◌, ◌||◌, true≢false}
use Prim.Native.Nat.{ℕ, zero, suc, ◌*◌, ◌^◌, ◌≤◌, ◌<◌}
use native.Mathlib.Nat.{mul-pos, le_of_suc-le-suc}
use native.Mathlib.Decide.{dec_le}
use native.Mathlib.Omega.{arith}
use lib.IntN.{ℤ, pos, negsuc}
use lib.Dec.{T, eqb, nltb→le, eqb→eq, lit≤, T_not}
use lib.Signed.{lt_z}
use lib.Count.{count_trailing_zeros}
use lib.Ieee.{Float, nan, inf, fin, binary32, up, down, unlike, lt, le, eq, div, round, of_int, of_bits, of_fields, odd}
use lib.Ieee.Fits.{down_pos, div-fits, eq→eqb}
use lib.Ieee.Scale.{finite}
use Rattle.fraction.specs.Whole.{◌×ℕ◌, ◌≈ʷ◌}
use Rattle.fraction.specs.Fraction.{Fraction, ◌≤ᶠ◌, ◌<ᶠ◌, ◌≈ᶠ◌, natᶠ}
use Rattle.fraction.proofs.Linear.{at_le, at_lt, at_eq, lt_at, over, trans}
use Rattle.fraction.proofs.Order.{of_eq, sym≈, trans≈, antisym, le_or_lt, le_lt, lt_le, lt_not_le, nat_le}
use Rattle.fraction.proofs.Clamp.{min_at, max_at, max_ge_right}
use Rattle.rounding.specs.Value.{signed, signedᶠ, val}
use Rattle.rounding.specs.Rounding.{Is}
use Rattle.rounding.proofs.Exactly.{is_same, round_is_exact}
use Rattle.word_list.specs.Words.{beyond}
use Rattle.winding.specs.Winding.{exact_coordinate, crosses}
use Rattle.winding.proofs.Crosses.{crosses_yes, crosses_do}
use Rattle.float.specs.Ops.{◌⊖◌, ◌⊘◌, f0, f1, f_minus_1}
use Rattle.float.specs.Simple.{max_of}
use Rattle.whole.specs.Whole.{column_of, of_whole}
use Rattle.edge.specs.declared.Edge.{Edge}
use Rattle.edge.specs.Edges.{sloped_of, edge_between, start_row}
use Rattle.contour.specs.Contours.{subpixels, coordinate_of}
use Rattle.bound.proofs.Numbers.{Exact, zero_is, whole_is, lt_yes, lt_no, lt_do, le_yes, le_no, eq_yes, eq_do, max_is, column_is}
use Rattle.bound.proofs.Edges.{WordEdge, EdgeInLimit, exact_of, any, active_in, is_active}

-- ---- a coordinate word in cells: exact
signed_is : (s : Bool) (n : ℕ) → n < 2 ^ 24 → Is (signedᶠ s n 1 (lit≤ tt)) (round binary32 s n 1)
signed_is s n h = round_is_exact binary32 s n 1 (lit≤ tt) n 0 (lit≤ tt) h (omega arith)

subpixels_eq : subpixels ≡ fin false 1 (pos 8)
unfolding of_bits of_fields odd count_trailing_zeros
subpixels_eq = refl

same_size : (s t : Bool) (a n d : ℕ) → signed s a ×ℕ 1 ≈ʷ signed t n ×ℕ d → a ≡ n * d
same_size true true a n d h = omega (arith, h)
same_size false false a n d h = omega (arith, h)
same_size true false a n d h = omega (arith, h)
same_size false true a n d h = omega (arith, h)

by_256 : (x : Float) (t : Bool) (n : ℕ) → T (finite x) → val x ≈ᶠ signedᶠ t n 1 (lit≤ tt) → n < 2 ^ 24 → Is (signedᶠ t n 256 (lit≤ tt)) (div binary32 x subpixels)
unfolding val div
by_256 nan t n p h l = absurd p
by_256 (inf s) t n p h l = absurd p
by_256 (fin s m e) t n p h l = subst (λ (y : Float). Is (signedᶠ t n 256 (lit≤ tt)) (div binary32 (fin s m e) y)) (sym subpixels_eq) (go s h.eq)
  where
    C : 0 < 1 * 256 * down e
    C = mul-pos {m = 1 * 256} (lit≤ tt) (down_pos e)

    value : (s t : Bool) → signed s (m * up e) ×ℕ 1 ≈ʷ signed t n ×ℕ down e → signedᶠ s (m * up e * 1) (1 * 256 * down e) C ≈ᶠ signedᶠ t n 256 (lit≤ tt)
    value true true k = record { eq = omega (arith, k) }
    value true false k = record { eq = omega (arith, k) }
    value false true k = record { eq = omega (arith, k) }
    value false false k = record { eq = omega (arith, k) }

    go : (s : Bool) → signed s (m * up e) ×ℕ 1 ≈ʷ signed t n ×ℕ down e → Is (signedᶠ t n 256 (lit≤ tt)) (round binary32 (unlike s false) (m * up e * 1) (1 * 256 * down e))
    go true k = is_same (value true t k) (round_is_exact binary32 true (m * up e * 1) (1 * 256 * down e) C n 8 (lit≤ tt) l (omega (arith, same_size true t (m * up e) n (down e) k)))
    go false k = is_same (value false t k) (round_is_exact binary32 false (m * up e * 1) (1 * 256 * down e) C n 8 (lit≤ tt) l (omega (arith, same_size false t (m * up e) n (down e) k)))

-- within the limit
or_no : (a b : Bool) → a || b ≡ false → T (not a) × T (not b)
or_no true b t = absurd (true≢false t)
or_no false true t = absurd (true≢false t)
or_no false false t = (tt, tt)

pub pos_near : (n : ℕ) → beyond (pos n) ≡ false → n ≤ 1048576
unfolding beyond
pos_near n t = nltb→le 1048576 n (or_no (lt_z (pos n) (negsuc 1048575)) (lt_z (pos 1048576) (pos n)) t).1

pub negsuc_near : (n : ℕ) → beyond (negsuc n) ≡ false → n ≤ 1048575
unfolding beyond
negsuc_near n t = nltb→le 1048575 n (or_no (lt_z (negsuc n) (negsuc 1048575)) (lt_z (pos 1048576) (negsuc n)) t).0

pub coordinate_is : (w : ℤ) → beyond w ≡ false → Exact (exact_coordinate w) (coordinate_of w)
unfolding of_int
coordinate_is (pos n) t =
    let l = pos_near n t in
    let W = signed_is false n (omega arith) in
    let I = by_256 (round binary32 false n 1) false n W.fine W.eq (omega arith) in
    record { fine = I.fine; held = div-fits binary32 (of_int binary32 (pos n)) subpixels; eq = trans≈ I.eq (record { eq = refl }) }
coordinate_is (negsuc n) t =
    let l = negsuc_near n t in
    let W = signed_is true (suc n) (omega arith) in
    let I = by_256 (round binary32 true (suc n) 1) true (suc n) W.fine W.eq (omega arith) in
    record { fine = I.fine; held = div-fits binary32 (of_int binary32 (negsuc n)) subpixels; eq = trans≈ I.eq (record { eq = refl }) }

-- ---- the row that an edge starts in: the first whose lower side lies below its top
record Starts (A B : Fraction) (s : ℕ) : Type 0 where
  under : A <ᶠ natᶠ (suc s)
  least : (n : ℕ) → A <ᶠ natᶠ (suc n) → s ≤ n
  reach : natᶠ s <ᶠ B

nat_lt : {a b : ℕ} → natᶠ a <ᶠ natᶠ b → a < b
nat_lt h = omega (arith, h.lt)

starts : (A B : Fraction) (y : Float) → Exact A y → A <ᶠ B → natᶠ 0 <ᶠ B → A <ᶠ natᶠ 8192 → Starts A B (column_of (max_of y f0))
starts A B y a h b top =
    let v = max_of y f0 in
    let E = max_is a zero_is in
    let O = natᶠ 0 in
    let F = column_is v E.fine (trans (max_ge_right A O) (of_eq (sym≈ E.eq)))
    (over (A ∷ O ∷ natᶠ 8192 ∷ val v ∷ []) (λ N n X Z U M. lt_at N M U (omega (arith, n, Z.is, U.is, at_eq N M (max_at N n X Z) E.eq, at_lt N X U n top)))) in
    record {
      under = over (A ∷ O ∷ natᶠ (suc (column_of v)) ∷ val v ∷ []) (λ N n X Z S M. lt_at N X S (omega (arith, at_eq N M (max_at N n X Z) E.eq, at_lt N M S n F.1)));
      least = λ m k. le_of_suc-le-suc (nat_lt (over (A ∷ O ∷ natᶠ (column_of v) ∷ natᶠ (suc m) ∷ val v ∷ []) (λ N n X Z S K M.
          lt_at N S K (omega (arith, n, Z.is, K.is, at_eq N M (max_at N n X Z) E.eq, at_le N S M F.0, at_lt N X K n k)))));
      reach = over (A ∷ O ∷ natᶠ (column_of v) ∷ B ∷ val v ∷ []) (λ N n X Z S K M.
          lt_at N S K (omega (arith, at_eq N M (max_at N n X Z) E.eq, at_le N S M F.0, at_lt N X K n h, at_lt N Z K n b)));
    }

-- ---- active: it has started, and its bottom lies below the row's top
T-eqb : (a b : ℕ) → a ≡ b → T (eqb a b)
T-eqb a b e = eq→eqb {a = a} {b = b} e

module _ (A B : Fraction) (e : Edge) (S : Starts A B (start_row e)) (b : Exact B e.bottom) where
  active_yes : (row : ℕ) → row ≤ 4096 → T (active_in row e) → (start_row e ≤ row) × (natᶠ row <ᶠ B)
  active_yes zero l t = let z = eqb→eq (start_row e) 0 t in (omega (arith, z), le_lt (nat_le {m = 0} {n = start_row e} (omega arith)) S.reach)
  active_yes (suc row) l t =
      let reaches = lt_yes (whole_is (suc row) (omega arith)) b in
      go (eqb (start_row e) (suc row)) (eqb→eq (start_row e) (suc row)) (active_in row e) (active_yes row (omega arith)) (lt (of_whole (suc row)) e.bottom) reaches t
    where
      go : (x : Bool) → (T x → start_row e ≡ suc row) → (y : Bool) → (T y → (start_row e ≤ row) × (natᶠ row <ᶠ B)) → (z : Bool) → (T z → natᶠ (suc row) <ᶠ B)
          → T (cond x true (y && z)) → (start_row e ≤ suc row) × (natᶠ (suc row) <ᶠ B)
      go true f y g z h t = let q = f tt in (omega (arith, q), le_lt (nat_le {m = suc row} {n = start_row e} (omega (arith, q))) S.reach)
      go false f true g true h t = (omega (arith, (g tt).0), h tt)
      go false f true g false h t = absurd t
      go false f false g z h t = absurd t

  active_do : (row : ℕ) → row ≤ 4096 → start_row e ≤ row → natᶠ row <ᶠ B → T (active_in row e)
  active_do zero l h k = T-eqb (start_row e) 0 (omega arith)
  active_do (suc row) l h k =
      let above = le_lt (nat_le {m = row} {n = suc row} (omega arith)) k in
      let reaches = lt_do (whole_is (suc row) (omega arith)) b k in
      go (eqb (start_row e) (suc row)) apart (active_in row e) (λ q. active_do row (omega arith) q above) (lt (of_whole (suc row)) e.bottom) reaches
    where
      apart : T (not (eqb (start_row e) (suc row))) → start_row e ≤ row
      apart n = step (dec_le (start_row e) row)
        where
          step : Dec (start_row e ≤ row) → start_row e ≤ row
          step (yes q) = q
          step (no q) = absurd (T_not (eqb (start_row e) (suc row)) n (T-eqb (start_row e) (suc row) (omega arith)))

      both : (y z : Bool) → T y → T z → T (y && z)
      both true z t u = u
      both false z t u = absurd t

      go : (x : Bool) → (T (not x) → start_row e ≤ row) → (y : Bool) → (start_row e ≤ row → T y) → (z : Bool) → T z → T (cond x true (y && z))
      go true f y g z t = tt
      go false f y g z t = both y z (g (f tt)) t

pub bool_same : (a b : Bool) → (T a → T b) → (T b → T a) → a ≡ b
bool_same true true f g = refl
bool_same true false f g = absurd (f tt)
bool_same false true f g = absurd (g tt)
bool_same false false f g = refl

-- ---- an edge from its upper end at height A to its lower at B
module _ (h row : ℕ) (xa ya xb yb d : Float) (A B : Fraction) (H : h ≤ 4096) (l : row < h) (a : Exact A ya) (b : Exact B yb) (o : A <ᶠ B) where
  abbrev pub edge : Edge
  edge = record { x = xa; y = ya; bottom = yb; slope = (xb ⊖ xa) ⊘ (yb ⊖ ya); down = d }

  -- the engine keeps it, or it does not reach the rows of the mask
  pub kept : (P : List Edge → Type 0) → (natᶠ 0 <ᶠ B → A <ᶠ natᶠ h → P (edge ∷ [])) → ((A <ᶠ natᶠ (suc row) → natᶠ row <ᶠ B → ⊥) → P []) → P (sloped_of h xa ya xb yb d)
  unfolding sloped_of
  kept P on off = go (le yb f0) (le_yes b zero_is) (le_no b zero_is) (le (of_whole h) ya) (le_yes high a) (le_no high a)
    where
      high : Exact (natᶠ h) (of_whole h)
      high = whole_is h (omega arith)

      go : (x : Bool) → (T x → B ≤ᶠ natᶠ 0) → (T (not x) → natᶠ 0 <ᶠ B) → (y : Bool) → (T y → natᶠ h ≤ᶠ A) → (T (not y) → A <ᶠ natᶠ h) → P (cond (x || y) [] (edge ∷ []))
      go true f g y k m = off (λ p q. lt_not_le q (trans (f tt) (nat_le {m = 0} {n = row} (omega arith))))
      go false f g true k m = off (λ p q. lt_not_le p (trans (nat_le {m = suc row} {n = h} l) (k tt)))
      go false f g false k m = on (g tt) (m tt)

  one : (x : Bool) → T x → T (cond x true false)
  one true t = tt
  one false t = absurd t

  yes_one : (x : Bool) → T (cond x true false) → T x
  yes_one true t = tt
  yes_one false t = absurd t

  begins : natᶠ 0 <ᶠ B → A <ᶠ natᶠ h → Starts A B (start_row edge)
  begins f g = starts A B ya a o f (lt_le g (nat_le {m = h} {n = 8192} (omega arith)))

  sloped_yes : T (any (active_in row) (sloped_of h xa ya xb yb d)) → (A <ᶠ natᶠ (suc row)) × (natᶠ row <ᶠ B)
  sloped_yes = kept (λ (es : List Edge). T (any (active_in row) es) → (A <ᶠ natᶠ (suc row)) × (natᶠ row <ᶠ B))
      (λ f g t. let S = begins f g in let y = active_yes A B edge S b row (omega arith) (yes_one (active_in row edge) t) in (lt_le S.under (nat_le (omega (arith, y.0))), y.1))
      (λ f t. absurd t)

  sloped_do : A <ᶠ natᶠ (suc row) → natᶠ row <ᶠ B → T (any (active_in row) (sloped_of h xa ya xb yb d))
  sloped_do p q = kept (λ (es : List Edge). T (any (active_in row) es))
      (λ f g. let S = begins f g in one (active_in row edge) (active_do A B edge S b row (omega arith) (S.least row p) q))
      (λ f. f p q)

-- ---- THE ACTIVE EDGES
module _ (h row : ℕ) (r : WordEdge) (H : h ≤ 4096) (l : row < h) (m : EdgeInLimit r) where
  abbrev x0 : Float
  x0 = coordinate_of r.«from».x

  abbrev y0 : Float
  y0 = coordinate_of r.«from».y

  abbrev x1 : Float
  x1 = coordinate_of r.to.x

  abbrev y1 : Float
  y1 = coordinate_of r.to.y

  abbrev A : Fraction
  A = exact_coordinate r.«from».y

  abbrev B : Fraction
  B = exact_coordinate r.to.y

  a : Exact A y0
  a = coordinate_is r.«from».y m.«from».1

  b : Exact B y1
  b = coordinate_is r.to.y m.to.1

  -- y grows along the contour
  down_is : A <ᶠ B → any (active_in row) (sloped_of h x0 y0 x1 y1 f1) ≡ crosses (exact_of r) row
  down_is o = bool_same (any (active_in row) (sloped_of h x0 y0 x1 y1 f1)) (crosses (exact_of r) row)
      (λ t.
      let y = sloped_yes h row x0 y0 x1 y1 f1 A B H l a b o t in
      crosses_do (exact_of r) row (record {
        sloped = λ e. lt_not_le o (of_eq (sym≈ e));
        above = over (A ∷ B ∷ natᶠ (suc row) ∷ []) (λ N n P Q S. lt_at N (min_at N n P Q) S (omega (arith, at_lt N P Q n o, at_lt N P S n y.0)));
        below = over (A ∷ B ∷ natᶠ row ∷ []) (λ N n P Q R. lt_at N R (max_at N n P Q) (omega (arith, at_lt N P Q n o, at_lt N R Q n y.1)));
      }))
      (λ t.
      let c = crosses_yes (exact_of r) row t in
      sloped_do h row x0 y0 x1 y1 f1 A B H l a b o (over (A ∷ B ∷ natᶠ (suc row) ∷ []) (λ N n P Q S. lt_at N P S (omega (arith, at_lt N P Q n o, at_lt N (min_at N n P Q) S n c.above))))
      (over (A ∷ B ∷ natᶠ row ∷ []) (λ N n P Q R. lt_at N R Q (omega (arith, at_lt N P Q n o, at_lt N R (max_at N n P Q) n c.below)))))

  -- y falls
  up_is : B <ᶠ A → any (active_in row) (sloped_of h x1 y1 x0 y0 f_minus_1) ≡ crosses (exact_of r) row
  up_is o = bool_same (any (active_in row) (sloped_of h x1 y1 x0 y0 f_minus_1)) (crosses (exact_of r) row)
      (λ t.
      let y = sloped_yes h row x1 y1 x0 y0 f_minus_1 B A H l b a o t in
      crosses_do (exact_of r) row (record {
        sloped = λ e. lt_not_le o (of_eq e);
        above = over (A ∷ B ∷ natᶠ (suc row) ∷ []) (λ N n P Q S. lt_at N (min_at N n P Q) S (omega (arith, at_lt N Q P n o, at_lt N Q S n y.0)));
        below = over (A ∷ B ∷ natᶠ row ∷ []) (λ N n P Q R. lt_at N R (max_at N n P Q) (omega (arith, at_lt N Q P n o, at_lt N R P n y.1)));
      }))
      (λ t.
      let c = crosses_yes (exact_of r) row t in
      sloped_do h row x1 y1 x0 y0 f_minus_1 B A H l b a o (over (A ∷ B ∷ natᶠ (suc row) ∷ []) (λ N n P Q S. lt_at N Q S (omega (arith, at_lt N Q P n o, at_lt N (min_at N n P Q) S n c.above))))
      (over (A ∷ B ∷ natᶠ row ∷ []) (λ N n P Q R. lt_at N R P (omega (arith, at_lt N Q P n o, at_lt N R (max_at N n P Q) n c.below)))))

  strict : B ≤ᶠ A → ¬ (A ≈ᶠ B) → B <ᶠ A
  strict h f = go (le_or_lt A B)
    where
      go : (A ≤ᶠ B) ⊎ (B <ᶠ A) → B <ᶠ A
      go (inl k) = absurd (f (antisym k h))
      go (inr k) = k

  pub active_is : is_active h row r ≡ crosses (exact_of r) row
  unfolding edge_between
  active_is = go (eq y0 y1) (eq_yes a b) (λ t e. T_not (eq y0 y1) t (eq_do a b e)) (lt y0 y1) (lt_yes a b) (lt_no a b)
    where
      go : (x : Bool) → (T x → A ≈ᶠ B) → (T (not x) → ¬ (A ≈ᶠ B)) → (y : Bool) → (T y → A <ᶠ B) → (T (not y) → B ≤ᶠ A)
          → any (active_in row) (cond x [] (cond y (sloped_of h x0 y0 x1 y1 f1) (sloped_of h x1 y1 x0 y0 f_minus_1))) ≡ crosses (exact_of r) row
      go true f g y k n = bool_same false (crosses (exact_of r) row) (λ t. absurd t) (λ t. (crosses_yes (exact_of r) row t).sloped (f tt))
      go false f g true k n = down_is (k tt)
      go false f g false k n = up_is (strict (n tt) (g tt))

-- What a float's tests against zero, an infinity and itself tell. Assumes nothing.
use Rattle.std.proofs.Common.{◌≡◌, ℕ, zero, suc, ◌+◌, ◌*◌, ◌<◌, Bool, true, false, ◌&&◌, ◌||◌, T, ℤ, pos, sym, refl, ◌∙◌, subst, zero-lt-suc, mul-pos, arith, lt-ltb, eq-eqb, eqb-true}
use lib.Ieee.{Float, nan, inf, fin, up, down, lt, eq, ne, is_nan}
use lib.Ieee.Fits.{up_pos}
use lib.Ieee.Compare.{differs_from_itself, nan_differs}

pub never : {X : Type 0} → false ≡ true → X
never h = absurd (subst T (sym h) tt)

pub holds : {b : Bool} → b ≡ true → T b
holds h = subst T (sym h) tt

-- the literal 0.0
abbrev pub zero_f : Float
zero_f = fin false 0 (pos 0)

-- ---- zero

pub zero_level : (s : Bool) (e : ℤ) → eq (fin s zero e) zero_f ≡ true
unfolding eq
zero_level s e = simp (eq-eqb (0 * up e * 1) (0 * 1 * down e) (omega arith), eq-eqb (0 * up e * 1) 0 (omega arith), or_true)
  where
    or_true : (a : Bool) → a || true ≡ true
    or_true true = refl
    or_true false = refl

some : (m : ℕ) (e : ℤ) → 0 < suc m * up e
some m e = mul-pos (zero-lt-suc m) (up_pos e)

pub not_level : {X : Type 0} (s : Bool) (m : ℕ) (e : ℤ) → eq (fin s (suc m) e) zero_f ≡ true → X
unfolding eq
not_level s m e h = let k : suc m * up e * 1 ≡ 0 * 1 * down e = eqb-true _ _ (left _ _ h) in let p = some m e in absurd (omega arith)
  where
    left : (a b : Bool) → a && b ≡ true → a ≡ true
    left true b h = refl
    left false b h = h

pub zero_below : (m : ℕ) (e : ℤ) → lt zero_f (fin false (suc m) e) ≡ true
unfolding lt
zero_below m e = let p = some m e in lt-ltb (0 * 1 * down e) (suc m * up e * 1) (omega arith)

pub below_zero : (m : ℕ) (e : ℤ) → lt (fin true (suc m) e) zero_f ≡ true
unfolding lt
below_zero m e = let p = some m e in lt-ltb 0 (suc m * up e * 1 + 0 * 1 * down e) (omega arith)

-- ---- an infinity

pub is_inf : (t : Bool) (x : Float) → eq x (inf t) ≡ true → x ≡ inf t
unfolding eq
is_inf t nan h = never h
is_inf true (inf true) h = refl
is_inf true (inf false) h = never h
is_inf false (inf true) h = never h
is_inf false (inf false) h = refl
is_inf t (fin s m e) h = never h

-- ---- a NaN

pub is_nan_lem : (x : Float) → ne x x ≡ true → x ≡ nan
is_nan_lem x h = differs_from_itself x (holds h)

pub no_nan : (x : Float) → ne x x ≡ false → is_nan x ≡ false
unfolding is_nan ne
no_nan nan h = never (sym h ∙ nan_differs)
no_nan (inf s) h = refl
no_nan (fin s m e) h = refl

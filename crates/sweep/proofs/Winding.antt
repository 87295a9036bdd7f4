-- A winding stays as it is where 0.0 is added to it, so cells that hold 0.0 can be passed over: a running sum from
-- 0.0 on is never -0. Assumes nothing.
use mathlib.Core.Path.{◌≡◌, refl, sym, ap, ap₂, ◌∙◌, subst}
use mathlib.Core.Logic.{◌⊎◌, inl, inr}
use mathlib.Core.Bool.{Bool, true, false, cond, ◌&&◌, beq, false≢true}
use Prim.Native.Nat.{ℕ, zero, suc, ◌+◌, ◌-◌, ◌*◌, ◌/◌, ◌%◌, ◌^◌, ◌≤◌, ◌<◌, compare, Ordering}
use native.Mathlib.Nat.{mul-one, zero-mul, mul_comm, mul_assoc, mul_left_comm, add-mul, mul-pos, zero-lt-suc, pow-suc, pow-succ'}
use native.Mathlib.Nat.{eq_of_mul-eq-mul_right, lt_of_mul-lt-mul_right, mul-lt-mul_of_pos_right, mul-le-mul_left, mul-le-mul_right, le-div_iff_mul-le, le_trans}
use native.Mathlib.Omega.{arith}
use lib.IntN.{ℤ, pos, negsuc}
use lib.Dec.{T, eqb, ltb, leb, eqb→eq}
use lib.Pow.{pow-add, pow_pos}
use lib.Ieee.{Float, nan, inf, fin, Format, binary32, prec, emax, low, up, down, nearest, odd, units, round, sum, add, fits, of_bits}
use lib.Ieee.Exact.{HasValue, odd_sign}
use lib.Ieee.Fits.{two, two-le_pos, up_pos, down_pos, and_l, round_is, round-fits, add-fits}
use lib.Ieee.Nearest.{nearest-ge}
use lib.Ieee.Order.{drop}
use borrow.Author.Tests.{ltb-true, lt-ltb, le-ltb}
use Rattle.float.proofs.Simple.{flat}
use Rattle.float.specs.Ops.{f0, ◌⊕◌}
use Rattle.rounding.proofs.Base.{divides, fits_parts, own_rounding}
use Rattle.rounding.proofs.Grid.{unit_small}
use Rattle.sweep.specs.Sweeping.{Steady}
use Rattle.sweep.specs.Laws.{RunningSumIsSteady}

-- ---- a value of the format is written in one way

even_odd : (m t : ℕ) → m % 2 ≡ 1 → m ≡ 2 * t → ⊥
even_odd m t o h = omega arith

odd_pow : (m n a b : ℕ) → m % 2 ≡ 1 → n % 2 ≡ 1 → m * 2 ^ a ≡ n * 2 ^ b → (m ≡ n) × (a ≡ b)
odd_pow m n zero zero o p h = (sym (mul-one m) ∙ h ∙ mul-one n, refl)
odd_pow m n zero (suc b) o p h = absurd (even_odd m (n * 2 ^ b) o (sym (mul-one m) ∙ h ∙ ap (λ (x : ℕ). n * x) (pow-succ' 2 b) ∙ mul_left_comm n 2 (2 ^ b)))
odd_pow m n (suc a) zero o p h = absurd (even_odd n (m * 2 ^ a) p (sym (mul-one n) ∙ sym h ∙ ap (λ (x : ℕ). m * x) (pow-succ' 2 a) ∙ mul_left_comm m 2 (2 ^ a)))
odd_pow m n (suc a) (suc b) o p h =
    let r = odd_pow m n a b o p (eq_of_mul-eq-mul_right 2 (zero-lt-suc 1) (m * 2 ^ a) (n * 2 ^ b)
    (mul_assoc m (2 ^ a) 2 ∙ ap (λ (x : ℕ). m * x) (sym (pow-suc 2 a)) ∙ h ∙ ap (λ (x : ℕ). n * x) (pow-suc 2 b) ∙ sym (mul_assoc n (2 ^ b) 2))) in
    (r.0, ap suc r.1)

is_odd : (f : Format) (s : Bool) (m : ℕ) (e : ℤ) → T (fits f (fin s (suc m) e)) → suc m % 2 ≡ 1
unfolding fits
is_odd f s m e t =
    let a : Bool = eqb (suc m % 2) 1 in
    let b : Bool = ltb (suc m) (2 ^ prec f) in
    let c : Bool = leb (down e) (2 ^ low f) in
    eqb→eq (suc m % 2) 1 (and_l a b (and_l (a && b) c (and_l (a && b && c) (ltb (suc m * up e) (2 ^ suc (emax f) * down e)) t)))

zero_exp : (f : Format) (s : Bool) (e : ℤ) → T (fits f (fin s zero e)) → e ≡ pos 0
unfolding fits
zero_exp f s e t = flat e (eqb→eq (up e * down e) 1 t)

same_exp : (m n : ℕ) (e g : ℤ) → m % 2 ≡ 1 → n % 2 ≡ 1 → m * up e * down g ≡ n * up g * down e → (m ≡ n) × (e ≡ g)
same_exp m n (pos a) (pos b) o p h = let r = odd_pow m n a b o p (sym (mul-one (m * 2 ^ a)) ∙ h ∙ mul-one (n * 2 ^ b)) in (r.0, ap pos r.1)
same_exp m n (pos a) (negsuc b) o p h =
    let r = odd_pow m n (a + suc b) 0 o p (ap (λ (x : ℕ). m * x) (pow-add 2 a (suc b)) ∙ sym (mul_assoc m (2 ^ a) (2 ^ suc b)) ∙ h ∙ mul-one (n * 1)) in
    let z = r.1 in
    absurd (omega arith)
same_exp m n (negsuc a) (pos b) o p h =
    let r = odd_pow n m (b + suc a) 0 p o (ap (λ (x : ℕ). n * x) (pow-add 2 b (suc a)) ∙ sym (mul_assoc n (2 ^ b) (2 ^ suc a)) ∙ sym h ∙ mul-one (m * 1)) in
    let z = r.1 in
    absurd (omega arith)
same_exp m n (negsuc a) (negsuc b) o p h =
    let r = odd_pow m n (suc b) (suc a) o p (ap (λ (x : ℕ). x * 2 ^ suc b) (sym (mul-one m)) ∙ h ∙ ap (λ (x : ℕ). x * 2 ^ suc a) (mul-one n)) in
    let z : a ≡ b = (let q = r.1 in omega arith) in
    (r.0, ap negsuc z)

cross : (x y c p q a : ℕ) → 0 < c → x * c ≡ a * p → y * c ≡ a * q → x * q ≡ y * p
cross x y c p q a C h g = eq_of_mul-eq-mul_right c C (x * q) (y * p) (omega (arith, ap (λ (z : ℕ). z * q) h, ap (λ (z : ℕ). z * p) g))

some : (m : ℕ) (e g : ℤ) → 0 ≡ suc m * up e * down g → ⊥
some m e g h = let p : 0 < suc m * up e * down g = mul-pos (mul-pos (zero-lt-suc m) (up_pos e)) (down_pos g) in omega arith

unique : (f : Format) (x y : Float) (s : Bool) (a c : ℕ) → 0 < c → T (fits f x) → T (fits f y) → HasValue x s a c → HasValue y s a c → x ≡ y
unique f nan y s a c C p q v w = elim v [ ]
unique f (inf _) y s a c C p q v w = elim v [ ]
unique f (fin t zero e) nan s a c C p q v w = elim w [ ]
unique f (fin t zero e) (inf _) s a c C p q v w = elim w [ ]
unique f (fin t (suc m) e) nan s a c C p q v w = elim w [ ]
unique f (fin t (suc m) e) (inf _) s a c C p q v w = elim w [ ]
unique f (fin t zero e) (fin u zero g) s a c C p q v w = λ i. fin ((v.0 ∙ sym w.0) i) zero ((zero_exp f t e p ∙ sym (zero_exp f u g q)) i)
unique f (fin t zero e) (fin u (suc n) g) s a c C p q v w =
    absurd (some n g e (sym (zero-mul (down g)) ∙ ap (λ (z : ℕ). z * down g) (sym (zero-mul (up e))) ∙ cross (0 * up e) (suc n * up g) c (down e) (down g) a C v.1 w.1))
unique f (fin t (suc m) e) (fin u zero g) s a c C p q v w =
    absurd (some m e g (sym (zero-mul (down e)) ∙ ap (λ (z : ℕ). z * down e) (sym (zero-mul (up g))) ∙ cross (0 * up g) (suc m * up e) c (down g) (down e) a C w.1 v.1))
unique f (fin t (suc m) e) (fin u (suc n) g) s a c C p q v w =
    let r = same_exp (suc m) (suc n) e g (is_odd f t m e p) (is_odd f u n g q) (cross (suc m * up e) (suc n * up g) c (down e) (down g) a C v.1 w.1) in
    λ i. fin ((v.0 ∙ sym w.0) i) (r.0 i) (r.1 i)

pub itself : (f : Format) (s : Bool) (m : ℕ) (e : ℤ) → T (fits f (fin s m e)) → round f s (m * up e) (down e) ≡ fin s m e
itself f s m e t = unique f (round f s (m * up e) (down e)) (fin s m e) s (m * up e) (down e) (down_pos e) (round-fits f s (m * up e) (down e)) t (own_rounding f s s m e t) (refl, refl)

-- ---- 0.0 more

-- -0
abbrev minus_zero : Float
minus_zero = fin true zero (pos 0)

none_more : (s : Bool) (m : ℕ) (e : ℤ) → T (fits binary32 (fin s m e)) → (fin s m e ≡ minus_zero → ⊥) → fin s m e ⊕ f0 ≡ fin s m e
unfolding add sum of_bits
none_more false m e t n =
    let a : m * up e * 1 + 0 * 1 * down e ≡ m * up e = omega arith in
    let b : down e * 1 ≡ down e = mul-one (down e) in
    ap₂ (round binary32 false) a b ∙ itself binary32 false m e t
none_more true zero e t n = absurd (n (ap (fin true zero) (zero_exp binary32 true e t)))
none_more true (suc m) e t n =
    let z : 0 * 1 * down e ≡ 0 = omega arith in
    let p : 0 < suc m * up e * 1 = mul-pos (mul-pos (zero-lt-suc m) (up_pos e)) (zero-lt-suc 0) in
    let a : suc m * up e * 1 - 0 * 1 * down e ≡ suc m * up e = omega arith in
    rw (le-ltb (suc m * up e * 1) (0 * 1 * down e) (omega arith), lt-ltb (0 * 1 * down e) (suc m * up e * 1) (omega arith))
    (ap₂ (round binary32 true) a (mul-one (down e)) ∙ itself binary32 true (suc m) e t)

zero_more : (x : Float) → T (fits binary32 x) → (x ≡ minus_zero → ⊥) → x ⊕ f0 ≡ x
unfolding add of_bits
zero_more nan t n = refl
zero_more (inf s) t n = refl
zero_more (fin s m e) t n = none_more s m e t n

-- ---- a rounded value that is -0

sign_of : Float → Bool
sign_of nan = false
sign_of (inf s) = s
sign_of (fin s m e) = s

units_sign : (f : Format) (s : Bool) (q k : ℕ) → sign_of (units f s q k) ≡ s
unfolding units odd sign_of
units_sign f s q k = go (ltb (q * 2 ^ k) (2 ^ (low f + suc (emax f)))) q
  where
    go : (b : Bool) (q : ℕ) → sign_of (cond b (odd (suc (prec f)) s q k (low f)) (inf s)) ≡ s
    go true zero = refl
    go true (suc q) = refl
    go false q = refl

positive : (f : Format) (a c : ℕ) → round f false a c ≡ minus_zero → ⊥
unfolding sign_of
positive f a c h = false≢true (sym (units_sign f false _ _) ∙ ap sign_of (sym (round_is f false a c) ∙ h))

-- a multiple of the smallest value that is not 0 is not rounded to 0
kept_some : (p n c : ℕ) → 0 < p → 0 < c → c ≤ n → 1 ≤ n / (c * 2 ^ drop p n c)
kept_some p n c P C h = (le-div_iff_mul-le (mul-pos C (pow_pos (drop p n c)))).1 (go (unit_small p n c P C))
  where
    shrink : (x y : ℕ) → 0 < y → x * y ≤ n → 1 * x ≤ n
    shrink x y Y l = let k : x * 1 ≤ x * y = mul-le-mul_left x Y in omega arith

    go : (drop p n c ≡ 0) ⊎ (c * 2 ^ drop p n c * 2 ^ (p - 1) ≤ n) → 1 * (c * 2 ^ drop p n c) ≤ n
    go (inl e) = rw e (omega arith)
    go (inr l) = shrink (c * 2 ^ drop p n c) (2 ^ (p - 1)) (pow_pos (p - 1)) l

no_value : (q p : ℕ) → 0 < q → 0 * 1 * p ≡ q * 1 → ⊥
no_value q p h z = let y : 0 * 1 * p ≡ 0 = omega arith in omega arith

module _ (f : Format) where
  abbrev unit : ℕ
  unit = 2 ^ low f

  units_some : (q k : ℕ) → 1 ≤ q → units f true q k ≡ minus_zero → ⊥
  unfolding units
  units_some q k h e = go (ltb (q * 2 ^ k) (2 ^ (low f + suc (emax f)))) e
    where
      go : (b : Bool) → cond b (odd (suc (prec f)) true q k (low f)) (inf true) ≡ minus_zero → ⊥
      go true z = no_value (q * 2 ^ k) unit (mul-pos h (pow_pos k)) (subst (λ (x : Float). HasValue x true (q * 2 ^ k) unit) z (odd_sign (suc (prec f)) true q k (low f))).1
      go false z = let y : ◌≡◌ {A = ℕ} 0 1 = cc in omega arith

  rounded : (a c u : ℕ) → 0 < c → 0 < u → a * unit ≡ u * c → round f true a c ≡ minus_zero → ⊥
  rounded a c u C U h e =
      let l : c ≤ a * unit = (let k : 1 * c ≤ u * c = mul-le-mul_right c U in omega arith) in
      some_kept (a * unit / (c * 2 ^ drop (prec f) (a * unit) c)) (compare (a * unit % (c * 2 ^ drop (prec f) (a * unit) c) * 2) (c * 2 ^ drop (prec f) (a * unit) c)) (drop (prec f) (a * unit) c)
      (kept_some (prec f) (a * unit) c (two-le_pos (prec f) (two f)) C l) (sym (round_is f true a c) ∙ e)
    where
      some_kept : (q : ℕ) (o : Ordering) (k : ℕ) → 1 ≤ q → units f true (nearest q o) k ≡ minus_zero → ⊥
      some_kept q o k h z = units_some (nearest q o) k (le_trans h (nearest-ge q o)) z

  -- a value of the format is a whole number of its smallest values
  in_units : (s : Bool) (m : ℕ) (e : ℤ) → T (fits f (fin s m e)) → (u : ℕ) × (m * up e * unit ≡ u * down e) × (0 < m → 0 < u)
  in_units s zero e t = (0, omega arith, λ h. h)
  in_units s (suc m) e t =
      let j = divides (low f) e (fits_parts f s m e t).1 in
      (suc m * 2 ^ j.0, omega (arith, ap (λ (x : ℕ). suc m * x) j.1), λ h. mul-pos (zero-lt-suc m) (pow_pos j.0))

-- ---- a sum

less : (p c a b v w : ℕ) → 0 < p → a * p ≡ v * c → b * p ≡ w * c → a < b → ((b - a) * p ≡ (w - v) * c) × (0 < w - v)
less p c a b v w P A B h =
    let l : v * c < w * c = (let k : a * p < b * p = mul-lt-mul_of_pos_right h P in omega arith) in
    let m : v < w = lt_of_mul-lt-mul_right c l in
    let x : a + (b - a) ≡ b = omega arith in
    let y : v + (w - v) ≡ w = omega arith in
    (rest (b - a) (w - v) (ap (λ (z : ℕ). z * p) x ∙ B ∙ ap (λ (z : ℕ). z * c) (sym y)), omega arith)
  where
    rest : (d x : ℕ) → (a + d) * p ≡ (v + x) * c → d * p ≡ x * c
    rest d x q = omega arith

scaled : (x d g p u : ℕ) → x * p ≡ u * g → x * d * p ≡ u * (g * d)
scaled x d g p u h = omega (arith, ap (λ (z : ℕ). z * d) h)

module _ (f : Format) (s t : Bool) (a b c v w : ℕ) (C : 0 < c) (A : a * 2 ^ low f ≡ v * c) (B : b * 2 ^ low f ≡ w * c) (some-a : s ≡ true → 0 < v) where
  apart : (t : Bool) (a b v w : ℕ) → a * 2 ^ low f ≡ v * c → b * 2 ^ low f ≡ w * c → a < b → round f t (b - a) c ≡ minus_zero → ⊥
  apart true a b v w A B h e = let l = less (2 ^ low f) c a b v w (pow_pos (low f)) A B h in rounded f (b - a) c (w - v) C l.1 l.0 e
  apart false a b v w A B h e = positive f (b - a) c e

  sum_some : sum f s a t b c ≡ minus_zero → ⊥
  unfolding sum
  sum_some e = go s t refl (ltb a b) (ltb b a) refl refl e
    where
      go : (s' t' : Bool) → s ≡ s' → (p q : Bool) → ltb a b ≡ p → ltb b a ≡ q
          → cond (beq s' t') (round f s' (a + b) c) (cond p (round f t' (b - a) c) (round f (s' && q) (a - b) c)) ≡ minus_zero → ⊥
      go true true n p q x y e = rounded f (a + b) c (v + w) C (omega (arith, some-a n)) (add-mul a b (2 ^ low f) ∙ ap₂ (λ (i j : ℕ). i + j) A B ∙ sym (add-mul v w c)) e
      go false false n p q x y e = positive f (a + b) c e
      go true false n true q x y e = apart false a b v w A B (ltb-true a b x) e
      go true false n false true x y e = apart true b a w v B A (ltb-true b a y) e
      go true false n false false x y e = positive f (a - b) c e
      go false true n true q x y e = apart true a b v w A B (ltb-true a b x) e
      go false true n false q x y e = positive f (a - b) c e

-- ---- windings

pub steady_zero : Steady f0
unfolding fits of_bits
steady_zero = zero_more f0 tt (λ h. let z : ◌≡◌ {A = ℕ} 0 1 = cc in omega arith)

minus_zero_moves : Steady minus_zero → ⊥
unfolding add sum of_bits
minus_zero_moves h = positive binary32 0 1 h

above : (s : Bool) (m : ℕ) (e : ℤ) → T (fits binary32 (fin s m e)) → (fin s m e ≡ minus_zero → ⊥) → s ≡ true → 0 < m
above s zero e t n h = absurd (n (ap₂ (λ (b : Bool) (g : ℤ). fin b zero g) h (zero_exp binary32 s e t)))
above s (suc m) e t n h = zero-lt-suc m

pub steady_more : (w a : Float) → T (fits binary32 a) → Steady w → Steady (w ⊕ a)
unfolding add
steady_more w a t h = zero_more (w ⊕ a) (add-fits binary32 w a) (go w a (subst (λ (x : Float). T (fits binary32 x)) h (add-fits binary32 w f0)) t (λ e. minus_zero_moves (subst Steady e h)))
  where
    go : (w a : Float) → T (fits binary32 w) → T (fits binary32 a) → (w ≡ minus_zero → ⊥) → w ⊕ a ≡ minus_zero → ⊥
    go nan a p q n e = let z : ◌≡◌ {A = ℕ} 0 1 = cc in omega arith
    go (inf s) nan p q n e = let z : ◌≡◌ {A = ℕ} 0 1 = cc in omega arith
    go (inf true) (inf true) p q n e = let z : ◌≡◌ {A = ℕ} 0 1 = cc in omega arith
    go (inf true) (inf false) p q n e = let z : ◌≡◌ {A = ℕ} 0 1 = cc in omega arith
    go (inf false) (inf true) p q n e = let z : ◌≡◌ {A = ℕ} 0 1 = cc in omega arith
    go (inf false) (inf false) p q n e = let z : ◌≡◌ {A = ℕ} 0 1 = cc in omega arith
    go (inf s) (fin t m d) p q n e = let z : ◌≡◌ {A = ℕ} 0 1 = cc in omega arith
    go (fin s m g) nan p q n e = let z : ◌≡◌ {A = ℕ} 0 1 = cc in omega arith
    go (fin s m g) (inf t) p q n e = let z : ◌≡◌ {A = ℕ} 0 1 = cc in omega arith
    go (fin s m g) (fin t k d) p q n e =
        let u = in_units binary32 s m g p in
        let v = in_units binary32 t k d q in
        let left = scaled (m * up g) (down d) (down g) (2 ^ 149) u.0 u.1 in
        let right = scaled (k * up d) (down g) (down d) (2 ^ 149) v.0 v.1 ∙ ap (λ (x : ℕ). v.0 * x) (mul_comm (down d) (down g)) in
        sum_some binary32 s t (m * up g * down d) (k * up d * down g) (down g * down d) u.0 v.0 (mul-pos (down_pos g) (down_pos d))
        left right (λ h. u.2 (above s m g p n h)) e

pub running_sum_is_steady : RunningSumIsSteady
running_sum_is_steady = record { start = steady_zero; more = steady_more; never_minus_zero = minus_zero_moves }

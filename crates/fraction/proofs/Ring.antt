-- POLYNOMIAL IDENTITIES OVER FRACTIONS, BY COMPUTATION. A polynomial in x₀, x₁, .. is a constant, or p + x₀ * q with
-- p in x₁, .. alone. `ev` gives its value at a list of fractions. `Rep ρ x` is a polynomial with the value x at ρ;
-- `search rep` finds it for a sum, difference, product, negation or whole number, from those of its parts. `ring ρ
-- (search ..) (search ..) tt` proves x ≈ᶠ y where the two polynomials come to the same: `quartic`, below, shows the
-- form. Assumes nothing.
use mathlib.Core.Path.{refl}
use mathlib.Core.List.{List, [], ◌∷◌}
use mathlib.Core.Bool.{Bool, true, false, ◌&&◌}
use Prim.Native.Nat.{ℕ, zero, suc}
use native.Mathlib.Nat.{zero-lt-suc}
use native.Mathlib.Omega.{arith}
use lib.Dec.{T, eqb, eqb→eq}
use Rattle.fraction.specs.Whole.{Whole, ◌+ʷ◌, ◌*ʷ◌, negʷ, natʷ}
use Rattle.fraction.specs.Fraction.{Fraction, ◌≤ᶠ◌, ◌≈ᶠ◌, natᶠ, wholeᶠ, ◌+ᶠ◌, ◌-ᶠ◌, ◌*ᶠ◌, negᶠ}
use Rattle.fraction.proofs.Linear.{at_le, at_eq, le_at, eq_at, add_at, sub_at, neg_at, over, self}
use Rattle.fraction.proofs.Order.{sym≈, trans≈, mul_comm, mul_assoc, mul_left_comm, mul_add, mul_cong, mul_one, add_mul, zero_mul, square_nonneg}

pub data Poly : Type 0 where
  con : Whole → Poly
  hor : Poly → Poly → Poly

abbrev pub hd : List Fraction → Fraction
hd [] = natᶠ 0
hd (x ∷ ρ) = x

abbrev pub tl : List Fraction → List Fraction
tl [] = []
tl (x ∷ ρ) = ρ

-- the value at ρ
pub ev : Poly → List Fraction → Fraction
ev (con c) ρ = wholeᶠ c
ev (hor p q) ρ = ev p (tl ρ) +ᶠ hd ρ *ᶠ ev q ρ

-- ---- arithmetic
infixl 6 ◌⊞◌
abbrev pub ◌⊞◌ : Poly → Poly → Poly
con c ⊞ con d = con (c +ʷ d)
con c ⊞ hor p q = hor (con c ⊞ p) q
hor p q ⊞ con d = hor (p ⊞ con d) q
hor p q ⊞ hor r s = hor (p ⊞ r) (q ⊞ s)

abbrev pub scale : Whole → Poly → Poly
scale c (con d) = con (c *ʷ d)
scale c (hor p q) = hor (scale c p) (scale c q)

-- a p that has not x₀, times r; f is `p times`
abbrev pub times_up : (Poly → Poly) → Poly → Poly → Poly
times_up f p (con d) = hor (scale d p) (con (natʷ 0))
times_up f p (hor r s) = hor (f r) (times_up f p s)

infixl 7 ◌⊠◌
abbrev pub ◌⊠◌ : Poly → Poly → Poly
con c ⊠ r = scale c r
hor p q ⊠ r = times_up (λ t. p ⊠ t) p r ⊞ hor (con (natʷ 0)) (q ⊠ r)

abbrev pub zero? : Poly → Bool
zero? (con c) = eqb c.plus c.minus
zero? (hor p q) = zero? p && zero? q

-- ---- and what it is worth
add_ok : (p q : Poly) (ρ : List Fraction) → ev (p ⊞ q) ρ ≈ᶠ ev p ρ +ᶠ ev q ρ
unfolding ev
add_ok (con c) (con d) ρ = consts c d
  where
    consts : (c d : Whole) → wholeᶠ (c +ʷ d) ≈ᶠ wholeᶠ c +ᶠ wholeᶠ d
    consts c d = eq_at 1 (self (wholeᶠ (c +ʷ d))) (add_at 1 (self (wholeᶠ c)) (self (wholeᶠ d))) (zero-lt-suc 0) refl
add_ok (con c) (hor p q) ρ = let i = add_ok (con c) p (tl ρ) in
    over (ev (con c ⊞ p) (tl ρ) ∷ wholeᶠ c ∷ ev p (tl ρ) ∷ hd ρ *ᶠ ev q ρ ∷ []) (λ N n U C P X. eq_at N (add_at N U X) (add_at N C (add_at N P X)) n (omega (arith, at_eq N U (add_at N C P) i)))
add_ok (hor p q) (con d) ρ = let i = add_ok p (con d) (tl ρ) in
    over (ev (p ⊞ con d) (tl ρ) ∷ wholeᶠ d ∷ ev p (tl ρ) ∷ hd ρ *ᶠ ev q ρ ∷ []) (λ N n U D P X. eq_at N (add_at N U X) (add_at N (add_at N P X) D) n (omega (arith, at_eq N U (add_at N P D) i)))
add_ok (hor p q) (hor r s) ρ = let i = add_ok p r (tl ρ) in let j = trans≈ (mul_cong (hd ρ) (add_ok q s ρ)) (mul_add (hd ρ) (ev q ρ) (ev s ρ)) in
    over (ev (p ⊞ r) (tl ρ) ∷ ev p (tl ρ) ∷ ev r (tl ρ) ∷ hd ρ *ᶠ ev (q ⊞ s) ρ ∷ hd ρ *ᶠ ev q ρ ∷ hd ρ *ᶠ ev s ρ ∷ []) (λ N n U P R Y Q S.
    eq_at N (add_at N U Y) (add_at N (add_at N P Q) (add_at N R S)) n (omega (arith, at_eq N U (add_at N P R) i, at_eq N Y (add_at N Q S) j)))

-- u ≈ a + b and v ≈ w from parts: the three forms in which the rest goes
sum_of : {u a v b w : Fraction} → u ≈ᶠ a → v ≈ᶠ b → w ≈ᶠ a +ᶠ b → u +ᶠ v ≈ᶠ w
sum_of {u} {a} {v} {b} {w} h k l = over (u ∷ a ∷ v ∷ b ∷ w ∷ []) (λ N n U A X B W. eq_at N (add_at N U X) W n (omega (arith, at_eq N U A h, at_eq N X B k, at_eq N W (add_at N A B) l)))

consts_mul : (c d : Whole) → wholeᶠ (c *ʷ d) ≈ᶠ wholeᶠ c *ᶠ wholeᶠ d
unfolding ◌*ᶠ◌
consts_mul c d = record { eq = omega arith }

scale_ok : (c : Whole) (p : Poly) (ρ : List Fraction) → ev (scale c p) ρ ≈ᶠ wholeᶠ c *ᶠ ev p ρ
unfolding ev
scale_ok c (con d) ρ = consts_mul c d
scale_ok c (hor p q) ρ =
    sum_of (scale_ok c p (tl ρ)) (trans≈ (mul_cong (hd ρ) (scale_ok c q ρ)) (mul_left_comm (hd ρ) (wholeᶠ c) (ev q ρ))) (mul_add (wholeᶠ c) (ev p (tl ρ)) (hd ρ *ᶠ ev q ρ))

-- w + x * 0
plus_none : (w x : Fraction) → w ≈ᶠ w +ᶠ x *ᶠ natᶠ 0
plus_none w x = over (w ∷ x *ᶠ natᶠ 0 ∷ natᶠ 0 ∷ []) (λ N n W X O. eq_at N W (add_at N W X) n (omega (arith, O.is, at_eq N X O (trans≈ (mul_comm x (natᶠ 0)) (zero_mul x)))))

up_ok : (f : Poly → Poly) (p r : Poly) (ρ : List Fraction) → ((t : Poly) → ev (f t) (tl ρ) ≈ᶠ ev p (tl ρ) *ᶠ ev t (tl ρ)) → ev (times_up f p r) ρ ≈ᶠ ev p (tl ρ) *ᶠ ev r ρ
unfolding ev
up_ok f p (con d) ρ h = trans≈ (sym≈ (plus_none (ev (scale d p) (tl ρ)) (hd ρ))) (trans≈ (scale_ok d p (tl ρ)) (mul_comm (wholeᶠ d) (ev p (tl ρ))))
up_ok f p (hor r s) ρ h =
    sum_of (h r) (trans≈ (mul_cong (hd ρ) (up_ok f p s ρ h)) (mul_left_comm (hd ρ) (ev p (tl ρ)) (ev s ρ))) (mul_add (ev p (tl ρ)) (ev r (tl ρ)) (hd ρ *ᶠ ev s ρ))

none_plus : (w : Fraction) → natᶠ 0 +ᶠ w ≈ᶠ w
none_plus w = over (w ∷ natᶠ 0 ∷ []) (λ N n W O. eq_at N (add_at N O W) W n (omega (arith, O.is)))

mul_ok : (p r : Poly) (ρ : List Fraction) → ev (p ⊠ r) ρ ≈ᶠ ev p ρ *ᶠ ev r ρ
unfolding ev
mul_ok (con c) r ρ = scale_ok c r ρ
mul_ok (hor p q) r ρ =
    trans≈ (add_ok (times_up (λ t. p ⊠ t) p r) (hor (con (natʷ 0)) (q ⊠ r)) ρ)
    (sum_of (up_ok (λ t. p ⊠ t) p r ρ (λ t. mul_ok p t (tl ρ)))
    (trans≈ (none_plus (hd ρ *ᶠ ev (q ⊠ r) ρ)) (trans≈ (mul_cong (hd ρ) (mul_ok q r ρ)) (sym≈ (mul_assoc (hd ρ) (ev q ρ) (ev r ρ)))))
    (add_mul (ev p (tl ρ)) (hd ρ *ᶠ ev q ρ) (ev r ρ)))

both : (a b : Bool) → T (a && b) → T a × T b
both true b t = (tt, t)
both false b t = absurd t

zero_ok : (p : Poly) (ρ : List Fraction) → T (zero? p) → ev p ρ ≈ᶠ natᶠ 0
unfolding ev
zero_ok (con c) ρ t = record { eq = omega (arith, eqb→eq c.plus c.minus t) }
zero_ok (hor p q) ρ t =
    let b = both (zero? p) (zero? q) t in
    trans≈ (sum_of (zero_ok p (tl ρ) b.0) (mul_cong (hd ρ) (zero_ok q ρ b.1)) (plus_none (natᶠ 0) (hd ρ))) (record { eq = refl })

-- ---- a polynomial with the value x at ρ
pub record Rep (ρ : List Fraction) (x : Fraction) : Type 0 where
  pub e : Poly
  pub is : ev e ρ ≈ᶠ x

abbrev pub var : ℕ → Poly
var zero = hor (con (natʷ 0)) (con (natʷ 1))
var (suc i) = hor (var i) (con (natʷ 0))

abbrev pub nth : List Fraction → ℕ → Fraction
nth [] i = natᶠ 0
nth (x ∷ ρ) zero = x
nth (x ∷ ρ) (suc i) = nth ρ i

pub var_ok : (ρ : List Fraction) (i : ℕ) → ev (var i) ρ ≈ᶠ nth ρ i
unfolding ev
var_ok [] zero = trans≈ (none_plus (natᶠ 0 *ᶠ natᶠ 1)) (mul_one (natᶠ 0))
var_ok (x ∷ ρ) zero = trans≈ (none_plus (x *ᶠ natᶠ 1)) (mul_one x)
var_ok [] (suc i) = trans≈ (sym≈ (plus_none (ev (var i) []) (natᶠ 0))) (trans≈ (var_ok [] i) none)
  where
    none : nth [] i ≈ᶠ natᶠ 0
    none = record { eq = refl }
var_ok (x ∷ ρ) (suc i) = trans≈ (sym≈ (plus_none (ev (var i) ρ) x)) (var_ok ρ i)

pub cong_add : {x y z w : Fraction} → x ≈ᶠ y → z ≈ᶠ w → x +ᶠ z ≈ᶠ y +ᶠ w
cong_add {x} {y} {z} {w} h k = sum_of h k (record { eq = refl })

pub cong_sub : {x y z w : Fraction} → x ≈ᶠ y → z ≈ᶠ w → x -ᶠ z ≈ᶠ y -ᶠ w
cong_sub {x} {y} {z} {w} h k = over (x ∷ y ∷ z ∷ w ∷ []) (λ N n X Y Z W. eq_at N (sub_at N X Z) (sub_at N Y W) n (omega (arith, at_eq N X Y h, at_eq N Z W k)))

pub cong_mul : {x y z w : Fraction} → x ≈ᶠ y → z ≈ᶠ w → x *ᶠ z ≈ᶠ y *ᶠ w
cong_mul {x} {y} {z} {w} h k = trans≈ (mul_cong x k) (trans≈ (mul_comm x w) (trans≈ (mul_cong w h) (mul_comm w y)))

pub opposite : (x : Fraction) → wholeᶠ (negʷ (natʷ 1)) *ᶠ x ≈ᶠ negᶠ x
unfolding ◌*ᶠ◌ negᶠ
opposite x = record { eq = omega arith }

pub minus_is : (x y : Fraction) → x +ᶠ negᶠ y ≈ᶠ x -ᶠ y
minus_is x y = over (x ∷ y ∷ []) (λ N n X Y. eq_at N (add_at N X (neg_at N Y)) (sub_at N X Y) n (omega arith))

pub lift_is : (y : Fraction) (ρ : List Fraction) (x : Fraction) (r : Rep ρ x) → ev (hor r.e (con (natʷ 0))) (y ∷ ρ) ≈ᶠ x
unfolding ev
lift_is y ρ x r = trans≈ (sym≈ (plus_none (ev r.e ρ) y)) r.is

module _ (ρ : List Fraction) where
  pub add_rep_is : {x y : Fraction} (a : Rep ρ x) (b : Rep ρ y) → ev (a.e ⊞ b.e) ρ ≈ᶠ x +ᶠ y
  add_rep_is a b = trans≈ (add_ok a.e b.e ρ) (cong_add a.is b.is)

  pub neg_rep_is : {x : Fraction} (a : Rep ρ x) → ev (scale (negʷ (natʷ 1)) a.e) ρ ≈ᶠ negᶠ x
  neg_rep_is {x} a = trans≈ (scale_ok (negʷ (natʷ 1)) a.e ρ) (trans≈ (mul_cong (wholeᶠ (negʷ (natʷ 1))) a.is) (opposite x))

  pub mul_rep_is : {x y : Fraction} (a : Rep ρ x) (b : Rep ρ y) → ev (a.e ⊠ b.e) ρ ≈ᶠ x *ᶠ y
  mul_rep_is a b = trans≈ (mul_ok a.e b.e ρ) (cong_mul a.is b.is)

  pub con_rep_is : (c : Whole) → ev (con c) ρ ≈ᶠ wholeᶠ c
  unfolding ev
  con_rep_is c = record { eq = refl }

  abbrev pub add_rep : {x y : Fraction} → Rep ρ x → Rep ρ y → Rep ρ (x +ᶠ y)
  add_rep a b = record { e = a.e ⊞ b.e; is = add_rep_is a b }

  abbrev pub neg_rep : {x : Fraction} → Rep ρ x → Rep ρ (negᶠ x)
  neg_rep a = record { e = scale (negʷ (natʷ 1)) a.e; is = neg_rep_is a }

  pub sub_rep_is : {x y : Fraction} (a : Rep ρ x) (b : Rep ρ y) → ev (a.e ⊞ scale (negʷ (natʷ 1)) b.e) ρ ≈ᶠ x -ᶠ y
  sub_rep_is {x} {y} a b = trans≈ (add_rep_is a (neg_rep b)) (minus_is x y)

  abbrev pub sub_rep : {x y : Fraction} → Rep ρ x → Rep ρ y → Rep ρ (x -ᶠ y)
  sub_rep a b = record { e = a.e ⊞ scale (negʷ (natʷ 1)) b.e; is = sub_rep_is a b }

  abbrev pub mul_rep : {x y : Fraction} → Rep ρ x → Rep ρ y → Rep ρ (x *ᶠ y)
  mul_rep a b = record { e = a.e ⊠ b.e; is = mul_rep_is a b }

  abbrev pub con_rep : (c : Whole) → Rep ρ (wholeᶠ c)
  con_rep c = record { e = con c; is = con_rep_is c }

  -- the i-th of ρ
  abbrev pub v : (i : ℕ) → Rep ρ (nth ρ i)
  v i = record { e = var i; is = var_ok ρ i }

  -- THE THEOREM
  pub ring : {x y : Fraction} (a : Rep ρ x) (b : Rep ρ y) → T (zero? (a.e ⊞ scale (negʷ (natʷ 1)) b.e)) → x ≈ᶠ y
  ring {x} {y} a b t = over (x -ᶠ y ∷ x ∷ y ∷ natᶠ 0 ∷ []) (λ N n D X Y O.
      eq_at N X Y n (omega (arith, O.is, at_eq N D (sub_at N X Y) (record { eq = refl }), at_eq N D O (trans≈ (sym≈ (sub_rep_is a b)) (zero_ok (a.e ⊞ scale (negʷ (natʷ 1)) b.e) ρ t)))))

pub ruleset rep = (add_rep, sub_rep, neg_rep, mul_rep, con_rep)

-- ---- the form
-- ρ's own, one after another
abbrev pub Reps : List Fraction → List Fraction → Type 0
Reps ρ [] = Unit {0}
Reps ρ (x ∷ xs) = Rep ρ x × Reps ρ xs

abbrev pub lift_reps : (y : Fraction) (ρ xs : List Fraction) → Reps ρ xs → Reps (y ∷ ρ) xs
lift_reps y ρ [] r = tt
lift_reps y ρ (x ∷ xs) r = (record { e = hor r.0.e (con (natʷ 0)); is = lift_is y ρ x r.0 }, lift_reps y ρ xs r.1)

abbrev pub reps : (ρ : List Fraction) → Reps ρ ρ
reps [] = tt
reps (x ∷ ρ) = (v (x ∷ ρ) 0, lift_reps x ρ ρ (reps ρ))

-- ---- the form
shuffle : (x y z w : Fraction) → x *ᶠ (y *ᶠ (z *ᶠ w)) ≈ᶠ (y *ᶠ z) *ᶠ (x *ᶠ w)
shuffle x y z w = let ρ = x ∷ y ∷ z ∷ w ∷ [] in let R = reps ρ in ring ρ (search rep) (search rep) tt

quartic : (a b c d e : Fraction) → (a +ᶠ b) *ᶠ (c +ᶠ d) *ᶠ e *ᶠ (a -ᶠ e) ≈ᶠ e *ᶠ (a -ᶠ e) *ᶠ (c *ᶠ a +ᶠ d *ᶠ a +ᶠ (c *ᶠ b +ᶠ d *ᶠ b))
quartic a b c d e = let ρ = a ∷ b ∷ c ∷ d ∷ e ∷ [] in let R = reps ρ in ring ρ (search rep depth 9) (search rep depth 9) tt

-- an inequality by a certificate: y - x is a p that is known not to be negative. Here p is a square
pub le_by : {x y p : Fraction} → natᶠ 0 ≤ᶠ p → y -ᶠ x ≈ᶠ p → x ≤ᶠ y
le_by {x} {y} {p} h q = over (x ∷ y ∷ p ∷ natᶠ 0 ∷ []) (λ N n X Y P O. le_at N X Y n (omega (arith, O.is, at_le N O P h, at_eq N (sub_at N Y X) P q)))

means : (x y : Fraction) → natᶠ 4 *ᶠ (x *ᶠ y) ≤ᶠ (x +ᶠ y) *ᶠ (x +ᶠ y)
means x y = let ρ = x ∷ y ∷ [] in let R = reps ρ in le_by (square_nonneg (x -ᶠ y)) (ring ρ (search rep) (search rep) tt)

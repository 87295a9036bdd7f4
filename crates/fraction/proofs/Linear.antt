-- LINEAR FACTS OVER FRACTIONS, BY `omega`. `over` brings a list of fractions to a common denominator N. `At N x` is
-- the whole number z with x = z / N. `search at` finds it for a sum, a difference or a negation, from those of its
-- parts. `at_le` takes a hypothesis x ≤ y to one about whole numbers, and `le_at` takes the goal back. In between all
-- is whole and linear, so `omega arith` ends the proof. `trans` and `regroup`, below, show the form. Assumes nothing.
use mathlib.Core.Path.{◌≡◌, refl, sym, ap, ◌∙◌}
use mathlib.Core.List.{List, [], ◌∷◌}
use Prim.Native.Nat.{ℕ, ◌+◌, ◌-◌, ◌*◌, ◌≤◌, ◌<◌}
use native.Mathlib.Nat.{mul-pos, mul-le-mul_right, le_of_mul-le-mul_right, lt_of_mul-lt-mul_right, mul-lt-mul_of_pos_right}
use native.Mathlib.Nat.{eq_of_mul-eq-mul_right, zero-lt-suc, le_of_eq, le_antisymm, le_dest, add_comm}
use native.Mathlib.Decide.{dec_le}
use native.Mathlib.Omega.{arith}
use lib.Dec.{T, leb→le, eqb→eq, ltb→lt}
use Rattle.fraction.specs.Whole.{Whole, ◌+ʷ◌, ◌-ʷ◌, ◌*ʷ◌, ◌×ℕ◌, negʷ, natʷ, sizeʷ, ◌≤ʷ◌, ◌<ʷ◌, ◌≈ʷ◌}
use Rattle.fraction.specs.Fraction.{Fraction, ◌≤ᶠ◌, ◌<ᶠ◌, ◌≈ᶠ◌, leᵇ, ltᵇ, eqᵇ, ◌+ᶠ◌, ◌-ᶠ◌, ◌*ᶠ◌, negᶠ, absᶠ}

-- ---- x is z / N
pub record At (N : ℕ) (x : Fraction) : Type 0 where
  pub z : Whole
  pub is : z ×ℕ x.den ≈ʷ x.num ×ℕ N

module _ (N : ℕ) where
  -- a hypothesis, over N
  pub at_le : {x y : Fraction} (a : At N x) (b : At N y) → x ≤ᶠ y → a.z ≤ʷ b.z
  at_le {x} {y} a b h =
      le_of_mul-le-mul_right (omega (arith, mul-le-mul_right N h.le, ap (λ (t : ℕ). t * y.den) a.is, ap (λ (t : ℕ). t * x.den) b.is)) (mul-pos x.pos y.pos)

  pub at_eq : {x y : Fraction} (a : At N x) (b : At N y) → x ≈ᶠ y → a.z ≈ʷ b.z
  at_eq {x} {y} a b h = omega (arith, at_le a b (record { le = le_of_eq h.eq }), at_le b a (record { le = le_of_eq (sym h.eq) }))

  pub at_lt : {x y : Fraction} (a : At N x) (b : At N y) → 0 < N → x <ᶠ y → a.z <ʷ b.z
  at_lt {x} {y} a b n h =
      lt_of_mul-lt-mul_right (x.den * y.den) (omega (arith, mul-lt-mul_of_pos_right h.lt n, ap (λ (t : ℕ). t * y.den) a.is, ap (λ (t : ℕ). t * x.den) b.is))

  -- the goal, from N
  pub lt_at : {x y : Fraction} (a : At N x) (b : At N y) → a.z <ʷ b.z → x <ᶠ y
  lt_at {x} {y} a b h =
      record { lt = lt_of_mul-lt-mul_right N (omega (arith, mul-lt-mul_of_pos_right h (mul-pos x.pos y.pos), ap (λ (t : ℕ). t * y.den) a.is, ap (λ (t : ℕ). t * x.den) b.is)) }

  pub le_at : {x y : Fraction} (a : At N x) (b : At N y) → 0 < N → a.z ≤ʷ b.z → x ≤ᶠ y
  le_at {x} {y} a b n h =
      record { le = le_of_mul-le-mul_right (omega (arith, mul-le-mul_right (x.den * y.den) h, ap (λ (t : ℕ). t * y.den) a.is, ap (λ (t : ℕ). t * x.den) b.is)) n }

  pub eq_at : {x y : Fraction} (a : At N x) (b : At N y) → 0 < N → a.z ≈ʷ b.z → x ≈ᶠ y
  eq_at {x} {y} a b n h = record { eq = le_antisymm (le_at a b n (le_of_eq h)).le (le_at b a n (le_of_eq (sym h))).le }

  -- the operations, over N
  pub add_is : {x y : Fraction} (a : At N x) (b : At N y) → (a.z +ʷ b.z) ×ℕ (x +ᶠ y).den ≈ʷ (x +ᶠ y).num ×ℕ N
  unfolding ◌+ᶠ◌
  add_is {x} {y} a b = omega (arith, ap (λ (t : ℕ). t * y.den) a.is, ap (λ (t : ℕ). t * x.den) b.is)

  pub sub_is : {x y : Fraction} (a : At N x) (b : At N y) → (a.z -ʷ b.z) ×ℕ (x -ᶠ y).den ≈ʷ (x -ᶠ y).num ×ℕ N
  unfolding ◌-ᶠ◌
  sub_is {x} {y} a b = omega (arith, ap (λ (t : ℕ). t * y.den) a.is, ap (λ (t : ℕ). t * x.den) b.is)

  pub neg_is : {x : Fraction} (a : At N x) → negʷ a.z ×ℕ (negᶠ x).den ≈ʷ (negᶠ x).num ×ℕ N
  unfolding negᶠ
  neg_is {x} a = omega (arith, a.is)

  abbrev pub add_at : {x y : Fraction} → At N x → At N y → At N (x +ᶠ y)
  add_at a b = record { z = a.z +ʷ b.z; is = add_is a b }

  abbrev pub sub_at : {x y : Fraction} → At N x → At N y → At N (x -ᶠ y)
  sub_at a b = record { z = a.z -ʷ b.z; is = sub_is a b }

  abbrev pub neg_at : {x : Fraction} → At N x → At N (negᶠ x)
  neg_at a = record { z = negʷ a.z; is = neg_is a }

  -- a literal q times x, listed in `over` as a fraction of its own: what ties it to x. For a literal q the fact is
  -- linear
  pub scale_at : (q : Fraction) {x : Fraction} (a : At N x) (b : At N (q *ᶠ x)) → b.z ×ℕ q.den ≈ʷ q.num *ʷ a.z
  unfolding ◌*ᶠ◌
  scale_at q {x} a b =
      let h : (b.z ×ℕ q.den) ×ℕ x.den ≈ʷ (q.num *ʷ a.z) ×ℕ x.den =
      omega (arith, b.is, ap (λ (t : ℕ). q.num.plus * t) a.is, ap (λ (t : ℕ). q.num.minus * t) a.is) in
      eq_of_mul-eq-mul_right x.den x.pos ((b.z ×ℕ q.den).plus + (q.num *ʷ a.z).minus) ((q.num *ʷ a.z).plus + (b.z ×ℕ q.den).minus) (omega (arith, h))

pub ruleset at = (add_at, sub_at, neg_at)

-- another way to write x: the same number over N
pub same_is : (N : ℕ) {x y : Fraction} → x ≈ᶠ y → (a : At N x) → a.z ×ℕ y.den ≈ʷ y.num ×ℕ N
same_is N {x} {y} q a =
    eq_of_mul-eq-mul_right x.den x.pos (a.z.plus * y.den + y.num.minus * N) (y.num.plus * N + a.z.minus * y.den)
    (omega (arith, ap (λ (t : ℕ). t * y.den) a.is, ap (λ (t : ℕ). t * N) q.eq))

abbrev pub at_same : (N : ℕ) {x y : Fraction} → x ≈ᶠ y → At N x → At N y
at_same N q a = record { z = a.z; is = same_is N q a }

-- ---- a size, over N
abs_down : (p q r s d N : ℕ) → 0 < N → p ≤ q → p * d + s * N ≡ r * N + q * d → ((p - q) + (q - p)) * d ≡ ((r - s) + (s - r)) * N
abs_down p q r s d N n l h =
    let u = le_dest l in
    let g : r ≤ s = le_of_mul-le-mul_right (omega (arith, h, mul-le-mul_right d l)) n in
    let v = le_dest g in
    let e : (p - q) + (q - p) ≡ u.0 = omega (arith, u.1) in
    let f : (r - s) + (s - r) ≡ v.0 = omega (arith, v.1) in
    omega (arith, h, ap (λ (t : ℕ). t * d) e, ap (λ (t : ℕ). t * N) f, ap (λ (t : ℕ). t * d) u.1, ap (λ (t : ℕ). t * N) v.1)

abs_up : (p q r s d N : ℕ) → 0 < N → Dec (p ≤ q) → p * d + s * N ≡ r * N + q * d → ((p - q) + (q - p)) * d ≡ ((r - s) + (s - r)) * N
abs_up p q r s d N n (yes l) h = abs_down p q r s d N n l h
abs_up p q r s d N n (no f) h = ap (λ (t : ℕ). t * d) (add_comm (p - q) (q - p)) ∙ abs_down q p s r d N n (omega arith) (omega (arith, h)) ∙ ap (λ (t : ℕ). t * N) (add_comm (s - r) (r - s))

pub abs_is : (N : ℕ) → 0 < N → {x : Fraction} (a : At N x) → natʷ (sizeʷ a.z) ×ℕ (absᶠ x).den ≈ʷ (absᶠ x).num ×ℕ N
unfolding absᶠ
abs_is N n {x} a =
    let h = abs_up a.z.plus a.z.minus x.num.plus x.num.minus x.den N n (dec_le a.z.plus a.z.minus) a.is in
    omega (arith, h)

abbrev pub abs_at : (N : ℕ) → 0 < N → {x : Fraction} → At N x → At N (absᶠ x)
abs_at N n a = record { z = natʷ (sizeʷ a.z); is = abs_is N n a }

-- ---- a product, over the product of the denominators
pub cong : (a b c d : Whole) → a ≈ʷ b → c ≈ʷ d → a *ʷ c ≈ʷ b *ʷ d
cong a b c d h k =
    omega (arith, ap (λ (t : ℕ). t * c.plus) h, ap (λ (t : ℕ). t * c.minus) h, ap (λ (t : ℕ). b.plus * t) k, ap (λ (t : ℕ). b.minus * t) k)

apart : (a b : Whole) (m n : ℕ) → (a *ʷ b) ×ℕ (m * n) ≈ʷ (a ×ℕ m) *ʷ (b ×ℕ n)
apart a b m n = omega arith

chain : (a b c d : Whole) → a ≈ʷ b → b ≈ʷ c → d ≈ʷ c → a ≈ʷ d
chain a b c d h k l = omega arith

pub mul_is : (M N : ℕ) {x y : Fraction} (a : At M x) (b : At N y) → (a.z *ʷ b.z) ×ℕ (x *ᶠ y).den ≈ʷ (x *ᶠ y).num ×ℕ (M * N)
unfolding ◌*ᶠ◌
mul_is M N {x} {y} a b =
    chain ((a.z *ʷ b.z) ×ℕ (x.den * y.den)) ((a.z ×ℕ x.den) *ʷ (b.z ×ℕ y.den)) ((x.num ×ℕ M) *ʷ (y.num ×ℕ N)) ((x.num *ʷ y.num) ×ℕ (M * N))
    (apart a.z b.z x.den y.den) (cong (a.z ×ℕ x.den) (x.num ×ℕ M) (b.z ×ℕ y.den) (y.num ×ℕ N) a.is b.is) (apart x.num y.num M N)

abbrev pub mul_at : (M N : ℕ) {x y : Fraction} → At M x → At N y → At (M * N) (x *ᶠ y)
mul_at M N a b = record { z = a.z *ʷ b.z; is = mul_is M N a b }

abbrev pub self : (x : Fraction) → At x.den x
self x = record { z = x.num; is = refl }

-- ---- a common denominator
abbrev pub Frame : ℕ → List Fraction → Type 0 → Type 0
Frame N [] G = G
Frame N (x ∷ xs) G = At N x → Frame N xs G

-- over N * d as well as over N
widen : (N d : ℕ) (x : Fraction) → At N x → At (N * d) x
widen N d x a = record { z = a.z ×ℕ d; is = omega (arith, ap (λ (t : ℕ). t * d) a.is) }

narrow : (N d : ℕ) (xs : List Fraction) (G : Type 0) → Frame (N * d) xs G → Frame N xs G
narrow N d [] G k = k
narrow N d (x ∷ xs) G k = λ a. narrow N d xs G (k (widen N d x a))

own : (N : ℕ) (x : Fraction) → At (N * x.den) x
own N x = record { z = x.num ×ℕ N; is = omega arith }

pub over : (xs : List Fraction) {G : Type 0} → ((N : ℕ) → 0 < N → Frame N xs G) → G
over [] k = k 1 (zero-lt-suc 0)
over (x ∷ xs) {G} k = over xs {G = G} (λ N n. narrow N x.den xs G (k (N * x.den) (mul-pos n x.pos) (own N x)))

-- ---- two fractions written out in numerals: `lit tt`
pub lit : {x y : Fraction} → T (leᵇ x y) → x ≤ᶠ y
lit {x} {y} t = record { le = leb→le (x.num.plus * y.den + y.num.minus * x.den) (y.num.plus * x.den + x.num.minus * y.den) t }

pub lit≈ : {x y : Fraction} → T (eqᵇ x y) → x ≈ᶠ y
lit≈ {x} {y} t = record { eq = eqb→eq (x.num.plus * y.den + y.num.minus * x.den) (y.num.plus * x.den + x.num.minus * y.den) t }

pub lit<ᶠ : {x y : Fraction} → T (ltᵇ x y) → x <ᶠ y
lit<ᶠ {x} {y} t = record { lt = ltb→lt (x.num.plus * y.den + y.num.minus * x.den) (y.num.plus * x.den + x.num.minus * y.den) t }

-- ---- the form, at two examples
pub trans : {x y z : Fraction} → x ≤ᶠ y → y ≤ᶠ z → x ≤ᶠ z
trans {x} {y} {z} h k = over (x ∷ y ∷ z ∷ []) (λ N n X Y Z. le_at N X Z n (omega (arith, at_le N X Y h, at_le N Y Z k)))

regroup : (x y z : Fraction) → x ≤ᶠ y +ᶠ z → z ≤ᶠ x -ᶠ y → x -ᶠ (y +ᶠ z) ≤ᶠ z -ᶠ (x -ᶠ y)
regroup x y z h k = over (x ∷ y ∷ z ∷ []) (λ N n X Y Z. le_at N (search at) (search at) n (omega (arith, at_le N (search at) (search at) h, at_le N (search at) (search at) k)))

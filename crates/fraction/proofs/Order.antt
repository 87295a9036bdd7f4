-- The laws of fractions: the order, products, sizes. A linear law is one line by `Linear`; a law of products is
-- `omega` over the naturals that it comes to. Assumes nothing.
use mathlib.Core.Path.{◌≡◌, refl, sym, ap}
use mathlib.Core.List.{[], ◌∷◌}
use mathlib.Core.Logic.{◌⊎◌, inl, inr}
use mathlib.Core.Bool.{Bool, true, false, not, cond}
use Prim.Native.Nat.{ℕ, suc, ◌+◌, ◌-◌, ◌*◌, ◌≤◌, ◌<◌, max}
use native.Mathlib.Nat.{le_dest, le_refl as ℕ-refl, le_of_eq, add_comm, mul-le-mul_left, mul-pos}
use native.Mathlib.Decide.{dec_le}
use native.Mathlib.Omega.{arith}
use lib.Dec.{T, ltb, ltb→lt, nltb→le}
use Rattle.fraction.specs.Whole.{Whole, ◌*ʷ◌, negʷ, natʷ, ◌≤ʷ◌}
use Rattle.fraction.specs.Fraction.{Fraction, ◌≤ᶠ◌, ◌<ᶠ◌, ◌≈ᶠ◌, natᶠ, ◌+ᶠ◌, ◌-ᶠ◌, ◌*ᶠ◌, negᶠ, invᶠ, ◌/ᶠ◌}
use Rattle.fraction.proofs.Linear.{At, at, at_le, at_lt, at_eq, le_at, lt_at, eq_at, add_at, sub_at, mul_at, cong, self, over, trans}

-- ---- ≤ and ≈
pub refl≈ : (x : Fraction) → x ≈ᶠ x
refl≈ x = record { eq = refl }

pub refl≤ : (x : Fraction) → x ≤ᶠ x
refl≤ x = record { le = ℕ-refl _ }

pub of_eq : {x y : Fraction} → x ≈ᶠ y → x ≤ᶠ y
of_eq h = record { le = le_of_eq h.eq }

pub sym≈ : {x y : Fraction} → x ≈ᶠ y → y ≈ᶠ x
sym≈ h = record { eq = sym h.eq }

pub trans≈ : {x y z : Fraction} → x ≈ᶠ y → y ≈ᶠ z → x ≈ᶠ z
trans≈ {x} {y} {z} h k = over (x ∷ y ∷ z ∷ []) (λ N n X Y Z. eq_at N X Z n (omega (arith, at_eq N X Y h, at_eq N Y Z k)))

pub antisym : {x y : Fraction} → x ≤ᶠ y → y ≤ᶠ x → x ≈ᶠ y
antisym {x} {y} h k = over (x ∷ y ∷ []) (λ N n X Y. eq_at N X Y n (omega (arith, at_le N X Y h, at_le N Y X k)))

pub of_lt : {x y : Fraction} → x <ᶠ y → x ≤ᶠ y
of_lt h = record { le = omega (arith, h.lt) }

pub le_or_lt : (x y : Fraction) → (x ≤ᶠ y) ⊎ (y <ᶠ x)
le_or_lt x y = go (dec_le _ _)
  where
    a : ℕ
    a = x.num.plus * y.den + y.num.minus * x.den

    b : ℕ
    b = y.num.plus * x.den + x.num.minus * y.den

    go : Dec (a ≤ b) → (x ≤ᶠ y) ⊎ (y <ᶠ x)
    go (yes h) = inl (record { le = h })
    go (no f) = inr (record { lt = omega arith })

-- equal numbers serve one for the other
pub le_cong : {x y z w : Fraction} → x ≈ᶠ y → z ≈ᶠ w → x ≤ᶠ z → y ≤ᶠ w
le_cong p q h = trans (of_eq (sym≈ p)) (trans h (of_eq q))

pub lt_not : {x y : Fraction} → x <ᶠ y → ¬ (y ≈ᶠ x)
lt_not h e = omega (arith, h.lt, e.eq)

pub lt_not_le : {x y : Fraction} → x <ᶠ y → ¬ (y ≤ᶠ x)
lt_not_le h k = omega (arith, h.lt, k.le)

pub lt_trans : {x y z : Fraction} → x <ᶠ y → y <ᶠ z → x <ᶠ z
lt_trans {x} {y} {z} h k = over (x ∷ y ∷ z ∷ []) (λ N n X Y Z. lt_at N X Z (omega (arith, at_lt N X Y n h, at_lt N Y Z n k)))

pub le_lt : {x y z : Fraction} → x ≤ᶠ y → y <ᶠ z → x <ᶠ z
le_lt {x} {y} {z} h k = over (x ∷ y ∷ z ∷ []) (λ N n X Y Z. lt_at N X Z (omega (arith, at_le N X Y h, at_lt N Y Z n k)))

pub lt_le : {x y z : Fraction} → x <ᶠ y → y ≤ᶠ z → x <ᶠ z
lt_le {x} {y} {z} h k = over (x ∷ y ∷ z ∷ []) (λ N n X Y Z. lt_at N X Z (omega (arith, at_lt N X Y n h, at_le N Y Z k)))

-- the difference of two in order
pub sub_above : {x y : Fraction} → x <ᶠ y → natᶠ 0 <ᶠ y -ᶠ x
sub_above {x} {y} h = over (x ∷ y ∷ natᶠ 0 ∷ []) (λ N n X Y O. lt_at N O (sub_at N Y X) (omega (arith, O.is, at_lt N X Y n h)))

pub sub_nonneg : {x y : Fraction} → x ≤ᶠ y → natᶠ 0 ≤ᶠ y -ᶠ x
sub_nonneg {x} {y} h = over (x ∷ y ∷ natᶠ 0 ∷ []) (λ N n X Y O. le_at N O (sub_at N Y X) n (omega (arith, O.is, at_le N X Y h)))

-- whole numbers
pub nat_le : {m n : ℕ} → m ≤ n → natᶠ m ≤ᶠ natᶠ n
nat_le h = record { le = omega arith }

-- ---- sums
pub add_mono : {x y z w : Fraction} → x ≤ᶠ y → z ≤ᶠ w → x +ᶠ z ≤ᶠ y +ᶠ w
add_mono {x} {y} {z} {w} h k = over (x ∷ y ∷ z ∷ w ∷ []) (λ N n X Y Z W. le_at N (search at) (search at) n (omega (arith, at_le N X Y h, at_le N Z W k)))

pub neg_mono : {x y : Fraction} → x ≤ᶠ y → negᶠ y ≤ᶠ negᶠ x
neg_mono {x} {y} h = over (x ∷ y ∷ []) (λ N n X Y. le_at N (search at) (search at) n (omega (arith, at_le N X Y h)))

-- ---- products
pub mul_comm : (x y : Fraction) → x *ᶠ y ≈ᶠ y *ᶠ x
unfolding ◌*ᶠ◌
mul_comm x y = record { eq = omega arith }

pub mul_assoc : (x y z : Fraction) → x *ᶠ y *ᶠ z ≈ᶠ x *ᶠ (y *ᶠ z)
unfolding ◌*ᶠ◌
mul_assoc x y z = record { eq = omega arith }

-- x * y for a y over N
abbrev times : (x : Fraction) (N : ℕ) {y : Fraction} → At N y → At (x.den * N) (x *ᶠ y)
times x N Y = mul_at x.den N (self x) Y

pub mul_left_comm : (x y z : Fraction) → x *ᶠ (y *ᶠ z) ≈ᶠ y *ᶠ (x *ᶠ z)
unfolding ◌*ᶠ◌
mul_left_comm x y z = record { eq = omega arith }

pub add_mul : (x y z : Fraction) → (x +ᶠ y) *ᶠ z ≈ᶠ x *ᶠ z +ᶠ y *ᶠ z
add_mul x y z =
    over (x ∷ y ∷ []) (λ N n X Y. eq_at (N * z.den) (mul_at N z.den (add_at N X Y) (self z))
    (add_at (N * z.den) (mul_at N z.den X (self z)) (mul_at N z.den Y (self z))) (mul-pos n z.pos) (omega arith))

pub one_more : (n : ℕ) (x : Fraction) → natᶠ (suc n) *ᶠ x ≈ᶠ natᶠ n *ᶠ x +ᶠ x
unfolding ◌*ᶠ◌ ◌+ᶠ◌
one_more n x = record { eq = omega arith }

pub zero_mul : (x : Fraction) → natᶠ 0 *ᶠ x ≈ᶠ natᶠ 0
unfolding ◌*ᶠ◌
zero_mul x = record { eq = omega arith }

pub mul_one : (x : Fraction) → x *ᶠ natᶠ 1 ≈ᶠ x
unfolding ◌*ᶠ◌
mul_one x = record { eq = omega arith }

pub mul_add : (x y z : Fraction) → x *ᶠ (y +ᶠ z) ≈ᶠ x *ᶠ y +ᶠ x *ᶠ z
mul_add x y z = over (y ∷ z ∷ []) (λ N n Y Z. eq_at (x.den * N) (times x N (add_at N Y Z)) (add_at (x.den * N) (times x N Y) (times x N Z)) (mul-pos x.pos n) (omega arith))

pub mul_sub : (x y z : Fraction) → x *ᶠ (y -ᶠ z) ≈ᶠ x *ᶠ y -ᶠ x *ᶠ z
mul_sub x y z = over (y ∷ z ∷ []) (λ N n Y Z. eq_at (x.den * N) (times x N (sub_at N Y Z)) (sub_at (x.den * N) (times x N Y) (times x N Z)) (mul-pos x.pos n) (omega arith))

pub mul_neg : (x y : Fraction) → x *ᶠ negᶠ y ≈ᶠ negᶠ (x *ᶠ y)
unfolding ◌*ᶠ◌ negᶠ
mul_neg x y = record { eq = omega arith }

pub mono : (a b c : Whole) → natʷ 0 ≤ʷ a → b ≤ʷ c → a *ʷ b ≤ʷ a *ʷ c
mono a b c p h =
    let d =
    le_dest p in omega (
      arith,
      mul-le-mul_left d.0 h,
      ap (λ (t : ℕ). t * b.plus) d.1,
      ap (λ (t : ℕ). t * c.plus)
          d.1,
      ap (λ (t : ℕ). t * b.minus) d.1,
      ap (λ (t : ℕ). t * c.minus) d.1,
    )

nonneg : {x : Fraction} → natᶠ 0 ≤ᶠ x → natʷ 0 ≤ʷ x.num
nonneg p = omega (arith, p.le)

pub mul_mono : {x y z : Fraction} → natᶠ 0 ≤ᶠ x → y ≤ᶠ z → x *ᶠ y ≤ᶠ x *ᶠ z
mul_mono {x} {y} {z} p h = over (y ∷ z ∷ []) (λ N n Y Z. le_at (x.den * N) (times x N Y) (times x N Z) (mul-pos x.pos n) (mono x.num Y.z Z.z (nonneg p) (at_le N Y Z h)))

pub mul_mono_right : {x y z : Fraction} → natᶠ 0 ≤ᶠ z → x ≤ᶠ y → x *ᶠ z ≤ᶠ y *ᶠ z
mul_mono_right {x} {y} {z} p h = trans (of_eq (mul_comm x z)) (trans (mul_mono p h) (of_eq (mul_comm z y)))

pub mul_cong : (x : Fraction) {y z : Fraction} → y ≈ᶠ z → x *ᶠ y ≈ᶠ x *ᶠ z
mul_cong x {y} {z} h = over (y ∷ z ∷ []) (λ N n Y Z. eq_at (x.den * N) (times x N Y) (times x N Z) (mul-pos x.pos n) (cong x.num x.num Y.z Z.z refl (at_eq N Y Z h)))

pub mul_nonneg : {x y : Fraction} → natᶠ 0 ≤ᶠ x → natᶠ 0 ≤ᶠ y → natᶠ 0 ≤ᶠ x *ᶠ y
unfolding ◌*ᶠ◌
mul_nonneg {x} {y} p q = record { le = omega (arith, mono x.num (natʷ 0) y.num (nonneg p) (nonneg q)) }

pub sub_mul : (x y z : Fraction) → (x -ᶠ y) *ᶠ z ≈ᶠ x *ᶠ z -ᶠ y *ᶠ z
sub_mul x y z =
    over (x ∷ y ∷ []) (λ N n X Y. eq_at (N * z.den) (mul_at N z.den (sub_at N X Y) (self z))
    (sub_at (N * z.den) (mul_at N z.den X (self z)) (mul_at N z.den Y (self z))) (mul-pos n z.pos) (omega arith))

square : (a : Whole) → Dec (a.minus ≤ a.plus) → natʷ 0 ≤ʷ a *ʷ a
square a (yes l) = omega (arith, mono a (natʷ 0) a (omega arith) (omega arith))
square a (no f) = omega (arith, mono (negʷ a) (natʷ 0) (negʷ a) (omega arith) (omega arith))

pub square_nonneg : (x : Fraction) → natᶠ 0 ≤ᶠ x *ᶠ x
unfolding ◌*ᶠ◌
square_nonneg x = record { le = omega (arith, square x.num (dec_le x.num.minus x.num.plus)) }

-- ---- 1 / y. Above 0 it is den / num, and below 0 the negation of 1 / -y
chosen : (a b c : ℕ) (x : Bool) → (T (not x) → b ≤ a) → a < b → cond x c 0 ≡ c
chosen a b c true h l = refl
chosen a b c false h l = absurd (native.Mathlib.Nat.not-le_of_lt l (h tt))

refused : (a b c : ℕ) (x : Bool) → (T x → a < b) → b ≤ a → cond x c 0 ≡ 0
refused a b c true g l = absurd (native.Mathlib.Nat.not-le_of_lt (g tt) l)
refused a b c false g l = refl

inv_parts : (y : Fraction) → natᶠ 0 <ᶠ y
    → ((invᶠ y).num.plus ≡ y.den) × ((invᶠ y).num.minus ≡ 0) × ((invᶠ y).den + y.num.minus ≡ y.num.plus)
unfolding invᶠ
inv_parts y h =
    let a = y.num.minus in
    let b = y.num.plus in
    let l : a < b = omega (arith, h.lt) in
    (chosen a b y.den (ltb a b) (nltb→le a b) l, refused b a y.den (ltb b a) (ltb→lt b a) (native.Mathlib.Nat.le_of_lt l), omega arith)

inv-mul⁺ : (y : Fraction) → natᶠ 0 <ᶠ y → invᶠ y *ᶠ y ≈ᶠ natᶠ 1
unfolding ◌*ᶠ◌
inv-mul⁺ y h =
    let i = inv_parts y h in
    let p = y.num.plus in
    let m = y.num.minus in
    record {
      eq = omega (
        arith,
        ap (λ (t : ℕ). t * p) i.0,
        ap (λ (t : ℕ). t * m) i.0,
        ap (λ (t : ℕ). t * p) i.1,
        ap (λ (t : ℕ). t * m) i.1,
        ap (λ (t : ℕ). t * y.den) i.2,
      );
    }

pub inv_nonneg : (y : Fraction) → natᶠ 0 <ᶠ y → natᶠ 0 ≤ᶠ invᶠ y
inv_nonneg y h = let i = inv_parts y h in record { le = omega (arith, i.1) }

inv_neg : (y : Fraction) → invᶠ (negᶠ y) *ᶠ negᶠ y ≈ᶠ invᶠ y *ᶠ y
unfolding invᶠ negᶠ ◌*ᶠ◌
inv_neg y =
    let s : max 1 ((y.num.minus - y.num.plus) + (y.num.plus - y.num.minus)) ≡ max 1 ((y.num.plus - y.num.minus) + (y.num.minus - y.num.plus)) =
    ap (λ (t : ℕ). max 1 t) (add_comm (y.num.minus - y.num.plus) (y.num.plus - y.num.minus)) in
    record { eq = rw s (omega arith) }

-- 1 / y times y is 1, for every y but 0
pub inv_mul : (y : Fraction) → ¬ (y ≈ᶠ natᶠ 0) → invᶠ y *ᶠ y ≈ᶠ natᶠ 1
inv_mul y f = go (dec_le y.num.plus y.num.minus) (dec_le y.num.minus y.num.plus)
  where
    turned : y.num.plus < y.num.minus → natᶠ 0 <ᶠ negᶠ y
    turned l = unfold negᶠ in record { lt = omega arith }

    go : Dec (y.num.plus ≤ y.num.minus) → Dec (y.num.minus ≤ y.num.plus) → invᶠ y *ᶠ y ≈ᶠ natᶠ 1
    go (yes a) (yes b) = absurd (f (record { eq = omega arith }))
    go (yes a) (no b) = trans≈ (sym≈ (inv_neg y)) (inv-mul⁺ (negᶠ y) (turned (omega arith)))
    go (no a) b = inv-mul⁺ y (record { lt = omega arith })

-- a number above 0 is not 0
pub above_not : {y : Fraction} → natᶠ 0 <ᶠ y → ¬ (y ≈ᶠ natᶠ 0)
above_not h e = omega (arith, h.lt, e.eq)

-- x / y * y is x, and a factor that is not 0 cancels
pub div_mul : (x y : Fraction) → ¬ (y ≈ᶠ natᶠ 0) → x /ᶠ y *ᶠ y ≈ᶠ x
unfolding ◌/ᶠ◌
div_mul x y f = trans≈ (mul_assoc x (invᶠ y) y) (trans≈ (mul_cong x (inv_mul y f)) (mul_one x))

pub cancel : (x z y : Fraction) → ¬ (y ≈ᶠ natᶠ 0) → x *ᶠ y ≈ᶠ z *ᶠ y → x ≈ᶠ z
cancel x z y f h =
    trans≈ (sym≈ (back x))
    (trans≈ (trans≈ (mul_comm (x *ᶠ y) (invᶠ y)) (trans≈ (mul_cong (invᶠ y) h) (mul_comm (invᶠ y) (z *ᶠ y)))) (back z))
  where
    back : (w : Fraction) → w *ᶠ y *ᶠ invᶠ y ≈ᶠ w
    back w = trans≈ (mul_assoc w y (invᶠ y)) (trans≈ (mul_cong w (trans≈ (mul_comm y (invᶠ y)) (inv_mul y f))) (mul_one w))

-- a factor above 0 cancels on both sides of an order
pub cancel_le : (x y a : Fraction) → natᶠ 0 <ᶠ a → a *ᶠ x ≤ᶠ a *ᶠ y → x ≤ᶠ y
cancel_le x y a p h = trans (of_eq (sym≈ (back x))) (trans (mul_mono (inv_nonneg a p) h) (of_eq (back y)))
  where
    back : (w : Fraction) → invᶠ a *ᶠ (a *ᶠ w) ≈ᶠ w
    back w = trans≈ (sym≈ (mul_assoc (invᶠ a) a w)) (trans≈ (mul_comm (invᶠ a *ᶠ a) w) (trans≈ (mul_cong w (inv_mul a (above_not p))) (mul_one w)))

pub cancel_eq : (x y a : Fraction) → natᶠ 0 <ᶠ a → a *ᶠ x ≈ᶠ a *ᶠ y → x ≈ᶠ y
cancel_eq x y a p h = antisym (cancel_le x y a p (of_eq h)) (cancel_le y x a p (of_eq (sym≈ h)))

-- x * y ≤ z is x ≤ z / y, for a y above 0
pub le_div : {x y z : Fraction} → natᶠ 0 <ᶠ y → x *ᶠ y ≤ᶠ z → x ≤ᶠ z /ᶠ y
unfolding ◌/ᶠ◌
le_div {x} {y} {z} p h = trans (of_eq (sym≈ back)) (mul_mono_right (inv_nonneg y p) h)
  where
    back : x *ᶠ y *ᶠ invᶠ y ≈ᶠ x
    back = trans≈ (mul_assoc x y (invᶠ y)) (trans≈ (mul_cong x (trans≈ (mul_comm y (invᶠ y)) (inv_mul y (above_not p)))) (mul_one x))

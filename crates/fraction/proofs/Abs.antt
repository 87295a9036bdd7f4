-- Sizes: the triangle inequality, products. Assumes nothing.
use mathlib.Core.Path.{◌≡◌, refl, sym, ap, ◌∙◌}
use mathlib.Core.List.{[], ◌∷◌}
use Prim.Native.Nat.{ℕ, ◌+◌, ◌-◌, ◌*◌, ◌≤◌}
use native.Mathlib.Nat.{le_dest}
use native.Mathlib.Decide.{dec_le}
use native.Mathlib.Omega.{arith}
use Rattle.fraction.specs.Whole.{Whole, ◌*ʷ◌, negʷ, sizeʷ}
use Rattle.fraction.specs.Fraction.{Fraction, ◌≤ᶠ◌, ◌≈ᶠ◌, natᶠ, ◌+ᶠ◌, ◌*ᶠ◌, negᶠ, absᶠ, Within}
use Rattle.fraction.proofs.Linear.{at_le, at_eq, eq_at, neg_at, abs_at, over}
use Rattle.fraction.proofs.Order.{refl≤}
use Rattle.fraction.proofs.Near.{within_of_abs, abs_of_within, within_add}

-- ---- |x| bounds x, is not negative, and is the least that does (`abs_of_within`)
pub within_abs : (x : Fraction) → Within x (absᶠ x)
within_abs x = within_of_abs (refl≤ (absᶠ x))

pub abs_nonneg : (x : Fraction) → natᶠ 0 ≤ᶠ absᶠ x
unfolding absᶠ
abs_nonneg x = record { le = omega arith }

-- ---- |x + y| ≤ |x| + |y|
pub abs_add : (x y : Fraction) → absᶠ (x +ᶠ y) ≤ᶠ absᶠ x +ᶠ absᶠ y
abs_add x y = abs_of_within (within_add (within_abs x) (within_abs y))

pub abs_neg : (x : Fraction) → absᶠ (negᶠ x) ≈ᶠ absᶠ x
abs_neg x = over (x ∷ []) (λ N n X. eq_at N (abs_at N n (neg_at N X)) (abs_at N n X) n (omega arith))

-- ---- |x * y| is |x| * |y|
up_up : (a b : Whole) → a.minus ≤ a.plus → b.minus ≤ b.plus → sizeʷ (a *ʷ b) ≡ sizeʷ a * sizeʷ b
up_up a b h k =
    let u = le_dest h in
    let v = le_dest k in
    let p : sizeʷ a ≡ u.0 = omega (arith, u.1) in
    let q : sizeʷ b ≡ v.0 = omega (arith, v.1) in
    let m : (a *ʷ b).plus ≡ (a *ʷ b).minus + u.0 * v.0 = product a.minus u.0 a.plus b.minus v.0 b.plus u.1 v.1 in
    let s : sizeʷ (a *ʷ b) ≡ u.0 * v.0 = gap (a *ʷ b).plus (a *ʷ b).minus (u.0 * v.0) m in
    s ∙ sym (ap (λ (t : ℕ). t * sizeʷ b) p ∙ ap (λ (t : ℕ). u.0 * t) q)
  where
    gap : (x y d : ℕ) → x ≡ y + d → (x - y) + (y - x) ≡ d
    gap x y d h = omega arith

    product : (m k p n j q : ℕ) → m + k ≡ p → n + j ≡ q → p * q + m * n ≡ p * n + m * q + k * j
    product m k p n j q h l = omega (arith, ap (λ (t : ℕ). t * q) h, ap (λ (t : ℕ). t * n) h, ap (λ (t : ℕ). k * t) l)

size_mul : (a b : Whole) → Dec (a.minus ≤ a.plus) → Dec (b.minus ≤ b.plus) → sizeʷ (a *ʷ b) ≡ sizeʷ a * sizeʷ b
size_mul a b (yes h) (yes k) = up_up a b h k
size_mul a b (yes h) (no k) = turn (a *ʷ b) ∙ same (a *ʷ b) (a *ʷ negʷ b) refl refl ∙ up_up a (negʷ b) h (omega arith) ∙ ap (λ (t : ℕ). sizeʷ a * t) (sym (turn b))
  where
    turn : (c : Whole) → sizeʷ c ≡ sizeʷ (negʷ c)
    turn c = omega arith

    same : (c d : Whole) → c.minus ≡ d.plus → c.plus ≡ d.minus → sizeʷ (negʷ c) ≡ sizeʷ d
    same c d p q = omega arith
size_mul a b (no h) k = go k
  where
    turn : (c : Whole) → sizeʷ c ≡ sizeʷ (negʷ c)
    turn c = omega arith

    go : Dec (b.minus ≤ b.plus) → sizeʷ (a *ʷ b) ≡ sizeʷ a * sizeʷ b
    go (yes k) = omega (arith, up_up (negʷ a) b (omega arith) k, ap (λ (t : ℕ). t * sizeʷ b) (turn a))
    go (no k) = omega (arith, up_up (negʷ a) (negʷ b) (omega arith) (omega arith), ap (λ (t : ℕ). t * sizeʷ b) (turn a), ap (λ (t : ℕ). sizeʷ (negʷ a) * t) (turn b))

pub abs_mul : (x y : Fraction) → absᶠ (x *ᶠ y) ≈ᶠ absᶠ x *ᶠ absᶠ y
unfolding absᶠ ◌*ᶠ◌
abs_mul x y = let s = size_mul x.num y.num (dec_le x.num.minus x.num.plus) (dec_le y.num.minus y.num.plus) in
    record { eq = omega (arith, ap (λ (t : ℕ). t * (x.den * y.den)) s) }

pub abs_cong : {x y : Fraction} → x ≈ᶠ y → absᶠ x ≈ᶠ absᶠ y
abs_cong {x} {y} h = over (x ∷ y ∷ []) (λ N n X Y. eq_at N (abs_at N n X) (abs_at N n Y) n (omega (arith, at_eq N X Y h)))

-- a number that is not negative is its own size
pub abs_self : {x : Fraction} → natᶠ 0 ≤ᶠ x → absᶠ x ≈ᶠ x
abs_self {x} h = over (x ∷ natᶠ 0 ∷ []) (λ N n X O. eq_at N (abs_at N n X) X n (omega (arith, O.is, at_le N O X h)))

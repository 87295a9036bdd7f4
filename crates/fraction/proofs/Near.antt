-- Errors and bounds: `Near x y e` is |x - y| ≤ e and `Within x b` is |x| ≤ b. How they go through sums and products.
-- Assumes nothing.
use mathlib.Core.List.{[], ◌∷◌}
use Prim.Native.Nat.{ℕ, zero, suc, ◌*◌, ◌<◌}
use native.Mathlib.Nat.{mul-pos}
use native.Mathlib.Omega.{arith}
use Rattle.fraction.specs.Whole.{Whole, ◌+ʷ◌, ◌-ʷ◌, ◌*ʷ◌, negʷ, natʷ, ◌≤ʷ◌}
use Rattle.fraction.specs.Fraction.{Fraction, ◌≤ᶠ◌, ◌≈ᶠ◌, natᶠ, ◌+ᶠ◌, ◌-ᶠ◌, ◌*ᶠ◌, absᶠ, Near, Within}
use Rattle.fraction.proofs.Linear.{at, at_le, at_eq, le_at, eq_at, add_at, sub_at, neg_at, abs_at, mul_at, over, trans}
use Rattle.fraction.proofs.Order.{mono, mul_sub, sub_mul, of_eq, sym≈, zero_mul, one_more}

-- ---- Near: one after another, sums, a larger error
pub near_trans : {x y z e d : Fraction} → Near x y e → Near y z d → Near x z (e +ᶠ d)
near_trans {x} {y} {z} {e} {d} h k = over (x ∷ y ∷ z ∷ e ∷ d ∷ []) (λ N n X Y Z E D. record {
  lo = le_at N (search at) (search at) n (omega (arith, at_le N (search at) (search at) h.lo, at_le N (search at) (search at) k.lo));
  hi = le_at N (search at) (search at) n (omega (arith, at_le N (search at) (search at) h.hi, at_le N (search at) (search at) k.hi));
})

pub near_add : {x y z w e d : Fraction} → Near x y e → Near z w d → Near (x +ᶠ z) (y +ᶠ w) (e +ᶠ d)
near_add {x} {y} {z} {w} {e} {d} h k = over (x ∷ y ∷ z ∷ w ∷ e ∷ d ∷ []) (λ N n X Y Z W E D. record {
  lo = le_at N (search at) (search at) n (omega (arith, at_le N (search at) (search at) h.lo, at_le N (search at) (search at) k.lo));
  hi = le_at N (search at) (search at) n (omega (arith, at_le N (search at) (search at) h.hi, at_le N (search at) (search at) k.hi));
})

pub near_sub : {x y z w e d : Fraction} → Near x y e → Near z w d → Near (x -ᶠ z) (y -ᶠ w) (e +ᶠ d)
near_sub {x} {y} {z} {w} {e} {d} h k = over (x ∷ y ∷ z ∷ w ∷ e ∷ d ∷ []) (λ N n X Y Z W E D. record {
  lo = le_at N (search at) (search at) n (omega (arith, at_le N (search at) (search at) h.lo, at_le N (search at) (search at) k.hi));
  hi = le_at N (search at) (search at) n (omega (arith, at_le N (search at) (search at) h.hi, at_le N (search at) (search at) k.lo));
})

pub near_weaken : {x y e d : Fraction} → Near x y e → e ≤ᶠ d → Near x y d
near_weaken {x} {y} {e} {d} h k = over (x ∷ y ∷ e ∷ d ∷ []) (λ N n X Y E D. record {
  lo = le_at N (search at) (search at) n (omega (arith, at_le N (search at) (search at) h.lo, at_le N E D k));
  hi = le_at N (search at) (search at) n (omega (arith, at_le N (search at) (search at) h.hi, at_le N E D k));
})

pub near_same : {x y w e : Fraction} → x ≈ᶠ y → Near x w e → Near y w e
near_same {x} {y} {w} {e} q h = over (x ∷ y ∷ w ∷ e ∷ []) (λ N n X Y W E. record {
  lo = le_at N (search at) (search at) n (omega (arith, at_le N (search at) (search at) h.lo, at_eq N X Y q));
  hi = le_at N (search at) (search at) n (omega (arith, at_le N (search at) (search at) h.hi, at_eq N X Y q));
})

pub near_sym : {x y e : Fraction} → Near x y e → Near y x e
near_sym h = record { lo = h.hi; hi = h.lo }

-- ---- Within
pub within_add : {x y b c : Fraction} → Within x b → Within y c → Within (x +ᶠ y) (b +ᶠ c)
within_add {x} {y} {b} {c} h k = over (x ∷ y ∷ b ∷ c ∷ []) (λ N n X Y B C. record {
  lo = le_at N (search at) (search at) n (omega (arith, at_le N (search at) (search at) h.lo, at_le N (search at) (search at) k.lo));
  hi = le_at N (search at) (search at) n (omega (arith, at_le N X B h.hi, at_le N Y C k.hi));
})

pub within_sub : {x y b c : Fraction} → Within x b → Within y c → Within (x -ᶠ y) (b +ᶠ c)
within_sub {x} {y} {b} {c} h k = over (x ∷ y ∷ b ∷ c ∷ []) (λ N n X Y B C. record {
  lo = le_at N (search at) (search at) n (omega (arith, at_le N (search at) (search at) h.lo, at_le N Y C k.hi));
  hi = le_at N (search at) (search at) n (omega (arith, at_le N X B h.hi, at_le N (search at) (search at) k.lo));
})

pub within_weaken : {x b c : Fraction} → Within x b → b ≤ᶠ c → Within x c
within_weaken {x} {b} {c} h k = over (x ∷ b ∷ c ∷ []) (λ N n X B C. record {
  lo = le_at N (search at) (search at) n (omega (arith, at_le N (search at) (search at) h.lo, at_le N B C k));
  hi = le_at N (search at) (search at) n (omega (arith, at_le N X B h.hi, at_le N B C k));
})

pub within_self : {x : Fraction} → natᶠ 0 ≤ᶠ x → Within x x
within_self {x} h = over (x ∷ natᶠ 0 ∷ []) (λ N n X O. record { lo = le_at N (neg_at N X) X n (omega (arith, O.is, at_le N O X h)); hi = le_at N X X n (omega arith) })

pub within_same : {x y b : Fraction} → x ≈ᶠ y → Within x b → Within y b
within_same {x} {y} {b} q h = record { lo = trans h.lo (of_eq q); hi = trans (of_eq (sym≈ q)) h.hi }

-- a value near one with a bound
pub within_near : {x y b e : Fraction} → Near x y e → Within y b → Within x (b +ᶠ e)
within_near {x} {y} {b} {e} h k = over (x ∷ y ∷ b ∷ e ∷ []) (λ N n X Y B E. record {
  lo = le_at N (search at) (search at) n (omega (arith, at_le N (search at) (search at) h.lo, at_le N (search at) (search at) k.lo));
  hi = le_at N (search at) (search at) n (omega (arith, at_le N (search at) (search at) h.hi, at_le N Y B k.hi));
})

-- a difference's bound is the error
pub within_of_near : {x y e : Fraction} → Near x y e → Within (x -ᶠ y) e
within_of_near {x} {y} {e} h = over (x ∷ y ∷ e ∷ []) (λ N n X Y E. record {
  lo = le_at N (search at) (search at) n (omega (arith, at_le N (search at) (search at) h.lo));
  hi = le_at N (search at) (search at) n (omega (arith, at_le N (search at) (search at) h.hi));
})

pub near_of_within : {x y e : Fraction} → Within (x -ᶠ y) e → Near x y e
near_of_within {x} {y} {e} h = over (x ∷ y ∷ e ∷ []) (λ N n X Y E. record {
  lo = le_at N (search at) (search at) n (omega (arith, at_le N (search at) (search at) h.lo));
  hi = le_at N (search at) (search at) n (omega (arith, at_le N (search at) (search at) h.hi));
})

-- ---- products: of four whole numbers, then of fractions
sizes : (x b y c : Whole) → negʷ b ≤ʷ x → x ≤ʷ b → negʷ c ≤ʷ y → y ≤ʷ c → x *ʷ y ≤ʷ b *ʷ c
sizes x b y c h k l m = omega (arith, mono (b -ʷ x) (natʷ 0) (c +ʷ y) (omega arith) (omega arith), mono (b +ʷ x) (natʷ 0) (c -ʷ y) (omega arith) (omega arith))

pub within_mul : {x y b c : Fraction} → Within x b → Within y c → Within (x *ᶠ y) (b *ᶠ c)
within_mul {x} {y} {b} {c} h k = over (x ∷ b ∷ []) (λ M m X B. over (y ∷ c ∷ []) (λ N n Y C.
    let lx = at_le M (neg_at M B) X h.lo in let ux = at_le M X B h.hi in let ly = at_le N (neg_at N C) Y k.lo in let uy = at_le N Y C k.hi in
    record {
      lo = le_at (M * N) (neg_at (M * N) (mul_at M N B C)) (mul_at M N X Y) (mul-pos m n) (omega (arith, sizes (negʷ X.z) B.z Y.z C.z (omega arith) (omega arith) ly uy));
      hi = le_at (M * N) (mul_at M N X Y) (mul_at M N B C) (mul-pos m n) (sizes X.z B.z Y.z C.z lx ux ly uy);
    }))

-- x near X and y near Y: x * y - X * Y is (x - X) * y + X * (y - Y)
pub near_mul : {x y X Y e d b c : Fraction} → Near x X e → Near y Y d → Within X b → Within y c → Near (x *ᶠ y) (X *ᶠ Y) (e *ᶠ c +ᶠ b *ᶠ d)
near_mul {x} {y} {X} {Y} {e} {d} {b} {c} h k B C =
    let p = within_mul (within_of_near h) C in
    let q = within_mul B (within_of_near k) in
    over (x *ᶠ y ∷ X *ᶠ Y ∷ X *ᶠ y ∷ (x -ᶠ X) *ᶠ y ∷ X *ᶠ (y -ᶠ Y) ∷ e *ᶠ c ∷ b *ᶠ d ∷ []) (λ N n x1 x2 x3 x4 x5 x6 x7.
    let i = at_eq N x4 (sub_at N x1 x3) (sub_mul x X y) in
    let j = at_eq N x5 (sub_at N x3 x2) (mul_sub X y Y) in
    record {
      lo = le_at N (search at) (search at) n (omega (arith, i, j, at_le N (search at) (search at) p.lo, at_le N (search at) (search at) q.lo));
      hi = le_at N (search at) (search at) n (omega (arith, i, j, at_le N (search at) (search at) p.hi, at_le N (search at) (search at) q.hi));
    })

-- an exact factor
pub near_by : {x y Y d b : Fraction} → Near y Y d → Within x b → Near (x *ᶠ y) (x *ᶠ Y) (b *ᶠ d)
near_by {x} {y} {Y} {d} {b} k B =
    let q = within_mul B (within_of_near k) in
    over (x *ᶠ y ∷ x *ᶠ Y ∷ x *ᶠ (y -ᶠ Y) ∷ b *ᶠ d ∷ []) (λ N n x1 x2 x3 x4.
    let j = at_eq N x3 (sub_at N x1 x2) (mul_sub x y Y) in
    record {
      lo = le_at N (search at) (search at) n (omega (arith, j, at_le N (search at) (search at) q.lo));
      hi = le_at N (search at) (search at) n (omega (arith, j, at_le N (search at) (search at) q.hi));
    })

pub near_refl : (x : Fraction) → Near x x (natᶠ 0)
near_refl x = over (x ∷ natᶠ 0 ∷ []) (λ N n X O. record { lo = le_at N (search at) (search at) n (omega (arith, O.is)); hi = le_at N (search at) (search at) n (omega (arith, O.is)) })

-- the sizes: |x - y| ≤ e is `Near x y e`
pub abs_of_within : {x b : Fraction} → Within x b → absᶠ x ≤ᶠ b
abs_of_within {x} {b} w = over (x ∷ b ∷ []) (λ N n X B. le_at N (abs_at N n X) B n (omega (arith, at_le N (neg_at N B) X w.lo, at_le N X B w.hi)))

pub within_of_abs : {x b : Fraction} → absᶠ x ≤ᶠ b → Within x b
within_of_abs {x} {b} h = over (x ∷ b ∷ []) (λ N n X B. let k = at_le N (abs_at N n X) B h in
    record { lo = le_at N (neg_at N B) X n (omega (arith, k)); hi = le_at N X B n (omega (arith, k)) })

-- ---- sums: the errors add up, and n equal ones are n times one

-- f 0 + f 1 + .. + f (n - 1)
unfoldable pub sumᶠ : ℕ → (ℕ → Fraction) → Fraction
unfolding ◌+ᶠ◌
sumᶠ zero f = natᶠ 0
sumᶠ (suc n) f = sumᶠ n f +ᶠ f n

pub near_sum : (n : ℕ) (f g e : ℕ → Fraction) → ((i : ℕ) → i < n → Near (f i) (g i) (e i)) → Near (sumᶠ n f) (sumᶠ n g) (sumᶠ n e)
unfolding sumᶠ
near_sum zero f g e h = near_refl (natᶠ 0)
near_sum (suc n) f g e h = near_add (near_sum n f g e (λ i l. h i (omega arith))) (h n (omega arith))

pub sum_same : (n : ℕ) (e : Fraction) → sumᶠ n (λ i. e) ≈ᶠ natᶠ n *ᶠ e
unfolding sumᶠ
sum_same zero e = sym≈ (zero_mul e)
sum_same (suc n) e = let i = sum_same n e in over (sumᶠ n (λ i. e) ∷ natᶠ n *ᶠ e ∷ natᶠ (suc n) *ᶠ e ∷ e ∷ []) (λ N p S P Q E. eq_at N (add_at N S E) Q p
    (omega (arith, at_eq N S P i, at_eq N Q (add_at N P E) (one_more n e))))

-- The smaller and the larger of two, and a number held between 0 and 1. `min_at`, `max_at` and `clamp_at` bring them
-- over a common denominator, where `omega` reads `min` and `max`: so a fact about them is one line, as a linear one
-- is. Assumes nothing.
use mathlib.Core.Path.{◌≡◌, refl, ap}
use mathlib.Core.List.{[], ◌∷◌}
use mathlib.Core.Bool.{Bool, true, false, not, cond}
use Prim.Native.Nat.{ℕ, ◌+◌, ◌*◌, ◌<◌, min, max}
use native.Mathlib.Omega.{arith}
use lib.Dec.{T, nleb→lt, nltb→le}
use Rattle.fraction.specs.Whole.{Whole, ◌×ℕ◌, ◌≈ʷ◌}
use Rattle.fraction.specs.Fraction.{Fraction, ◌≤ᶠ◌, ◌<ᶠ◌, ◌≈ᶠ◌, leᵇ, ltᵇ, natᶠ, minᶠ, maxᶠ, clampᶠ, Near}
use Rattle.fraction.proofs.Linear.{At, at_le, at_eq, le_at, eq_at, add_at, over, lit, lit<ᶠ}
use Rattle.fraction.proofs.Order.{of_lt, lt_not_le}

-- ---- what the test says
pub yes≤ : (x y : Fraction) → T (leᵇ x y) → x ≤ᶠ y
yes≤ x y t = lit t

pub no< : (x y : Fraction) → T (not (leᵇ x y)) → y <ᶠ x
no< x y t =
    record { lt = omega (arith, nleb→lt (x.num.plus * y.den + y.num.minus * x.den) (y.num.plus * x.den + x.num.minus * y.den) t) }

-- ---- over a common denominator: either of the two, written as min or max of what the order compares
abbrev lesser : Whole → Whole → Whole
lesser a b = record { plus = min (a.plus + b.minus) (b.plus + a.minus); minus = a.minus + b.minus }

abbrev greater : Whole → Whole → Whole
greater a b = record { plus = max (a.plus + b.minus) (b.plus + a.minus); minus = a.minus + b.minus }

-- another way to write the number that x is over N
rewrite_at : (N : ℕ) {x : Fraction} (a : At N x) (w : Whole) → w ≈ʷ a.z → w ×ℕ x.den ≈ʷ x.num ×ℕ N
rewrite_at N {x} a w e = omega (arith, a.is, ap (λ (t : ℕ). t * x.den) e)

module _ (N : ℕ) (n : 0 < N) {x y : Fraction} (a : At N x) (b : At N y) where
  pub min_is : lesser a.z b.z ×ℕ (minᶠ x y).den ≈ʷ (minᶠ x y).num ×ℕ N
  unfolding minᶠ
  min_is = go (leᵇ x y) (yes≤ x y) (no< x y)
    where
      go : (t : Bool) → (T t → x ≤ᶠ y) → (T (not t) → y <ᶠ x) → lesser a.z b.z ×ℕ (cond t x y).den ≈ʷ (cond t x y).num ×ℕ N
      go true f g = rewrite_at N a (lesser a.z b.z) (omega (arith, at_le N a b (f tt)))
      go false f g = rewrite_at N b (lesser a.z b.z) (omega (arith, at_le N b a (of_lt (g tt))))

  pub max_is : greater a.z b.z ×ℕ (maxᶠ x y).den ≈ʷ (maxᶠ x y).num ×ℕ N
  unfolding maxᶠ
  max_is = go (leᵇ x y) (yes≤ x y) (no< x y)
    where
      go : (t : Bool) → (T t → x ≤ᶠ y) → (T (not t) → y <ᶠ x) → greater a.z b.z ×ℕ (cond t y x).den ≈ʷ (cond t y x).num ×ℕ N
      go true f g = rewrite_at N b (greater a.z b.z) (omega (arith, at_le N a b (f tt)))
      go false f g = rewrite_at N a (greater a.z b.z) (omega (arith, at_le N b a (of_lt (g tt))))

  abbrev pub min_at : At N (minᶠ x y)
  min_at = record { z = lesser a.z b.z; is = min_is }

  abbrev pub max_at : At N (maxᶠ x y)
  max_at = record { z = greater a.z b.z; is = max_is }

-- ---- which of the two
module _ (x y : Fraction) where
  pub min_left : x ≤ᶠ y → minᶠ x y ≈ᶠ x
  min_left h = over (x ∷ y ∷ []) (λ N n X Y. eq_at N (min_at N n X Y) X n (omega (arith, at_le N X Y h)))

  pub min_right : y ≤ᶠ x → minᶠ x y ≈ᶠ y
  min_right h = over (x ∷ y ∷ []) (λ N n X Y. eq_at N (min_at N n X Y) Y n (omega (arith, at_le N Y X h)))

  pub max_left : y ≤ᶠ x → maxᶠ x y ≈ᶠ x
  max_left h = over (x ∷ y ∷ []) (λ N n X Y. eq_at N (max_at N n X Y) X n (omega (arith, at_le N Y X h)))

  pub max_right : x ≤ᶠ y → maxᶠ x y ≈ᶠ y
  max_right h = over (x ∷ y ∷ []) (λ N n X Y. eq_at N (max_at N n X Y) Y n (omega (arith, at_le N X Y h)))

  pub min_le_left : minᶠ x y ≤ᶠ x
  min_le_left = over (x ∷ y ∷ []) (λ N n X Y. le_at N (min_at N n X Y) X n (omega arith))

  pub min_le_right : minᶠ x y ≤ᶠ y
  min_le_right = over (x ∷ y ∷ []) (λ N n X Y. le_at N (min_at N n X Y) Y n (omega arith))

  pub max_ge_left : x ≤ᶠ maxᶠ x y
  max_ge_left = over (x ∷ y ∷ []) (λ N n X Y. le_at N X (max_at N n X Y) n (omega arith))

  pub max_ge_right : y ≤ᶠ maxᶠ x y
  max_ge_right = over (x ∷ y ∷ []) (λ N n X Y. le_at N Y (max_at N n X Y) n (omega arith))

-- ---- an error does not grow
pub near_min : {x X e : Fraction} (c : Fraction) → natᶠ 0 ≤ᶠ e → Near x X e → Near (minᶠ x c) (minᶠ X c) e
near_min {x} {X} {e} c p h = over (x ∷ X ∷ e ∷ c ∷ natᶠ 0 ∷ []) (λ N n A B E C O.
    let a = at_le N B (add_at N A E) h.lo in
    let b = at_le N A (add_at N B E) h.hi in
    let z = at_le N O E p in
    record {
      lo = le_at N (min_at N n B C) (add_at N (min_at N n A C) E) n (omega (arith, O.is));
      hi = le_at N (min_at N n A C) (add_at N (min_at N n B C) E) n (omega (arith, O.is));
    })

pub near_max : {x X e : Fraction} (c : Fraction) → natᶠ 0 ≤ᶠ e → Near x X e → Near (maxᶠ c x) (maxᶠ c X) e
near_max {x} {X} {e} c p h = over (x ∷ X ∷ e ∷ c ∷ natᶠ 0 ∷ []) (λ N n A B E C O.
    let a = at_le N B (add_at N A E) h.lo in
    let b = at_le N A (add_at N B E) h.hi in
    let z = at_le N O E p in
    record {
      lo = le_at N (max_at N n C B) (add_at N (max_at N n C A) E) n (omega (arith, O.is));
      hi = le_at N (max_at N n C A) (add_at N (max_at N n C B) E) n (omega (arith, O.is));
    })

-- ---- held between 0 and 1
module _ (N : ℕ) (n : 0 < N) {x : Fraction} (o : At N (natᶠ 0)) (i : At N (natᶠ 1)) (a : At N x) where
  pub clamp_is : greater o.z (lesser a.z i.z) ×ℕ (clampᶠ x).den ≈ʷ (clampᶠ x).num ×ℕ N
  unfolding clampᶠ
  clamp_is = max_is N n o (min_at N n a i)

  abbrev pub clamp_at : At N (clampᶠ x)
  clamp_at = record { z = greater o.z (lesser a.z i.z); is = clamp_is }

pub near_clamp : {x X e : Fraction} → natᶠ 0 ≤ᶠ e → Near x X e → Near (clampᶠ x) (clampᶠ X) e
unfolding clampᶠ
near_clamp p h = near_max (natᶠ 0) p (near_min (natᶠ 1) p h)

module _ (x : Fraction) where
  -- inside, nothing is held back
  pub clamp_inside : natᶠ 0 ≤ᶠ x → x ≤ᶠ natᶠ 1 → clampᶠ x ≈ᶠ x
  clamp_inside p q = over (x ∷ natᶠ 0 ∷ natᶠ 1 ∷ []) (λ N n X O I. eq_at N (clamp_at N n O I X) X n (omega (arith, O.is, I.is, at_le N O X p, at_le N X I q)))

  pub clamp_nonneg : natᶠ 0 ≤ᶠ clampᶠ x
  clamp_nonneg = over (x ∷ natᶠ 0 ∷ natᶠ 1 ∷ []) (λ N n X O I. le_at N O (clamp_at N n O I X) n (omega (arith, O.is, I.is)))

  pub clamp_le_one : clampᶠ x ≤ᶠ natᶠ 1
  clamp_le_one = over (x ∷ natᶠ 0 ∷ natᶠ 1 ∷ []) (λ N n X O I. le_at N (clamp_at N n O I X) I n (omega (arith, n, O.is, I.is)))

  -- outside it is 0 or 1
  pub clamp_below : x ≤ᶠ natᶠ 0 → clampᶠ x ≈ᶠ natᶠ 0
  clamp_below h = over (x ∷ natᶠ 0 ∷ natᶠ 1 ∷ []) (λ N n X O I. eq_at N (clamp_at N n O I X) O n (omega (arith, O.is, I.is, at_le N X O h)))

  pub clamp_above : natᶠ 1 ≤ᶠ x → clampᶠ x ≈ᶠ natᶠ 1
  clamp_above h = over (x ∷ natᶠ 0 ∷ natᶠ 1 ∷ []) (λ N n X O I. eq_at N (clamp_at N n O I X) I n (omega (arith, n, O.is, I.is, at_le N I X h)))

pub clamp_cong : {x y : Fraction} → x ≈ᶠ y → clampᶠ x ≈ᶠ clampᶠ y
clamp_cong {x} {y} e =
    over (x ∷ y ∷ natᶠ 0 ∷ natᶠ 1 ∷ []) (λ N n X Y O I. eq_at N (clamp_at N n O I X) (clamp_at N n O I Y) n (omega (arith, O.is, I.is, at_eq N X Y e)))

-- ---- the test < decides a condition
pub no≤ : (x y : Fraction) → T (not (ltᵇ x y)) → y ≤ᶠ x
no≤ x y t = record { le = omega (arith, nltb→le (x.num.plus * y.den + y.num.minus * x.den) (y.num.plus * x.den + x.num.minus * y.den) t) }

pub if_less : {A : Type 0} (x y : Fraction) (a b : A) → x <ᶠ y → cond (ltᵇ x y) a b ≡ a
if_less {A} x y a b h = go (ltᵇ x y) (no≤ x y)
  where
    go : (t : Bool) → (T (not t) → y ≤ᶠ x) → cond t a b ≡ a
    go true f = refl
    go false f = absurd (lt_not_le h (f tt))

pub if_not_less : {A : Type 0} (x y : Fraction) (a b : A) → y ≤ᶠ x → cond (ltᵇ x y) a b ≡ b
if_not_less {A} x y a b h = go (ltᵇ x y) lit<ᶠ
  where
    go : (t : Bool) → (T t → x <ᶠ y) → cond t a b ≡ b
    go true f = absurd (lt_not_le (f tt) h)
    go false f = refl

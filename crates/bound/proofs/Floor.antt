-- Where `lo - floor(lo)` is exact, and a lower bound of hi - lo across a whole number. A float from 1/2 on is a whole
-- number of 2 ^ -24. Assumes nothing.
use lib.Ieee.Fits.{down_pos}
use mathlib.Core.Path.{◌≡◌, refl, ap, ◌∙◌}
use mathlib.Core.List.{[], ◌∷◌}
use mathlib.Core.Bool.{Bool, true, false, not}
use Prim.Native.Nat.{ℕ, zero, suc, ◌+◌, ◌-◌, ◌*◌, ◌^◌, ◌≤◌, ◌<◌}
use native.Mathlib.Nat.{lt_of_not-le, le_of_suc-le-suc}
use native.Mathlib.Omega.{arith}
use lib.IntN.{ℤ, pos, negsuc}
use lib.Dec.{T, lit≤}
use lib.Pow.{pow-add, pow_pos, pow_mono}
use lib.Ieee.{Float, nan, inf, fin, binary32, up, down, fits}
use lib.Ieee.Scale.{finite}
use Rattle.fraction.specs.Whole.{natʷ}
use Rattle.fraction.specs.Fraction.{◌≤ᶠ◌, ◌<ᶠ◌, ◌≈ᶠ◌, leᵇ, natᶠ, ◌/2^◌, ◌-ᶠ◌}
use Rattle.fraction.proofs.Linear.{At, at_le, at_lt, at_eq, le_at, eq_at, sub_at, at_same, over, self, lit}
use Rattle.fraction.proofs.Order.{refl≈, sym≈, trans≈}
use Rattle.fraction.proofs.Near.{within_weaken, within_same}
use Rattle.rounding.proofs.Round.{rounds_to}
use Rattle.fraction.proofs.Clamp.{yes≤, no<}
use Rattle.fraction.proofs.Ring.{cong_sub}
use Rattle.rounding.specs.Value.{val}
use Rattle.rounding.proofs.Base.{fits_parts}
use Rattle.rounding.proofs.Ops.{sub_rounds}
use Rattle.rounding.specs.Rounding.{Is}
use Rattle.rounding.proofs.Exactly.{is_same, sub_exact}
use Rattle.float.specs.Ops.{◌⊖◌}
use Rattle.whole.specs.Whole.{of_whole}
use Rattle.bound.proofs.Numbers.{Num, Exact, whole_is, whole_held}

-- ---- a float from 1/2 on

grain_at : (m k : ℕ) → suc m < 2 ^ 24 → 2 ^ suc k ≤ suc m * 2 → (j : ℕ) × (2 ^ 24 ≡ 2 ^ j * 2 ^ suc k)
grain_at m k h l =
    let g : suc k ≤ 24 = le_of_suc-le-suc (lt_of_not-le (λ (n : suc 24 ≤ suc k). omega (arith, pow_mono n, h, l))) in
    (24 - suc k, ap (λ (x : ℕ). 2 ^ x) (back 24 (suc k) g) ∙ pow-add 2 (24 - suc k) (suc k))
  where
    back : (l k : ℕ) → k ≤ l → l ≡ l - k + k
    back l k h = omega arith

pub grain : (x : Float) → T (finite x) → T (fits binary32 x) → 1 /2^ 1 ≤ᶠ val x → At (2 ^ 24) (val x)
unfolding val
grain nan p t h = absurd p
grain (inf s) p t h = absurd p
grain (fin true m e) p t h = absurd (no m e h.le)
  where
    no : (m : ℕ) (e : ℤ) → 1 * down e + (m * up e) * 2 ≤ 0 * 2 + 0 * down e → ⊥
    no m e h = omega (arith, h, down_pos e)
grain (fin false zero e) p t h = record { z = natʷ 0; is = omega arith }
grain (fin false (suc m) (pos k)) p t h = record { z = natʷ (suc m * 2 ^ k * 2 ^ 24); is = omega arith }
grain (fin false (suc m) (negsuc k)) p t h =
    let j = grain_at m k (fits_parts binary32 false m (negsuc k) t).0 (omega (arith, h.le)) in
    record { z = natʷ (suc m * 2 ^ j.0); is = omega (arith, ap (λ (x : ℕ). suc m * x) j.1) }

-- ---- lo less its whole part
abbrev whole_at : (n : ℕ) → At (2 ^ 24) (natᶠ n)
whole_at n = record { z = natʷ (n * 2 ^ 24); is = omega arith }

pub floor_sub : (lo : Float) (n : ℕ) → Num lo (natᶠ 4096) → n ≤ 4096 → natᶠ n ≤ᶠ val lo → val lo <ᶠ natᶠ (suc n) → Is (val lo -ᶠ natᶠ n) (lo ⊖ of_whole n)
floor_sub lo n L h k l = go (leᵇ (1 /2^ 1) (val lo)) (yes≤ (1 /2^ 1) (val lo)) (no< (1 /2^ 1) (val lo))
  where
    F : Exact (natᶠ n) (of_whole n)
    F = whole_is n (omega (arith, h))

    moved : val lo -ᶠ val (of_whole n) ≈ᶠ val lo -ᶠ natᶠ n
    moved = cong_sub (refl≈ (val lo)) F.eq

    go : (b : Bool) → (T b → 1 /2^ 1 ≤ᶠ val lo) → (T (not b) → val lo <ᶠ 1 /2^ 1) → Is (val lo -ᶠ natᶠ n) (lo ⊖ of_whole n)
    go true f g =
        let X = grain lo L.fine L.held (f tt) in
        let Y = at_same (2 ^ 24) (sym≈ F.eq) (whole_at n) in
        is_same moved (sub_exact binary32 24 lo (of_whole n) L.fine F.fine (lit≤ tt) X Y
        (omega (arith, at_le (2 ^ 24) (whole_at n) X k, at_lt (2 ^ 24) X (whole_at (suc n)) (pow_pos 24) l)))
    go false f g =
        let z : n ≡ 0 = over (natᶠ n ∷ val lo ∷ 1 /2^ 1 ∷ []) (λ N p A B C. tiny N n p (omega (arith, A.is, C.is, at_le N A B k, at_lt N B C p (g tt)))) in
        let e : val lo -ᶠ val (of_whole n) ≈ᶠ val lo = over (val lo ∷ val (of_whole n) ∷ natᶠ n ∷ []) (λ N p A B C.
        eq_at N (sub_at N A B) A p (omega (arith, C.is, at_eq N B C F.eq, ap (λ (t : ℕ). t * N) z))) in
        let r = sub_rounds binary32 lo (of_whole n) L.fine F.fine L.held (whole_held n) (within_weaken (within_same (sym≈ e) L.within) (lit tt)) in
        record { fine = r.fine; eq = trans≈ (rounds_to lo L.fine L.held (sym≈ e) r) moved }
      where
        tiny : (N n : ℕ) → 0 < N → n * N * 2 < N → n ≡ 0
        tiny N zero p h = refl
        tiny N (suc n) p h = absurd (bad N n h)
          where
            bad : (N n : ℕ) → suc n * N * 2 < N → ⊥
            bad N n h = omega arith

-- ---- hi - lo, where a whole number from 1 on lies between
pub apart : (lo hi : Float) (n : ℕ) → Num lo (natᶠ 4096) → Num hi (natᶠ 4096) → natᶠ 0 ≤ᶠ val lo → val lo <ᶠ natᶠ (suc n) → natᶠ (suc n) <ᶠ val hi → 1 /2^ 24 ≤ᶠ val hi -ᶠ val lo
apart lo hi n L H z h k = go (leᵇ (1 /2^ 1) (val lo)) (yes≤ (1 /2^ 1) (val lo)) (no< (1 /2^ 1) (val lo))
  where
    go : (b : Bool) → (T b → 1 /2^ 1 ≤ᶠ val lo) → (T (not b) → val lo <ᶠ 1 /2^ 1) → 1 /2^ 24 ≤ᶠ val hi -ᶠ val lo
    go true f g =
        let X = grain lo L.fine L.held (f tt) in
        let Y = grain hi H.fine H.held (over (val lo ∷ val hi ∷ natᶠ (suc n) ∷ 1 /2^ 1 ∷ []) (λ N p A B C D.
        le_at N D B p (omega (arith, at_le N D A (f tt), at_lt N A C p h, at_lt N C B p k)))) in
        le_at (2 ^ 24) (self (1 /2^ 24)) (sub_at (2 ^ 24) Y X) (pow_pos 24) (omega (arith, at_lt (2 ^ 24) X (whole_at (suc n)) (pow_pos 24) h, at_lt (2 ^ 24) (whole_at (suc n)) Y (pow_pos 24) k))
    go false f g = over (val lo ∷ val hi ∷ natᶠ (suc n) ∷ 1 /2^ 1 ∷ 1 /2^ 24 ∷ []) (λ N p A B C D E.
        le_at N E (sub_at N B A) p (omega (arith, C.is, D.is, E.is, at_lt N A D p (g tt), at_lt N C B p k)))

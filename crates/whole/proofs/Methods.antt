-- The library's floor and ceiling are what the definitions say, by cases on the float. Assumes nothing.
use Rattle.std.proofs.Common.{◌≡◌, ℕ, ◌+◌, ◌-◌, ◌*◌, ◌/◌, ◌%◌, ◌≤◌, ◌<◌, Bool, true, false, refl, ap, arith}
use Rattle.std.proofs.Math.Nat.{div-eq_of_lt-le, mod-lt}
use Rattle.std.proofs.lemmas.Nat.{div-add-mod'}
use lib.Dec.{eqb}
use borrow.Author.Tests.{eqb-true, eqb-false}
use lib.Ieee.{Float, nan, inf, fin, binary32, up, down, round}
use lib.Ieee.Fits.{down_pos}
use Rattle.std.specs.Float.{ratio_ceil, round_with, floor, ceil}
use Rattle.whole.specs.Whole.{whole_div, integral_of, floor_of, ceil_of}

-- rounded up: the next quotient, where something is left
up_is : (n d : ℕ) → 0 < d → ratio_ceil n d ≡ whole_div true n d
up_is n d p = go (eqb (n % d) 0) refl
  where
    whole : n / d * d + n % d ≡ n
    whole = div-add-mod' n d

    under : n % d < d
    under = mod-lt n p

    go : (t : Bool) → eqb (n % d) 0 ≡ t → ratio_ceil n d ≡ whole_div true n d
    go true e =
        let none : n % d ≡ 0 = eqb-true _ _ e in
        let low : n / d * d ≤ n + d - 1 = omega arith in
        let high : n + d - 1 < (n / d + 1) * d = omega arith in
        rw e (div-eq_of_lt-le d low high)
    go false e =
        let some : n % d ≡ 0 → ⊥ = eqb-false _ _ e in
        let low : (n / d + 1) * d ≤ n + d - 1 = omega arith in
        let high : n + d - 1 < (n / d + 1 + 1) * d = omega arith in
        rw e (div-eq_of_lt-le d low high)

pub floor_is : (x : Float) → floor binary32 x ≡ floor_of x
unfolding round_with integral_of
floor_is nan = refl
floor_is (inf s) = refl
floor_is (fin true m e) = ap (λ (n : ℕ). round binary32 true n 1) (up_is (m * up e) (down e) (down_pos e))
floor_is (fin false m e) = refl

pub ceil_is : (x : Float) → ceil binary32 x ≡ ceil_of x
unfolding round_with integral_of
ceil_is nan = refl
ceil_is (inf s) = refl
ceil_is (fin true m e) = refl
ceil_is (fin false m e) = ap (λ (n : ℕ). round binary32 false n 1) (up_is (m * up e) (down e) (down_pos e))

-- What the casts are (`CastBeliefs` of specs/Beliefs.antt), in exact fractions: a whole number up to 2 ^ 24 as a
-- float is that number, and a float cut to w bits is the whole number at it or below it. Assumes nothing.
use mathlib.Core.Path.{◌≡◌}
use mathlib.Core.Bool.{true, false}
use Prim.Native.Nat.{ℕ, ◌+◌, ◌*◌, ◌/◌, ◌-◌, ◌^◌, ◌≤◌, min}
use native.Mathlib.Nat.{zero-lt-suc, min-eq_left, div-lt_iff_lt-mul, div-mul-le_self, lt-div-mul-add}
use native.Mathlib.Omega.{arith}
use lib.Dec.{T}
use lib.Pow.{le_ones}
use lib.Ieee.{Float, nan, inf, fin, binary32, up, down, round, of_int, to_unsigned}
use lib.Ieee.Back.{round_whole}
use lib.Ieee.Fits.{down_pos}
use lib.Ieee.Scale.{finite}
use Rattle.fraction.specs.Fraction.{◌≤ᶠ◌, ◌<ᶠ◌, natᶠ}
use Rattle.rounding.specs.Value.{val}
use Rattle.rounding.proofs.Base.{value_is}
use Rattle.rounding.specs.Rounding.{Is}
use Rattle.whole.specs.Whole.{column_of, byte_of, of_whole}
use Rattle.whole.specs.Beliefs.{CastBeliefs}

-- a whole number as a float, up to 2 ^ 24: finite, and worth that number
pub of_whole_exact : (n : ℕ) → n ≤ 2 ^ 24 → Is (natᶠ n) (of_whole n)
unfolding of_int
of_whole_exact n h = let v = value_is (round binary32 false n 1) false n 1 (zero-lt-suc 0) (round_whole binary32 false n h) in record { fine = v.0; eq = v.1 }

-- a float from 0 on and below 2 ^ w, cut to w bits: the whole number at it or less than 1 below it
pub cut_below : (w : ℕ) (x : Float) → T (finite x) → natᶠ 0 ≤ᶠ val x → val x <ᶠ natᶠ (2 ^ w)
    → (natᶠ (to_unsigned w x) ≤ᶠ val x) × (val x <ᶠ natᶠ (to_unsigned w x + 1))
unfolding val to_unsigned
cut_below w nan p h l = absurd p
cut_below w (inf s) p h l = absurd p
cut_below w (fin true m e) p h l = (record { le = omega (arith, h.le) }, record { lt = omega (arith, h.le, down_pos e) })
cut_below w (fin false m e) p h l =
    let a = m * up e in
    let b = down e in
    let q : min (a / b) (2 ^ w - 1) ≡ a / b = min-eq_left (le_ones w ((div-lt_iff_lt-mul (down_pos e)).1 (omega (arith, l.lt)))) in
    rw q (record { le = omega (arith, div-mul-le_self a b) }, record { lt = omega (arith, lt-div-mul-add {a = a} (down_pos e)) })

pub column_below : (x : Float) → T (finite x) → natᶠ 0 ≤ᶠ val x → val x <ᶠ natᶠ (2 ^ 13) → (natᶠ (column_of x) ≤ᶠ val x) × (val x <ᶠ natᶠ (column_of x + 1))
column_below = cut_below 13

pub byte_below : (x : Float) → T (finite x) → natᶠ 0 ≤ᶠ val x → val x <ᶠ natᶠ (2 ^ 8) → (natᶠ (byte_of x) ≤ᶠ val x) × (val x <ᶠ natᶠ (byte_of x + 1))
byte_below = cut_below 8

pub cast_beliefs : CastBeliefs
cast_beliefs = record { of_whole_exact = of_whole_exact; cut_below = cut_below; column_below = column_below; byte_below = byte_below }

-- The library's methods of `f32` are what the definitions say, by cases on the float. Assumes nothing.
use Rattle.std.proofs.Common.{◌≡◌, Bool, true, false, refl, sym}
use mathlib.Core.Bool.{true≢false}
use lib.Ieee.{Float, nan, inf, fin, binary32, of_bits, neg, is_nan}
use lib.Ieee.Scale.{finite}
use Rattle.std.specs.Float.{float_with_sign, is_sign_negative, float_is_finite}
use Rattle.float.specs.Simple.{abs_of, signum_of}

pub abs_is : (x : Float) → float_with_sign false x ≡ abs_of x
unfolding float_with_sign abs_of
abs_is nan = refl
abs_is (inf s) = refl
abs_is (fin s m e) = refl

pub nan_is : (x : Float) → is_nan x ≡ true → x ≡ signum_of x
unfolding is_nan signum_of
nan_is nan e = refl
nan_is (inf s) e = absurd (true≢false (sym e))
nan_is (fin s m e) h = absurd (true≢false (sym h))

-- a float by a sign bit
abbrev pub signed : Float → Bool → Float
signed x true = neg x
signed x false = x

pub sign_is : (x : Float) → is_nan x ≡ false → signed (of_bits binary32 1065353216) (is_sign_negative x) ≡ signum_of x
unfolding is_nan signum_of is_sign_negative of_bits neg
sign_is nan e = absurd (true≢false e)
sign_is (inf true) e = refl
sign_is (inf false) e = refl
sign_is (fin true m e) h = refl
sign_is (fin false m e) h = refl

pub finite_is : (x : Float) → float_is_finite x ≡ finite x
unfolding float_is_finite finite
finite_is nan = refl
finite_is (inf s) = refl
finite_is (fin s m e) = refl

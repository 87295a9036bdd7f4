-- Floats and whole numbers: floor, ceiling and the casts. A finite value `fin s m e` is m * up e / down e, negative
-- where s is true. `Rattle.std.specs.Float.Ieee.round f s a b` is the value of the format f that is nearest to a / b with the sign s,
-- ties to even. Definitions only.
use Rattle.std.specs.Prelude.{ℕ, ◌+◌, ◌*◌, ◌/◌, ◌%◌, Bool, true, false, cond, eqb, pos}
use lib.Ieee.{Float, nan, inf, fin, binary32, up, down, unlike, round, of_int, to_unsigned}

-- a quotient q, of which `left` is left over, as a whole number: q, or (`true`) the next one where something is left
abbrev pub step_away : Bool → ℕ → ℕ → ℕ
step_away false q left = q
step_away true q left = cond (eqb left 0) q (q + 1)

-- a / b as a whole number: the largest that is no larger, or (`true`) the smallest that is no smaller
abbrev pub whole_div : Bool → ℕ → ℕ → ℕ
whole_div t a b = step_away t (a / b) (a % b)

-- IEEE 754's roundToIntegralTowardNegative, and (`true`) roundToIntegralTowardPositive: the size grows where the
-- value is negative and goes down, or positive and goes up. The sign stays, also where the result is zero: -0.5 goes
-- up to -0. A NaN and the infinities stay
unfoldable pub integral_of : Bool → Float → Float
integral_of u nan = nan
integral_of u (inf s) = inf s
integral_of u (fin s m e) = round binary32 s (whole_div (unlike s u) (m * up e) (down e)) 1

-- floor, IEEE 754's roundToIntegralTowardNegative: the largest whole number that is no larger (`floor_below` in
-- Beliefs.antt)
abbrev pub floor_of : Float → Float
floor_of x = integral_of false x

-- ceiling, IEEE 754's roundToIntegralTowardPositive: the smallest whole number that is no smaller (`ceil_above` there)
abbrev pub ceil_of : Float → Float
ceil_of x = integral_of true x

-- IEEE 754's convertToIntegerTowardZero to 13 bits, as Rust's `as` completes it: what is out of range becomes the
-- nearer end, a NaN 0. Document 01 has masks of up to 4,096 columns, so every column, and the one past the last, is
-- below 8,192
abbrev pub column_of : Float → ℕ
column_of x = to_unsigned 13 x

-- the same to 8 bits: Rust's `as u8`
abbrev pub byte_of : Float → ℕ
byte_of x = to_unsigned 8 x

-- IEEE 754's convertFromInt, Rust's `as f32`. Up to 2 ^ 24 it is exact (`of_whole_exact` in Beliefs.antt)
abbrev pub of_whole : ℕ → Float
of_whole n = of_int binary32 (pos n)

-- What a float is worth as a fraction, and the two numbers that bound a rounding. IEEE 754: a finite float is (-1)^s
-- * m * 2^e, and an operation's result is the value of the format that is nearest to the exact one. Definitions only.
use Rattle.std.specs.Prelude.{Bool, true, false, ℕ, ◌-◌, ◌*◌, ◌^◌, ◌<◌, Float}
use Rattle.std.proofs.Common.{zero-lt-suc, mul-pos, pow_pos}
use Rattle.std.specs.Float.{nan, inf, fin, Format}
use Rattle.std.specs.Float.Ieee.{prec, low, hid, up, down}
use Rattle.std.specs.Float.Ieee.Fits.{down_pos}
use Rattle.fraction.specs.Whole.{Whole, natʷ}
use Rattle.fraction.specs.Fraction.{Fraction, natᶠ}

-- n with a sign: negative where s is true
abbrev pub signed : Bool → ℕ → Whole
signed false n = natʷ n
signed true n = record { plus = 0; minus = n }

-- ± a / c
abbrev pub signedᶠ : Bool → ℕ → (c : ℕ) → 0 < c → Fraction
signedᶠ s a c C = record { num = signed s a; den = c; pos = C }

-- a finite float's value: ± m * 2 ^ e, 2 ^ e being up e / down e. A NaN and an infinity have none, and 0 stands in
-- for it
unfoldable pub val : Float → Fraction
val nan = natᶠ 0
val (inf s) = natᶠ 0
val (fin s m e) = signedᶠ s (m * up e) (down e) (down_pos e)

-- the unit roundoff, half the distance from 1 to the next value: 2 ^ -24 and 2 ^ -53
abbrev pub roundoff : Format → Fraction
roundoff f = record { num = natʷ 1; den = 2 * hid f; pos = mul-pos (zero-lt-suc 1) (pow_pos (prec f - 1)) }

-- half of the smallest positive value: 2 ^ -150 and 2 ^ -1075
abbrev pub tiny : Format → Fraction
tiny f = record { num = natʷ 1; den = 2 * 2 ^ low f; pos = mul-pos (zero-lt-suc 1) (pow_pos (low f)) }

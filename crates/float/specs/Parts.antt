-- A finite float taken apart, and what the helpers over its parts promise to each other and to the code of
-- `narrowing`, `whole`, `square_sums` and `roots`. No public call's contract cites these. Definitions only.
use Rattle.std.specs.Prelude.{◌≡◌, ℕ, ◌+◌, ◌-◌, ◌*◌, ◌/◌, ◌%◌, ◌^◌, ◌<◌, ◌≤◌, min, Bool, cond, ◌⊎◌, ◌==◌, nat_le, Float}
use Rattle.std.specs.Float.{Format}
use Rattle.std.specs.Float.Ieee.{prec, emax, low, hid}
use Rattle.std.specs.Float.Ieee.Exact.{HasValue}

-- x has the sign s and is d * 2 ^ e of the format's smallest values. The leading digit is among d's unless e is 0
pub record Unpacked (f : Format) (x : Float) (s : Bool) (d e : ℕ) : Type 0 where
  pub value : HasValue x s (d * 2 ^ e) (2 ^ low f)
  pub small : d < 2 ^ prec f
  pub fields : e < emax f + emax f
  pub full : (e ≡ 0) ⊎ (hid f ≤ d)

-- what the fields of a bit pattern stand for, by the weights of its sign and of its exponent's field. A field of 0 has
-- no leading digit and counts as 1
pub record Fields (bits sign hidden : ℕ) (s : Bool) (d e : ℕ) : Type 0 where
  pub negative : s ≡ nat_le sign bits
  pub digits : d ≡ bits % hidden + cond (bits % sign / hidden == 0) 0 hidden
  pub exponent : e ≡ bits % sign / hidden - 1

-- the bit pattern with n below the sign, and an infinity's from there on
abbrev pub pattern_of : Bool → ℕ → ℕ → ℕ → ℕ
pattern_of s n infinite sign = cond s sign 0 + min n infinite

-- What the functions that guess a root and check it promise to each other. Nothing that a caller of the crate sees
-- rests on these. Definitions only.
use Rattle.std.specs.Prelude.{◌≡◌, ◌⊎◌, true, false, pos, ℕ, ◌+◌, ◌-◌, ◌*◌, ◌^◌, ◌<◌, Float}
use Rattle.std.specs.Float.{fin, binary32, binary64}
use Rattle.std.specs.Float.Ieee.{mul, lt, of_bits}

-- 0, or the bit pattern of an f32 that is neither subnormal nor the first that is not, and finite
abbrev pub Guessed : ℕ → Type 0
Guessed p = (p ≡ 0) ⊎ ((2 ^ 23 < p) × (p < 255 * 2 ^ 23))

-- the middle of two f32s next to each other, by a bit pattern with one digit more than theirs: that below the f32 whose
-- pattern is p has 2 * p - 1, that above it 2 * p + 1
abbrev pub midpoint_of : ℕ → Float
midpoint_of m = of_bits binary64 ((m + 896 * 2 ^ 24) * 2 ^ 28)

-- the square of a midpoint
abbrev pub mid_square_of : ℕ → Float
mid_square_of m = mul binary64 (midpoint_of m) (midpoint_of m)

-- r is the f32 of a bit pattern, and v is strictly between the squares of the midpoints beside it
pub record Between (v r : Float) : Type 0 where
  pub pattern : ℕ
  pub is : r ≡ of_bits binary32 pattern
  pub least : 2 ^ 23 < pattern
  pub most : pattern < 255 * 2 ^ 23
  pub over : lt (mid_square_of (2 * pattern - 1)) v ≡ true
  pub under : lt v (mid_square_of (2 * pattern + 1)) ≡ true

-- 0, or so
abbrev pub Checked : Float → Float → Type 0
Checked v r = (r ≡ fin false 0 (pos 0)) ⊎ Between v r

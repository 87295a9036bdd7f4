-- The root of a sum of squares in whole numbers of the smallest f32: what the functions that find it promise. Nothing
-- that a caller of `roots` sees rests on these. Definitions only.
use Rattle.std.specs.Prelude.{◌≡◌, ◌⊎◌, ℕ, ◌+◌, ◌*◌, ◌^◌, ◌≤◌, ◌<◌, Float}
use Rattle.std.specs.Float.{binary32}
use Rattle.root_digits.specs.Root.{round_root}

-- the digits and the exponent of an f32
pub record Digits (d e : ℕ) : Type 0 where
  pub small : d < 2 ^ 24
  pub exponent : e < 2 ^ 8
  pub full : (e ≡ 0) ⊎ (2 ^ 23 ≤ d)

-- the square of d * 2 ^ e
abbrev pub square : ℕ → ℕ → ℕ
square d e = d * 2 ^ e * (d * 2 ^ e)

-- r is the f32 nearest to the root of S squares of the smallest f32, as whichever fraction these are written
unfoldable pub RootOfSquares : ℕ → Float → Type 0
unfolding round_root
RootOfSquares S r = (num den : ℕ) → 0 < den → num * (2 ^ 149 * 2 ^ 149) ≡ S * den → r ≡ round_root binary32 num den

-- four times S is `sum` squares of 2 ^ k and, exactly where `more` is above 0, a part of one more
pub record InSquares (S sum more k : ℕ) : Type 0 where
  pub from : sum * (2 ^ k * 2 ^ k) ≤ S * 4
  pub below : S * 4 < (sum + 1) * (2 ^ k * 2 ^ k)
  pub exact : more ≡ 0 → S * 4 ≡ sum * (2 ^ k * 2 ^ k)
  pub inexact : 0 < more → sum * (2 ^ k * 2 ^ k) < S * 4

-- r is the f32 nearest to the root of every such S
unfoldable pub RootOfSum : ℕ → ℕ → ℕ → Float → Type 0
unfolding RootOfSquares
RootOfSum sum more k r = (S : ℕ) → InSquares S sum more k → RootOfSquares S r

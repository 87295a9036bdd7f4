-- A root's digits, and what the functions that find them promise to those that make roots of them. Nothing that a
-- caller of `roots` sees rests on these. Definitions only.
use Rattle.std.specs.Prelude.{◌≡◌}
use Prim.Native.Nat.{ℕ, zero, suc, ◌*◌, ◌^◌, ◌+◌, ◌/◌, ◌%◌, ◌≤◌, ◌<◌, Ordering}
use Rattle.std.specs.Float.Ieee.{nearest}

-- root is the whole root, with rest left over, of a number's `steps` leading pairs of digits, the number being a with
-- pairs of zeros after its 64 digits
pub record RootDigits (a steps root rest : ℕ) : Type 0 where
  pub square : root * root + rest ≡ a * 4 ^ steps / 2 ^ 64
  pub left : rest ≤ 2 * root
  pub short : root < 2 ^ steps

-- a root of a number n, its rest, and the digits to come of n * p * p + high * p + low: one division finds as many as p
-- has
pub record Extendable (root rest p high low : ℕ) : Type 0 where
  pub short : root < 2 ^ 27
  pub within : rest ≤ 2 * root
  pub few : p ≤ 2 ^ 27
  pub wide : p ≤ 2 * root
  pub upper : high < p
  pub lower : low < p

-- root is the whole root, with rest left over, of n * p * p + high * p + low, where n is the square of `from` and
-- `over`
pub record Extended (from over p high low root rest : ℕ) : Type 0 where
  pub square : root * root + rest ≡ (from * from + over) * (p * p) + high * p + low
  pub left : rest ≤ 2 * root

-- how a root compares with a half past r / 2, r being its digits, one more than the format keeps: t is 0 only where r
-- is exact
abbrev pub side_of_half : ℕ → ℕ → Ordering
side_of_half zero t = Ordering.lt
side_of_half (suc b) zero = Ordering.eq
side_of_half (suc b) (suc t) = Ordering.gt

-- the whole number that r / 2 is rounded to
abbrev pub rounded_half : ℕ → ℕ → ℕ
rounded_half r t = nearest (r / 2) (side_of_half (r % 2) t)

-- r is the whole part of the root of four times n, counted in u, the square of a step: the root of n has r half steps,
-- and a rest exactly where t is above 0
pub record HalfSteps (n u r t : ℕ) : Type 0 where
  pub from : r * r * u ≤ n * 4
  pub below : n * 4 < (r + 1) * (r + 1) * u
  pub exact : t ≡ 0 → n * 4 ≡ r * r * u
  pub inexact : 0 < t → r * r * u < n * 4

-- What the functions that take a float's root by its digits promise to each other. Nothing that a caller of the crate
-- sees rests on these. Definitions only.
use Rattle.std.specs.Prelude.{◌≡◌, ℕ, ◌*◌, ◌^◌, ◌+◌, ◌%◌, ◌≤◌, ◌<◌}
use Rattle.root_digits.specs.Digits.{rounded_half}

-- d moved up by s places, where e + s is even, to 63 or 64 digits
pub record AlignedBy (d e a s : ℕ) : Type 0 where
  pub moved : a ≡ d * 2 ^ s
  pub high : 2 ^ 62 ≤ a
  pub fits : a < 2 ^ 64
  pub even : (e + s) % 2 ≡ 0
  pub under : s < 64

-- q is the root of d * 2 ^ e to p digits, and has the exponent k: rounded from a root of one digit more, and its rest.
-- Four times d * 2 ^ e is their square in steps of 2 ^ k, in a format whose smallest value is 2 ^ -low, with the bias
-- low + 64 - 2 * p
pub record RootParts (d e p bias q k : ℕ) : Type 0 where
  pub root : ℕ
  pub rest : ℕ
  pub kept : q ≡ rounded_half root rest
  pub square : (root * root + rest) * 2 ^ 64 * (2 ^ k * 2 ^ k) ≡ d * 2 ^ (e + bias + 2 * p + 2)
  pub left : rest ≤ 2 * root
  pub high : 2 ^ p ≤ root
  pub short : root < 2 ^ (p + 1)
  pub exponent : k < 2 ^ 11

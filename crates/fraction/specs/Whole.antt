-- Whole numbers of either sign and of any size (document 01: 'a fraction of two whole numbers'), as differences `plus
-- - minus` of two naturals. Nothing is reduced: 3 - 1 and 2 - 0 are two ways to write one number, and `≈ʷ` says that
-- two are the same number. In this form order and equality are sums of naturals, which `omega` reads. Definitions
-- only.
use Rattle.std.specs.Prelude.{◌≡◌, ℕ, suc, ◌+◌, ◌-◌, ◌*◌, ◌≤◌, ◌<◌, ℤ, pos, negsuc}

pub record Whole : Type 0 where
  pub plus : ℕ
  pub minus : ℕ

infixl 6 ◌+ʷ◌ ◌-ʷ◌
infixl 7 ◌*ʷ◌ ◌×ℕ◌
infix 4 ◌≤ʷ◌ ◌≈ʷ◌ ◌<ʷ◌
-- ---- the numbers: a natural number, and an integer of the language's library
abbrev pub natʷ : ℕ → Whole
natʷ n = record { plus = n; minus = 0 }

abbrev pub ofℤ : ℤ → Whole
ofℤ (pos n) = natʷ n
ofℤ (negsuc n) = record { plus = 0; minus = suc n }

-- ---- a ≤ b, a < b and a = b, as sums: a.plus - a.minus against b.plus - b.minus
abbrev pub ◌≤ʷ◌ : Whole → Whole → Type 0
a ≤ʷ b = a.plus + b.minus ≤ b.plus + a.minus

abbrev pub ◌<ʷ◌ : Whole → Whole → Type 0
a <ʷ b = a.plus + b.minus < b.plus + a.minus

abbrev pub ◌≈ʷ◌ : Whole → Whole → Type 0
a ≈ʷ b = a.plus + b.minus ≡ b.plus + a.minus

-- ---- arithmetic
abbrev pub ◌+ʷ◌ : Whole → Whole → Whole
a +ʷ b = record { plus = a.plus + b.plus; minus = a.minus + b.minus }

abbrev pub negʷ : Whole → Whole
negʷ a = record { plus = a.minus; minus = a.plus }

abbrev pub ◌-ʷ◌ : Whole → Whole → Whole
a -ʷ b = record { plus = a.plus + b.minus; minus = a.minus + b.plus }

abbrev pub ◌*ʷ◌ : Whole → Whole → Whole
a *ʷ b = record { plus = a.plus * b.plus + a.minus * b.minus; minus = a.plus * b.minus + a.minus * b.plus }

-- a number n times
abbrev pub ◌×ℕ◌ : Whole → ℕ → Whole
a ×ℕ n = record { plus = a.plus * n; minus = a.minus * n }

-- the size, |a|
abbrev pub sizeʷ : Whole → ℕ
sizeʷ a = (a.plus - a.minus) + (a.minus - a.plus)

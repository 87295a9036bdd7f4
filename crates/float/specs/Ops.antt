-- The operators of Rust's `f32` as infix, for the definitions of the crates above, and the constants that they share.
-- `Rattle.std.specs.Float.Ieee` says what they mean. Definitions only.
use Rattle.std.specs.Prelude.{from_bits, Float}
use Rattle.std.specs.Float.{binary32}
use Rattle.std.specs.Float.Ieee.{add, sub, mul, div, neg}

infixl 6 ◌⊕◌ ◌⊖◌
infixl 7 ◌⊗◌ ◌⊘◌
-- IEEE 754's addition, subtraction, multiplication and division on binary32: the exact result, rounded once to
-- nearest, ties to even (document 01: 'Each float operation rounds once')
abbrev pub ◌⊕◌ : Float → Float → Float
x ⊕ y = add binary32 x y

abbrev pub ◌⊖◌ : Float → Float → Float
x ⊖ y = sub binary32 x y

abbrev pub ◌⊗◌ : Float → Float → Float
x ⊗ y = mul binary32 x y

abbrev pub ◌⊘◌ : Float → Float → Float
x ⊘ y = div binary32 x y

-- A constant is its bit pattern, as the compiled code has it; a negative one is the negation of one: 0.0, 0.5, 1.0,
-- -1.0 and 2.0
abbrev pub f0 : Float
f0 = from_bits binary32 0

abbrev pub f½ : Float
f½ = from_bits binary32 0x3f00_0000

abbrev pub f1 : Float
f1 = from_bits binary32 0x3f80_0000

abbrev pub f_minus_1 : Float
f_minus_1 = neg f1

abbrev pub f2 : Float
f2 = from_bits binary32 0x4000_0000

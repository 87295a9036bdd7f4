-- The arctangent of y over x, for every value. Document 02, change 5: 'a stand-in, used on both sides of the comparison,
-- in f32 and left to right'. `⊕ ⊖ ⊗ ⊘` are binary32's operations, and each rounds once. Definitions only.
use Rattle.std.specs.Prelude.{cond, ◌&&◌, from_bits, Float}
use Rattle.std.specs.Float.{binary32}
use Rattle.std.specs.Float.Ieee.{neg, lt, eq}
use Rattle.float.specs.Ops.{◌⊕◌, ◌⊖◌, ◌⊗◌, ◌⊘◌, f0}
use Rattle.float.specs.Simple.{abs_of}

-- 0.0464964749, 0.15931422 and 0.327622764, with the 7th, 5th and 3rd power of the ratio; 1.57079637 and 3.14159274
abbrev pub power7 : Float
power7 = from_bits binary32 0x3d3e_7316

abbrev pub power5 : Float
power5 = from_bits binary32 0x3e23_2344

abbrev pub power3 : Float
power3 = from_bits binary32 0x3ea7_be2c

abbrev pub quarter_turn : Float
quarter_turn = from_bits binary32 0x3fc9_0fdb

abbrev pub half_turn : Float
half_turn = from_bits binary32 0x4049_0fdb

-- 'Let a be the smaller of the two sizes divided by the larger, 0 when both are 0'
unfoldable pub ratio_of : Float → Float → Float
ratio_of ax ay = cond (eq ax f0 && eq ay f0) f0 (cond (lt ax ay) (ax ⊘ ay) (ay ⊘ ax))

-- 'and s = a × a. Let r = (((−0.0464964749 × s + 0.15931422) × s − 0.327622764) × s) × a + a'
unfoldable pub eighth_of : Float → Float
eighth_of a = let s = a ⊗ a in ((neg power7 ⊗ s ⊕ power5) ⊗ s ⊖ power3) ⊗ s ⊗ a ⊕ a

-- 'When y is the larger in size, r becomes 1.57079637 − r'
unfoldable pub steep_of : Float → Float → Float → Float
steep_of ax ay r = cond (lt ax ay) (quarter_turn ⊖ r) r

-- 'When x is below 0, r becomes 3.14159274 − r'
unfoldable pub behind_of : Float → Float → Float
behind_of x r = cond (lt x f0) (half_turn ⊖ r) r

-- 'When y is below 0, r is negated'
unfoldable pub under_of : Float → Float → Float
under_of y r = cond (lt y f0) (neg r) r

unfoldable pub atan2_of : Float → Float → Float
atan2_of y x =
    let ax = abs_of x in
    let ay = abs_of y in
    under_of y (behind_of x (steep_of ax ay (eighth_of (ratio_of ax ay))))

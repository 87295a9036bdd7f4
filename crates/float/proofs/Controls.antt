-- Closed cases of the definitions in specs/, computed, with Rust's answers, and those of document 02's arctangent worked
-- out beside. Assumes nothing.
use Rattle.std.proofs.Common.{◌≡◌, ℕ, Bool, true, ◌&&◌, eqb, List, [], ◌∷◌, refl}
use lib.Count.{count_trailing_zeros}
use lib.Ieee.{Float, binary32, binary64, of_bits, to_bits, of_fields, odd, units, round, size, span, climb, add, sub, sum, mul, div, neg, lt, eq, is_nan}
use Rattle.float.specs.Simple.{abs_of, min_of, max_of, signum_of}
use Rattle.float.specs.Arctan.{ratio_of, eighth_of, steep_of, behind_of, under_of, atan2_of}

-- the float of a bit pattern
abbrev pub f32 : ℕ → Float
f32 n = of_bits binary32 n

abbrev pub f64 : ℕ → Float
f64 n = of_bits binary64 n

-- what a definition gives, as a bit pattern, and the answer
unfoldable pub agrees : List (ℕ × ℕ) → Bool
agrees [] = true
agrees (r ∷ rs) = eqb r.0 r.1 && agrees rs

abbrev table : List (ℕ × ℕ)
table =
    -- the size and the sign of -0; of two zeros the first
    (to_bits binary32 (abs_of (f32 0x8000_0000)), 0)
    ∷ (to_bits binary32 (signum_of (f32 0x8000_0000)), 0xbf80_0000)
    ∷ (to_bits binary32 (max_of (f32 0x8000_0000) (f32 0)), 0x8000_0000)
    ∷ (to_bits binary32 (min_of (f32 0) (f32 0x8000_0000)), 0)
    ∷ []

-- the arctangent of y over x: of two zeros; a y of -0 behind, half a turn; equal sizes, and x one float smaller, where it
-- jumps by 0.0004; below, behind and steep
abbrev angles : List (ℕ × ℕ)
angles =
    (to_bits binary32 (atan2_of (f32 0) (f32 0)), 0)
    ∷ (to_bits binary32 (atan2_of (f32 0x8000_0000) (f32 0xbf80_0000)), 0x4049_0fdb)
    ∷ (to_bits binary32 (atan2_of (f32 0x3f80_0000) (f32 0x3f80_0000)), 0x3f49_028a)
    ∷ (to_bits binary32 (atan2_of (f32 0x3f80_0000) (f32 0x3f7f_ffff)), 0x3f49_1d2d)
    ∷ (to_bits binary32 (atan2_of (f32 0xbf80_0000) (f32 0xbf80_0000)), 0xc016_cf38)
    ∷ (to_bits binary32 (atan2_of (f32 0xc000_0000) (f32 0x3f80_0000)), 0xbf8d_b690)
    ∷ []

table_agrees : agrees table ≡ true
unfolding agrees abs_of signum_of max_of min_of neg lt is_nan of_bits to_bits
table_agrees = refl

angles_agree : agrees angles ≡ true
unfolding agrees abs_of ratio_of eighth_of steep_of behind_of under_of atan2_of add sub mul div sum neg lt eq round size span climb units odd of_fields
    count_trailing_zeros of_bits to_bits
angles_agree = refl

-- Closed cases of the definitions in specs/, computed, with Rust's answers. Assumes nothing.
use mathlib.Core.Path.{◌≡◌, refl}
use mathlib.Core.List.{List, [], ◌∷◌}
use mathlib.Core.Bool.{true}
use Prim.Native.Nat.{ℕ}
use lib.Ieee.{binary32, binary64, of_bits, to_bits, add, mul, round}
use Rattle.narrowing.specs.Width.{narrow_of}
use Rattle.float.proofs.Controls.{f32, f64, agrees}
use Rattle.root_digits.specs.Root.{root_below, whole_root, round_root}
use Rattle.roots.specs.Root.{sqrt_of}
use Rattle.nearest_roots.specs.Root.{two_step_of, hypot_of}

abbrev hypot : ℕ → ℕ → ℕ
hypot x y = to_bits binary32 (hypot_of (f32 x) (f32 y))

abbrev two_steps : ℕ → ℕ → ℕ
two_steps x y = to_bits binary32 (two_step_of (f32 x) (f32 y))

abbrev table : List (ℕ × ℕ)
table =
    -- the root of 2 at both widths, and of the smallest f64
    (to_bits binary32 (sqrt_of binary32 (f32 0x4000_0000)), 0x3fb5_04f3)
    ∷ (to_bits binary64 (sqrt_of binary64 (f64 0x4000_0000_0000_0000)), 0x3ff6_a09e_667f_3bcd)
    ∷ (to_bits binary64 (sqrt_of binary64 (f64 1)), 0x1e60_0000_0000_0000)
    -- hypot of 3 and 4
    ∷ (hypot 0x4040_0000 0x4080_0000, 0x40a0_0000)
    -- of 8388722 and 2896.3291015625: 8388723, by the two steps 8388722
    ∷ (hypot 0x4b00_0072 0x4535_0544, 0x4b00_0073)
    ∷ (two_steps 0x4b00_0072 0x4535_0544, 0x4b00_0072)
    -- ties: 16777225 and 16777235 exactly, to 16777224 and 16777236
    ∷ (hypot 0x4b19_999f 0x4b4c_ccd4, 0x4b80_0004)
    ∷ (hypot 0x4b19_99a5 0x4b4c_ccdc, 0x4b80_000a)
    -- two zeros; -3 and -0; the smallest f32 with itself and with twice itself; 1.5 and 1.5
    ∷ (hypot 0x8000_0000 0x8000_0000, 0)
    ∷ (hypot 0xc040_0000 0x8000_0000, 0x4040_0000)
    ∷ (hypot 1 1, 1)
    ∷ (hypot 1 2, 2)
    ∷ (hypot 0x3fc0_0000 0x3fc0_0000, 0x4007_c3b6)
    -- the largest f32 with 2 ^ 116, and with the f32 below; a tie between it and 2 ^ 128
    ∷ (hypot 0x7f7f_ffff 0x7980_0000, 0x7f80_0000)
    ∷ (hypot 0x7f7f_ffff 0x797f_ffff, 0x7f7f_ffff)
    ∷ (hypot 0x7d2c_8ff8 0x7f7f_c5d0, 0x7f80_0000)
    -- infinity and a NaN; minus infinity and 1; a NaN and 0
    ∷ (hypot 0x7f80_0000 0x7fc0_0000, 0x7fc0_0000)
    ∷ (hypot 0xff80_0000 0x3f80_0000, 0x7f80_0000)
    ∷ (hypot 0x7fc0_0000 0, 0x7fc0_0000)
    ∷ []

table_agrees : agrees table ≡ true
unfolding agrees root_below whole_root round_root sqrt_of two_step_of hypot_of narrow_of add mul round of_bits to_bits
table_agrees = refl

-- Closed cases of the definitions in specs/, computed, with Rust's answers. Assumes nothing.
use mathlib.Core.Path.{◌≡◌, refl}
use mathlib.Core.List.{List, [], ◌∷◌}
use mathlib.Core.Bool.{true}
use Prim.Native.Nat.{ℕ}
use lib.Ieee.{binary32, binary64, of_bits, to_bits, add, mul, round}
use Rattle.narrowing.specs.Width.{narrow_of}
use Rattle.float.proofs.Controls.{f32, f64, agrees}
use Rattle.roots.specs.Root.{sqrt_of, hypot_of}

abbrev table : List (ℕ × ℕ)
table =
    -- the root of 2 at both widths, and of the smallest f64
    (to_bits binary32 (sqrt_of binary32 (f32 0x4000_0000)), 0x3fb5_04f3)
    ∷ (to_bits binary64 (sqrt_of binary64 (f64 0x4000_0000_0000_0000)), 0x3ff6_a09e_667f_3bcd)
    ∷ (to_bits binary64 (sqrt_of binary64 (f64 1)), 0x1e60_0000_0000_0000)
    -- hypot of 3 and 4
    ∷ (to_bits binary32 (hypot_of (f32 0x4040_0000) (f32 0x4080_0000)), 0x40a0_0000)
    ∷ []

table_agrees : agrees table ≡ true
unfolding agrees sqrt_of hypot_of narrow_of add mul round of_bits to_bits
table_agrees = refl

-- Closed cases of the definition in specs/, computed, with Rust's answers. Assumes nothing.
use mathlib.Core.Path.{◌≡◌, refl}
use mathlib.Core.List.{List, [], ◌∷◌}
use mathlib.Core.Bool.{true}
use Prim.Native.Nat.{ℕ}
use lib.Ieee.{binary32, of_bits, to_bits, round}
use Rattle.float.proofs.Controls.{f64, agrees}
use Rattle.narrowing.specs.Width.{narrow_of}

abbrev table : List (ℕ × ℕ)
table =
    -- 1 + 2 ^ -24 is a tie and goes to the even 1, 1 + 3 * 2 ^ -24 up to 1 + 2 ^ -22
    (to_bits binary32 (narrow_of (f64 0x3ff0_0000_1000_0000)), 0x3f80_0000)
    ∷ (to_bits binary32 (narrow_of (f64 0x3ff0_0000_3000_0000)), 0x3f80_0002)
    -- half of the smallest f32 goes to 0, the largest f64 to infinity
    ∷ (to_bits binary32 (narrow_of (f64 0x3690_0000_0000_0000)), 0)
    ∷ (to_bits binary32 (narrow_of (f64 0x7fef_ffff_ffff_ffff)), 0x7f80_0000)
    ∷ []

table_agrees : agrees table ≡ true
unfolding agrees narrow_of round of_bits to_bits
table_agrees = refl

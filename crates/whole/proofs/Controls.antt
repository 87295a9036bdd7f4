-- Closed cases of the definitions in specs/, computed, with Rust's answers. Assumes nothing.
use mathlib.Core.Path.{◌≡◌, refl}
use mathlib.Core.List.{List, [], ◌∷◌}
use mathlib.Core.Bool.{true}
use Prim.Native.Nat.{ℕ}
use lib.Ieee.{binary32, of_bits, to_bits, round}
use Rattle.float.proofs.Controls.{f32, agrees}
use Rattle.whole.specs.Whole.{integral_of, floor_of, ceil_of}

abbrev table : List (ℕ × ℕ)
table =
    -- -0.5 down and up
    (to_bits binary32 (floor_of (f32 0xbf00_0000)), 0xbf80_0000)
    ∷ (to_bits binary32 (ceil_of (f32 0xbf00_0000)), 0x8000_0000)
    ∷ []

table_agrees : agrees table ≡ true
unfolding agrees integral_of round of_bits to_bits
table_agrees = refl

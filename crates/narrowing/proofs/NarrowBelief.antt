-- What `narrow_of` is (`NarrowBeliefs` of specs/Beliefs.antt): the one rounding of crates/rounding, so that what is
-- proved of that holds of it. Assumes nothing.
use mathlib.Core.Path.{◌≡◌, refl}
use mathlib.Core.Bool.{Bool}
use Prim.Native.Nat.{ℕ, ◌*◌, ◌^◌}
use lib.Dec.{T}
use lib.IntN.{ℤ}
use lib.Ieee.{Float, nan, inf, fin, binary32, up, down, round}
use lib.Ieee.Fits.{down_pos}
use lib.Ieee.Scale.{finite}
use Rattle.fraction.specs.Fraction.{natᶠ, Within}
use Rattle.rounding.specs.Value.{val, tiny}
use Rattle.rounding.specs.Rounding.{Rounds}
use Rattle.rounding.proofs.Round.{round_rounds}
use Rattle.narrowing.specs.Width.{narrow_of}
use Rattle.narrowing.specs.Beliefs.{NarrowBeliefs}

-- a finite value is rounded to binary32, to nearest, ties to even
narrow_is_round : (s : Bool) (m : ℕ) (e : ℤ) → narrow_of (fin s m e) ≡ round binary32 s (m * up e) (down e)
unfolding narrow_of
narrow_is_round s m e = refl

-- up to 2 ^ 127 in size nothing overflows: the result is finite, near x, and no value of binary32 lies between the two
narrow_rounds : (x : Float) → T (finite x) → Within (val x) (natᶠ (2 ^ 127)) → Rounds binary32 (tiny binary32) (val x) (narrow_of x)
unfolding narrow_of val
narrow_rounds nan p w = absurd p
narrow_rounds (inf s) p w = absurd p
narrow_rounds (fin s m e) p w = round_rounds binary32 s (m * up e) (down e) (down_pos e) w

pub narrow_beliefs : NarrowBeliefs
narrow_beliefs = record { is_round = narrow_is_round; rounds = narrow_rounds }

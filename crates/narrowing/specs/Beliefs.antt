-- Why the definition of this folder may be believed: what it is, in exact numbers. `val x` is a finite float's value
-- as a fraction (crate rounding). The proofs have an element of the record: proofs/NarrowBelief.antt. Statements only.
use Rattle.std.specs.Prelude.{◌≡◌, Bool, ℕ, ◌*◌, ◌^◌, T, ℤ, Float}
use Rattle.std.specs.Float.{fin, binary32}
use Rattle.std.specs.Float.Ieee.{up, down, round}
use Rattle.std.specs.Float.Ieee.Scale.{finite}
use Rattle.fraction.specs.Fraction.{natᶠ, Within}
use Rattle.rounding.specs.Value.{val, tiny}
use Rattle.rounding.specs.Rounding.{Rounds}
use Rattle.narrowing.specs.Width.{narrow_of}

-- ---- document 01: 'f64 to f32 is to nearest, ties to even'
pub record NarrowBeliefs : Type 0 where
  pub is_round : (s : Bool) (m : ℕ) (e : ℤ) → narrow_of (fin s m e) ≡ round binary32 s (m * up e) (down e)
  -- up to 2 ^ 127 in size nothing overflows: the result is finite, near x, and no value of binary32 lies between the
  -- two (crate rounding)
  pub rounds : (x : Float) → T (finite x) → Within (val x) (natᶠ (2 ^ 127)) → Rounds binary32 (tiny binary32) (val x) (narrow_of x)

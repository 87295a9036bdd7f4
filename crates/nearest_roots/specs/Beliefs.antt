-- Why `hypot_of` of Root.antt may be believed. The proofs have an element of `HypotBeliefs`: proofs/RootBelief.antt. Of
-- the square root it is `RootBeliefs` of crate roots. `RootOf` (crate root_digits) says that a value of a format is
-- nearest to a root, ties to even, and `NoneNearer` that no other is nearer. Statements only.
use Rattle.std.specs.Prelude.{◌≡◌, ◌⊎◌, Bool, false, ℕ, ◌-◌, ◌*◌, ◌^◌, ◌≤◌, ◌<◌, T, ℤ, pos, Float}
use Rattle.std.specs.Float.{inf, fin, binary32}
use Rattle.std.specs.Float.Ieee.{up, down}
use Rattle.std.specs.Float.Ieee.Scale.{finite}
use Rattle.fraction.specs.Fraction.{◌≈ᶠ◌, ◌+ᶠ◌, ◌*ᶠ◌}
use Rattle.rounding.specs.Value.{val, signedᶠ}
use Rattle.root_digits.specs.Beliefs.{RootOf, NoneNearer}
use Rattle.nearest_roots.specs.Root.{two_step_of, sum_of_squares, hypot_of}

-- ---- document 02, change 11

-- halfway from the largest f32, (2 ^ 24 - 1) * 2 ^ 104, to 2 ^ 128
abbrev pub halfway : ℕ
halfway = (2 ^ 25 - 1) * 2 ^ 103

-- what is said of finite x and y: their squares' sum is num / den
pub record OfFinite (x y : Float) (num den : ℕ) : Type 0 where
  pub some : 0 < den
  -- the exact sum of the exact squares
  pub exact_sum : signedᶠ false num den some ≈ᶠ val x *ᶠ val x +ᶠ val y *ᶠ val y
  -- hypot is the f32 nearest to its root, ties to even
  pub hypot_nearest : RootOf binary32 num den (hypot_of x y)
  -- and no f32 is nearer: its neighbours' midpoints, and all others', have the root between them
  pub none_nearer : NoneNearer binary32 num den (hypot_nearest.q * 2 ^ hypot_nearest.k)
  -- 'overflow to infinity where IEEE 754 rounds so': exactly where the root is halfway to 2 ^ 128, or more
  pub infinite : halfway * halfway * den ≤ num → hypot_of x y ≡ inf false
  pub not_infinite : num < halfway * halfway * den → T (finite (hypot_of x y))

pub record HypotBeliefs : Type 0 where
  pub of_finite : (s : Bool) (m : ℕ) (e : ℤ) (t : Bool) (n : ℕ) (g : ℤ)
      → OfFinite (fin s m e) (fin t n g) (sum_of_squares (m * up e) (down e) (n * up g) (down g)) (down e * down e * (down g * down g))
  -- 'two zeros of any sign give +0'
  pub hypot_zeros : (s : Bool) (e : ℤ) (t : Bool) (g : ℤ) → hypot_of (fin s 0 e) (fin t 0 g) ≡ fin false 0 (pos 0)
  -- 'with an argument that is not finite the two-step meaning stays'
  pub not_finite : (x y : Float) → (finite x ≡ false) ⊎ (finite y ≡ false) → hypot_of x y ≡ two_step_of x y

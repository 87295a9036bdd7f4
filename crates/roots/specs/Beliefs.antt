-- Why the definitions of Root.antt may be believed. The proofs have an element of `RootBeliefs`:
-- proofs/RootBelief.antt. `RootOf` (crate root_digits) says that a value of a format is nearest to a root, ties to even.
-- Statements only.
use Rattle.std.specs.Prelude.{false, ℕ, suc, ◌*◌, ◌≤◌, T, ℤ}
use Rattle.std.specs.Float.{fin, Format}
use Rattle.std.specs.Float.Ieee.{up, down, fits}
use Rattle.std.specs.Float.Ieee.Scale.{finite}
use Rattle.root_digits.specs.Root.{whole_root}
use Rattle.root_digits.specs.Beliefs.{RootOf}
use Rattle.roots.specs.Root.{sqrt_of}

-- ---- document 01: 'root is IEEE 754's'
pub record RootBeliefs : Type 0 where
  -- the largest number whose square is at most n
  pub whole_root_largest : (n : ℕ) → (whole_root n * whole_root n ≤ n) × ((r : ℕ) → r * r ≤ n → r ≤ whole_root n)
  -- the root of a value above 0 is the format's value nearest to it, ties to even
  pub sqrt_nearest : (f : Format) (m : ℕ) (e : ℤ) → RootOf f (suc m * up e) (down e) (sqrt_of f (fin false (suc m) e))
  -- and it is finite
  pub sqrt_finite : (f : Format) (m : ℕ) (e : ℤ) → T (fits f (fin false (suc m) e)) → T (finite (sqrt_of f (fin false (suc m) e)))

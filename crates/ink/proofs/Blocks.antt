-- Both ends of a block's ink, byte by byte without a branch. Assumes nothing.
use mathlib.Core.Path.{◌≡◌}
use mathlib.Core.List.{List}
use Prim.Native.Nat.{ℕ, ◌≤◌, ◌<◌}
use lib.ListN.{length, get_or}

-- of the first i bytes none before `first` has ink
pub record FirstSoFar (line : List ℕ) (first i : ℕ) : Type 0 where
  pub within : i ≤ length line
  pub low : first ≤ length line
  pub blanks : (k : ℕ) → k < i → k < first → get_or line k 0 ≡ 0

-- .. and none from `end` on
pub record EndSoFar (line : List ℕ) (end i : ℕ) : Type 0 where
  pub within : i ≤ length line
  pub low : end ≤ i
  pub blanks : (k : ℕ) → k < i → end ≤ k → get_or line k 0 ≡ 0

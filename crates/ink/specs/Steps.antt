-- What the functions of this crate promise to each other. Definitions only.
use Rattle.std.specs.Prelude.{ℕ, ◌≤◌, ◌<◌, ◌≡◌, List, length, get_or}

-- no byte has ink from one column up to another
abbrev pub Blanks : List ℕ → ℕ → ℕ → Type 0
Blanks line from to = (column : ℕ) → from ≤ column → column < to → get_or line column 0 ≡ 0

-- columns of a line that a scan may pass: from one up to another none has ink
pub record Passed (line : List ℕ) (from to : ℕ) : Type 0 where
  pub up : from ≤ to
  pub within : to ≤ length line
  pub blanks : Blanks line from to

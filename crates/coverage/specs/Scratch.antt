-- The scratch that is lent for a drawing (document 01, 'The masks'). Definitions only.
use Rattle.std.specs.Prelude.{◌≡◌, List, ℕ, ◌+◌, ◌*◌, ◌≤◌, length, take, replicate, Float}
use Rattle.float.specs.Ops.{f0}
use Rattle.cells.specs.declared.Size.{Size}
use Rattle.cells.specs.Cells.{cells_of, SizeAllowed}
use Rattle.accumulation.specs.Marks.{mark_words}

-- 'Scratch is 32-bit floats, at least width + 15 × points of the list,
abbrev pub floats_needed : Size → ℕ → ℕ
floats_needed size points = size.width + 15 * points

-- and 64-bit counters, at least (width + 63) / 64, rounded down, + height + 1.' A row's words of marks, and a head for
-- each row
abbrev pub counters_needed : Size → ℕ
counters_needed size = mark_words size.width + size.height

-- a mask of this size, and scratch for a list of so many points, are long enough
pub record Room (mask : List ℕ) (floats : List Float) (counters : List ℕ) (size : Size) (points : ℕ) : Type 0 where
  pub size_allowed : SizeAllowed size
  pub cells : cells_of size ≡ length mask
  pub few : points ≤ 2048
  pub floats_enough : floats_needed size points ≤ length floats
  pub counters_enough : counters_needed size ≤ length counters

-- no cell holds area, no mark is set and no row has edges: before a group is drawn, and after
pub record Clean (floats : List Float) (counters : List ℕ) (size : Size) : Type 0 where
  pub cells : take size.width floats ≡ replicate size.width f0
  pub counts : take (counters_needed size) counters ≡ replicate (counters_needed size) 0

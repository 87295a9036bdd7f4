-- What the fitter's parts promise to each other. Nothing that a caller of the crate sees rests on these. Definitions
-- only.
use Rattle.std.specs.Prelude.{◌≡◌, true, List, ℕ, ◌≤◌, length, take, Float}
use Rattle.geometry.specs.declared.Position.{Position}
use Rattle.outline.specs.declared.Walk.{Walk}
use Rattle.outline.specs.Outline.{most_verbs}
use Rattle.outline.specs.Contour.{Contour, Walked, reached}
use Rattle.outline.specs.Kept.{walk_of}
use Rattle.fit.specs.Fit.{corners_of, closed_of}

-- how many corners an outline has, which are in a list where they are at most four
pub record Turned (points : List Position) (size : Float) (m : ℕ) (kept : List Position) : Type 0 where
  pub counted : m ≡ length (corners_of points size)
  pub corners : m ≤ 4 → take m kept ≡ corners_of points size

-- how many segments a contour that has begun has once it is closed, by what is kept of it
pub record ClosedCount (w : Walk) (r : ℕ) : Type 0 where
  pub most : w.started ≡ true → r ≤ most_verbs
  pub counts : (k : Contour) → w ≡ walk_of k → r ≡ length (closed_of k)

-- a walk that reached its end, with what is kept of its contour
pub record Reached (z : Walked) (w : Walk) : Type 0 where
  pub contour : Contour
  pub led : z ≡ reached contour
  pub stands : w ≡ walk_of contour

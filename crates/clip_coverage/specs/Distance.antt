-- The distance from a box's edge, and what lies inside it, as shape.rs computes them. `⊕ ⊖ ⊗ ⊘` are binary32's
-- operations, and each rounds once. Definitions only.
use Rattle.std.specs.Prelude.{Bool, cond, ◌&&◌, Float}
use Rattle.std.specs.Float.{binary32}
use Rattle.std.specs.Float.Ieee.{lt, le}
use Rattle.float.specs.Ops.{◌⊕◌, ◌⊖◌, ◌⊗◌, ◌⊘◌, f0, f1, f2}
use Rattle.float.specs.Simple.{abs_of, max_of, signum_of}
use Rattle.roots.specs.Root.{sqrt_of, hypot_of}
use Rattle.geometry.specs.declared.Position.{Position}
use Rattle.shape.specs.declared.RoundedBox.{RoundedBox}
use Rattle.shape.specs.Outline.{outline_point_of, all_below}
use Rattle.clip_coverage.specs.declared.ClipCoverage.{ClipCoverage}
use Rattle.clip_coverage.specs.declared.Located.{Located}
use Rattle.clip_coverage.specs.Limits.{containment_slack}

-- ---- ClipCoverage::locate

-- a point in the coverage's frame: `u`
abbrev pub framed_of : ClipCoverage → Position → Position
framed_of k p = record { x = k.la ⊗ p.x ⊕ k.lb ⊗ p.y ⊕ k.ox; y = k.lc ⊗ p.x ⊕ k.ld ⊗ p.y ⊕ k.oy }

-- `side` and `corner`, from u
abbrev pub side_of : ClipCoverage → Position → Position
side_of k u = record { x = abs_of u.x ⊖ k.ex; y = abs_of u.y ⊖ k.ey }

abbrev pub corner_of : ClipCoverage → Position → Position
corner_of k side = record { x = side.x ⊕ k.rx; y = side.y ⊕ k.ry }

-- `round`: off a round corner, the ends of the arc with it
unfoldable pub round_of : ClipCoverage → Position → Bool
round_of k corner = lt f0 k.rx && (le f0 corner.x && le f0 corner.y)

-- `round && corner[0] > 0.0 && corner[1] > 0.0`: of `round` it asks besides only that the x radius is above 0
unfoldable pub off_corner_of : ClipCoverage → Position → Bool
off_corner_of k corner = lt f0 k.rx && (lt f0 corner.x && lt f0 corner.y)

-- `lean`
unfoldable pub lean_of : ClipCoverage → Position → Float
lean_of k u = (k.la ⊗ k.lc ⊕ k.lb ⊗ k.ld) ⊗ signum_of u.x ⊗ signum_of u.y

-- `distance` at a corner: k1 is 1 on the corner's ellipse, and g its gradient
unfoldable pub corner_distance_of : ClipCoverage → Position → Position → Float
corner_distance_of k u corner =
    let kx = corner.x ⊘ k.rx in
    let ky = corner.y ⊘ k.ry in
    let k1 = hypot_of kx ky in
    let gx = kx ⊘ k.rx in
    let gy = ky ⊘ k.ry in
    (k1 ⊖ f1) ⊗ k1 ⊘ sqrt_of binary32 (gx ⊗ gx ⊕ gy ⊗ gy ⊕ f2 ⊗ gx ⊗ gy ⊗ lean_of k u)

-- `distance`, from `u`, `side` and `corner`
unfoldable pub edge_distance_of : ClipCoverage → Position → Position → Position → Float
edge_distance_of k u side corner =
    cond (off_corner_of k corner) (corner_distance_of k u corner) (max_of side.x side.y)

-- ClipCoverage::locate. Where the distance is a corner's, the Rust answers `true` for `round`, which it is there
unfoldable pub locate_of : ClipCoverage → Position → Located
locate_of k p =
    let u = framed_of k p in
    let side = side_of k u in
    let corner = corner_of k side in
    record { distance = edge_distance_of k u side corner; round = round_of k corner }

-- ClipCoverage::distance
unfoldable pub distance_of : ClipCoverage → Position → Float
distance_of k p = (locate_of k p).distance

-- ---- ClipCoverage::contains

-- a point is inside, within CONTAINMENT_SLACK
unfoldable pub holds_point_of : ClipCoverage → Position → Bool
holds_point_of k p = le (distance_of k p) containment_slack

-- ClipCoverage::contains
abbrev pub contains_of : ClipCoverage → RoundedBox → Bool
contains_of k b = all_below (λ i. holds_point_of k (outline_point_of b i)) 36

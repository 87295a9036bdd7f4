-- What lies inside the clip as it was given, as shape.rs computes it. `⊕ ⊖ ⊗ ⊘` are binary32's operations, and each
-- rounds once. Definitions only.
use Rattle.std.specs.Prelude.{Bool, cond, ◌&&◌, Float}
use Rattle.std.specs.Float.Ieee.{le, eq}
use Rattle.float.specs.Ops.{◌⊕◌, ◌⊖◌, ◌⊗◌, f0, f½}
use Rattle.float.specs.Simple.{abs_of}
use Rattle.geometry.specs.declared.Position.{Position}
use Rattle.geometry.specs.declared.Bounds.{Bounds}
use Rattle.clip_coverage.specs.declared.ClipCoverage.{ClipCoverage}
use Rattle.clip_coverage.specs.declared.Located.{Located}
use Rattle.clip_coverage.specs.Limits.{draw_slack}
use Rattle.clip_coverage.specs.Distance.{locate_of}

-- ---- ClipCoverage::outside

abbrev pub outside_by : Located → Float → Float → Float
outside_by l strays straddle = cond l.round (l.distance ⊖ strays ⊖ straddle) l.distance

unfoldable pub outside_of : ClipCoverage → Position → Float → Float
outside_of k p straddle = outside_by (locate_of k p) k.strays straddle

-- ---- ClipCoverage::holds. Document 02, change 1: 'The bounds given to `holds` may be any floats'

-- `self.radii == [0.0; 2]`
unfoldable pub square_corners_of : ClipCoverage → Bool
square_corners_of k = eq k.rx f0 && eq k.ry f0

-- `center` and `half`
unfoldable pub middle_of : Bounds → Position
middle_of b = record { x = (b.minx ⊕ b.maxx) ⊗ f½; y = (b.miny ⊕ b.maxy) ⊗ f½ }

unfoldable pub half_sides_of : Bounds → Position
half_sides_of b = record { x = (b.maxx ⊖ b.minx) ⊗ f½; y = (b.maxy ⊖ b.miny) ⊗ f½ }

-- the test of one axis: its row a b, its offset and its half extent
unfoldable pub axis_holds_of : Float → Float → Float → Float → Position → Position → Bool
axis_holds_of a b offset extent centre half =
    let at = a ⊗ centre.x ⊕ b ⊗ centre.y ⊕ offset in
    le (abs_of at ⊕ abs_of a ⊗ half.x ⊕ abs_of b ⊗ half.y ⊖ extent) draw_slack

unfoldable pub sides_hold_of : ClipCoverage → Bounds → Bool
sides_hold_of k b =
    axis_holds_of k.la k.lb k.ox k.ex (middle_of b) (half_sides_of b)
    && axis_holds_of k.lc k.ld k.oy k.ey (middle_of b) (half_sides_of b)

-- the test of one corner: `self.outside(corner, 0.0) <= DRAW_SLACK`
unfoldable pub point_holds_of : ClipCoverage → Float → Float → Bool
point_holds_of k x y = le (outside_of k (record { x = x; y = y }) f0) draw_slack

unfoldable pub corners_hold_of : ClipCoverage → Bounds → Bool
corners_hold_of k b =
    point_holds_of k b.minx b.miny
    && (point_holds_of k b.maxx b.miny && (point_holds_of k b.maxx b.maxy && point_holds_of k b.minx b.maxy))

unfoldable pub holds_of : ClipCoverage → Bounds → Bool
holds_of k b = cond (square_corners_of k) (sides_hold_of k b) (corners_hold_of k b)

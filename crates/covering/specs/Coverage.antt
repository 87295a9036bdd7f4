-- A box as a draw takes it, as shape.rs computes it. `⊕ ⊖ ⊗ ⊘` are binary32's operations, and each rounds once.
-- Definitions only.
use Rattle.std.specs.Prelude.{Bool, cond, not, ◌&&◌, ◌||◌, Float, Option, Some, None}
use Rattle.std.specs.Float.Ieee.{lt, le}
use Rattle.std.specs.Float.Ieee.Scale.{finite}
use Rattle.float.specs.Ops.{◌⊕◌, ◌⊖◌, ◌⊗◌, ◌⊘◌, f0}
use Rattle.roots.specs.Root.{hypot_of}
use Rattle.geometry.specs.declared.Transform2D.{Transform2D}
use Rattle.geometry.specs.declared.Position.{Position}
use Rattle.geometry.specs.Frame.{inverse_of}
use Rattle.shape.specs.declared.RoundedBox.{RoundedBox}
use Rattle.clip_coverage.specs.declared.ClipCoverage.{ClipCoverage}
use Rattle.covering.specs.Limits.{min_axis_spread, min_half_extent, square_corner_below}

-- ---- RoundedBox::coverage

-- `invertible`
unfoldable pub invertible_of : Transform2D → Bool
invertible_of t =
    let determinant = t.a ⊗ t.d ⊖ t.c ⊗ t.b in
    let spans = (t.a ⊗ t.a ⊕ t.b ⊗ t.b) ⊗ (t.c ⊗ t.c ⊕ t.d ⊗ t.d) in
    lt (min_axis_spread ⊗ spans) (determinant ⊗ determinant) && finite spans

-- `!invertible || fringe_width <= 0.0`
unfoldable pub uncovered_of : Transform2D → Float → Bool
uncovered_of t fringe = not (invertible_of t) || le fringe f0

-- RoundedBox::per_fringe, which `coverage` calls `per_unit`, from the inverse frame i
unfoldable pub per_fringe_of : Transform2D → Float → Position
per_fringe_of i fringe = record { x = hypot_of i.a i.c ⊗ fringe; y = hypot_of i.b i.d ⊗ fringe }

-- `extent[0] < MIN_HALF_EXTENT || extent[1] < MIN_HALF_EXTENT`
unfoldable pub thin_of : Float → Float → Bool
thin_of ex ey = lt ex min_half_extent || lt ey min_half_extent

-- `radii[0] < SQUARE_CORNER_BELOW || radii[1] < SQUARE_CORNER_BELOW`
unfoldable pub tight_of : Float → Float → Bool
tight_of rx ry = lt rx square_corner_below || lt ry square_corner_below

-- both radii are dropped where either is too tight
unfoldable pub kept_radii_of : Float → Float → Position
kept_radii_of rx ry = cond (tight_of rx ry) (record { x = f0; y = f0 }) (record { x = rx; y = ry })

-- the coverage by the inverse frame i and `per_unit`
abbrev pub coverage_by : RoundedBox → Transform2D → Position → ClipCoverage
coverage_by b i per =
    let radii = kept_radii_of (b.rx ⊘ per.x) (b.ry ⊘ per.y) in
    record {
      la = i.a ⊘ per.x;
      lb = i.c ⊘ per.x;
      lc = i.b ⊘ per.y;
      ld = i.d ⊘ per.y;
      ox = i.x ⊘ per.x;
      oy = i.y ⊘ per.y;
      ex = b.ex ⊘ per.x;
      ey = b.ey ⊘ per.y;
      rx = radii.x;
      ry = radii.y;
      strays = f0;
    }

abbrev pub coverage_in : RoundedBox → Transform2D → Position → Option ClipCoverage
coverage_in b i per =
    cond (thin_of (b.ex ⊘ per.x) (b.ey ⊘ per.y)) None (Some (coverage_by b i per))

-- RoundedBox::coverage
unfoldable pub coverage_of : RoundedBox → Float → Option ClipCoverage
coverage_of b fringe =
    let i = inverse_of b.frame in
    cond (uncovered_of b.frame fringe) None (coverage_in b i (per_fringe_of i fringe))

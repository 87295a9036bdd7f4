-- The device bounds of a coverage, as shape.rs computes them. `⊕ ⊖ ⊗ ⊘` are binary32's operations, and each rounds
-- once. Definitions only.
use Rattle.std.specs.Prelude.{cond, Float, Option, Some, None}
use Rattle.std.specs.Float.{binary32}
use Rattle.std.specs.Float.Ieee.{of_bits, eq}
use Rattle.float.specs.Ops.{◌⊕◌, ◌⊖◌, ◌⊗◌, ◌⊘◌, f0}
use Rattle.float.specs.Simple.{abs_of}
use Rattle.geometry.specs.declared.Position.{Position}
use Rattle.geometry.specs.declared.Bounds.{Bounds}
use Rattle.clip_coverage.specs.declared.ClipCoverage.{ClipCoverage}

-- ---- ClipCoverage::bounds

-- `determinant`, of the linear part by rows
unfoldable pub linear_determinant_of : ClipCoverage → Float
linear_determinant_of k = k.la ⊗ k.ld ⊖ k.lb ⊗ k.lc

-- `half`, by `outer`
unfoldable pub half_of : ClipCoverage → Float → Float → Position
half_of k determinant margin =
    let outerx = k.ex ⊕ margin in
    let outery = k.ey ⊕ margin in
    record {
      x = (abs_of k.ld ⊗ outerx ⊕ abs_of k.lb ⊗ outery) ⊘ abs_of determinant;
      y = (abs_of k.lc ⊗ outerx ⊕ abs_of k.la ⊗ outery) ⊘ abs_of determinant;
    }

-- `center`
unfoldable pub centre_of : ClipCoverage → Float → Position
centre_of k determinant =
    record { x = (k.lb ⊗ k.oy ⊖ k.ld ⊗ k.ox) ⊘ determinant; y = (k.lc ⊗ k.ox ⊖ k.la ⊗ k.oy) ⊘ determinant }

-- the bounds: their two ends are not put in order
unfoldable pub around_of : Position → Position → Bounds
around_of centre half =
    record { minx = centre.x ⊖ half.x; miny = centre.y ⊖ half.y; maxx = centre.x ⊕ half.x; maxy = centre.y ⊕ half.y }

-- `determinant == 0.0` holds of a zero of either sign, and of no NaN
unfoldable pub bounds_of : ClipCoverage → Float → Option Bounds
bounds_of k margin =
    let determinant = linear_determinant_of k in
    cond (eq determinant f0) None (Some (around_of (centre_of k determinant) (half_of k determinant margin)))

-- ---- ClipCoverage::reach. Document 01: 'A coverage handed in may hold any floats and is never refused'

-- its 0.5
abbrev pub ramp : Float
ramp = of_bits binary32 0x3f00_0000

abbrev pub reach_of : ClipCoverage → Option Bounds
reach_of k = bounds_of k ramp

-- The fixed numbers of shape.rs, each under its own name. Definitions only.
use Rattle.std.specs.Prelude.{Float}
use Rattle.std.specs.Float.{binary32}
use Rattle.std.specs.Float.Ieee.{of_bits}

-- MIN_AXIS_SPREAD, 1e-4
abbrev pub min_axis_spread : Float
min_axis_spread = of_bits binary32 0x38d1_b717

-- MIN_HALF_EXTENT, 0.5
abbrev pub min_half_extent : Float
min_half_extent = of_bits binary32 0x3f00_0000

-- SQUARE_CORNER_BELOW, 0.5
abbrev pub square_corner_below : Float
square_corner_below = of_bits binary32 0x3f00_0000

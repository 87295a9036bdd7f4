-- The fixed numbers of shape.rs, each under its own name. Definitions only.
use Rattle.std.specs.Prelude.{Float}
use Rattle.std.specs.Float.{binary32}
use Rattle.std.specs.Float.Ieee.{of_bits}

-- CONTAINMENT_SLACK, 0.5
abbrev pub containment_slack : Float
containment_slack = of_bits binary32 0x3f00_0000

-- DRAW_SLACK, 1.0 / 64.0
abbrev pub draw_slack : Float
draw_slack = of_bits binary32 0x3c80_0000

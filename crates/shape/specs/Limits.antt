-- The fixed numbers, each under its own name. Definitions only.
use Rattle.std.specs.Prelude.{Float}
use Rattle.std.specs.Float.{binary32}
use Rattle.std.specs.Float.Ieee.{of_bits}

-- Document 01, number 1: 2^20
abbrev pub largest_number : Float
largest_number = of_bits binary32 0x4980_0000

-- The change of width from f64 to f32. (From f32 to f64 nothing changes: one type of values serves both, and binary64
-- holds every value of binary32.) Definitions only.
use Rattle.std.specs.Prelude.{◌*◌, Float}
use Rattle.std.specs.Float.{nan, inf, fin, binary32}
use Rattle.std.specs.Float.Ieee.{up, down, round}

-- Document 01: 'f64 to f32 is to nearest, ties to even'. A NaN and the infinities stay
unfoldable pub narrow_of : Float → Float
narrow_of nan = nan
narrow_of (inf s) = inf s
narrow_of (fin s m e) = round binary32 s (m * up e) (down e)

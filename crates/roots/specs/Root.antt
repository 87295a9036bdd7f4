-- Square roots, rounded once, over the width, and hypot. Definitions only. `round_root` is the value of a format that is
-- nearest to the root of a fraction (crate root_digits).
use Rattle.std.specs.Prelude.{zero, suc, ◌*◌, true, false, cond, Float}
use Rattle.std.specs.Float.{nan, inf, fin, Format, binary64}
use Rattle.std.specs.Float.Ieee.{up, down, add, mul}
use Rattle.narrowing.specs.Width.{narrow_of}
use Rattle.root_digits.specs.Root.{round_root}

-- IEEE 754's squareRoot (document 01: 'root is IEEE 754's'): a zero stays as it is, and below zero there is none.
-- That it is the nearest value is `sqrt_nearest` in Beliefs.antt
unfoldable pub sqrt_of : Format → Float → Float
unfolding round_root
sqrt_of f nan = nan
sqrt_of f (inf s) = cond s nan (inf false)
sqrt_of f (fin s zero e) = fin s zero e
sqrt_of f (fin true (suc m) e) = nan
sqrt_of f (fin false (suc m) e) = round_root f (suc m * up e) (down e)

-- Document 01: 'hypot is the f64 root of the f64 sum of squares, then rounded to f32'
unfoldable pub hypot_of : Float → Float → Float
unfolding sqrt_of
hypot_of x y = narrow_of (sqrt_of binary64 (add binary64 (mul binary64 x x) (mul binary64 y y)))

-- hypot, over the width. Definitions only. `sqrt_of` is IEEE 754's squareRoot (crate roots), and `round_root` the value of
-- a format that is nearest to the root of a fraction (crate root_digits).
use Rattle.std.specs.Prelude.{ℕ, ◌+◌, ◌*◌, Float}
use Rattle.std.specs.Float.{nan, inf, fin, binary32, binary64}
use Rattle.std.specs.Float.Ieee.{up, down, add, mul}
use Rattle.narrowing.specs.Width.{narrow_of}
use Rattle.root_digits.specs.Root.{round_root}
use Rattle.roots.specs.Root.{sqrt_of}

-- Document 01: 'the f64 root of the f64 sum of squares, then rounded to f32'
unfoldable pub two_step_of : Float → Float → Float
unfolding sqrt_of
two_step_of x y = narrow_of (sqrt_of binary64 (add binary64 (mul binary64 x x) (mul binary64 y y)))

-- the sum of the squares of a / c and b / d, over c * c * (d * d)
abbrev pub sum_of_squares : ℕ → ℕ → ℕ → ℕ → ℕ
sum_of_squares a c b d = a * a * (d * d) + b * b * (c * c)

-- Document 02, change 11: 'the f32 nearest to the exact root of the exact sum of squares, ties to even', over whole
-- numbers: x is m * up e / down e in size, and likewise y. 'With an argument that is not finite the two-step meaning
-- stays'. That it is the nearest, an infinity where IEEE 754 rounds so, and +0 for two zeros is `hypot_nearest`,
-- `infinite` and `hypot_zeros` in Beliefs.antt
unfoldable pub hypot_of : Float → Float → Float
unfolding round_root two_step_of
hypot_of (fin s m e) (fin t n g) =
    round_root binary32 (sum_of_squares (m * up e) (down e) (n * up g) (down g)) (down e * down e * (down g * down g))
hypot_of nan y = two_step_of nan y
hypot_of (inf s) y = two_step_of (inf s) y
hypot_of (fin s m e) nan = two_step_of (fin s m e) nan
hypot_of (fin s m e) (inf t) = two_step_of (fin s m e) (inf t)

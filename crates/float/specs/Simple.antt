-- Size, smaller, larger and sign of a float, for every value: NaN, infinities, both zeros and subnormals. Definitions
-- only.
use Rattle.std.specs.Prelude.{Bool, false, cond, ◌||◌, is_nan, Float}
use Rattle.std.specs.Float.{nan, inf, fin}
use Rattle.std.specs.Float.Ieee.{lt}
use Rattle.float.specs.Ops.{f1, f_minus_1}

-- IEEE 754's abs: the sign bit is cleared
unfoldable pub abs_of : Float → Float
abs_of nan = nan
abs_of (inf s) = inf false
abs_of (fin s m e) = fin false m e

-- Document 01: 'minimum and maximum keep the first unless the second is strictly better or the first is NaN'
abbrev pub keep_first : Bool → Float → Float → Float
keep_first better x y = cond (is_nan x || better) y x

-- the second is better where it is smaller
unfoldable pub min_of : Float → Float → Float
min_of x y = keep_first (lt y x) x y

-- the second is better where it is larger
unfoldable pub max_of : Float → Float → Float
max_of x y = keep_first (lt x y) x y

-- Document 01: 'the signum of a number is 1 or −1 by its sign bit, zeros included'. A NaN is no number and stays one
unfoldable pub signum_of : Float → Float
signum_of nan = nan
signum_of (inf s) = cond s f_minus_1 f1
signum_of (fin s m e) = cond s f_minus_1 f1

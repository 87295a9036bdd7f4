-- What the box calls refuse, and in which order. Definitions only.
use Rattle.std.specs.Prelude.{Bool, cond, Ok, Err, ◌&&◌, ◌||◌, Float}
use Rattle.std.specs.Float.Ieee.{lt, le}
use Rattle.std.specs.Float.Ieee.Scale.{finite}
use Rattle.float.specs.Ops.{f0}
use Rattle.float.specs.Simple.{abs_of}
use Rattle.fault.specs.declared.Fault.TheVariants as fault
use Rattle.fault.specs.Check.{Check, unless_of}
use Rattle.geometry.specs.declared.Transform2D.{Transform2D}
use Rattle.geometry.specs.declared.Position.{Position}
use Rattle.shape.specs.declared.RoundedBox.{RoundedBox}
use Rattle.shape.specs.Limits.{largest_number}

-- Document 01, number 1: a number 'is not finite, or its size is over 2^20'
unfoldable pub in_range_of : Float → Bool
in_range_of x = finite x && le (abs_of x) largest_number

unfoldable pub both_in_range_of : Float → Float → Bool
both_in_range_of x y = in_range_of x && in_range_of y

unfoldable pub frame_in_range_of : Transform2D → Bool
frame_in_range_of t = both_in_range_of t.a t.b && (both_in_range_of t.c t.d && both_in_range_of t.x t.y)

unfoldable pub box_in_range_of : RoundedBox → Bool
box_in_range_of b = frame_in_range_of b.frame && (both_in_range_of b.ex b.ey && both_in_range_of b.rx b.ry)

-- Document 01, number 2: 'a half extent or radius below 0, or a radius over its half extent'
unfoldable pub improper_side_of : Float → Float → Bool
improper_side_of extent radius = lt extent f0 || (lt radius f0 || lt extent radius)

unfoldable pub improper_of : RoundedBox → Bool
improper_of b = improper_side_of b.ex b.rx || improper_side_of b.ey b.ry

-- Document 01: 'per box 1, 2'
unfoldable pub box_check_of : RoundedBox → Check
box_check_of b = cond (box_in_range_of b) (cond (improper_of b) (Err fault.ImproperBox) (Ok tt)) (Err fault.NumberOutOfRange)

-- Document 01: '1 for a lone frame, fringe and point'
abbrev pub numbers_check_of : Bool → Check
numbers_check_of good = unless_of good fault.NumberOutOfRange

abbrev pub frame_check_of : Transform2D → Check
frame_check_of t = numbers_check_of (frame_in_range_of t)

abbrev pub fringe_check_of : Float → Check
fringe_check_of fringe = numbers_check_of (in_range_of fringe)

abbrev pub point_check_of : Position → Check
point_check_of p = numbers_check_of (both_in_range_of p.x p.y)

-- Document 02, change 2: what the call on one box answers half a fringe width past the outline and one float further;
-- change 3: what the call on a list answers where several boxes hold the touch; change 7: what it answers to long lists.
-- Definitions only; proofs/Touched.antt and proofs/Sheet.antt show them.
use Rattle.std.specs.Prelude.{◌≡◌, Bool, true, false, List, [], ◌∷◌, ◌++◌, ℕ, Float, replicate, Option, Some, Result, Ok, Err}
use Rattle.std.specs.Float.{nan, binary32}
use Rattle.std.specs.Float.Ieee.{of_bits}
use Rattle.float.specs.Ops.{f0, f1, f2, f_minus_1}
use Rattle.fault.specs.declared.Fault.TheVariants.{NumberOutOfRange, ImproperBox, TooManyBoxes}
use Rattle.geometry.specs.declared.Position.{Position}
use Rattle.shape.specs.declared.RoundedBox.{RoundedBox}
use Rattle.shape.specs.Limits.{largest_number}
use Rattle.clip_coverage.specs.declared.ClipCoverage.{ClipCoverage}
use Rattle.clip_coverage.specs.Distance.{distance_of}
use Rattle.covering.specs.Coverage.{coverage_of}
use Rattle.covering.specs.Laws.{on_or_inside_of}
use Rattle.covering.specs.Calls.{touches_call}
use Rattle.touch.specs.Touch.{touch_call}
use Rattle.fault.specs.declared.Fault.{Fault}
use Rattle.examples.specs.Starred.{f4}

-- 10^-36; 0.4375; 4.5, 5 and the float after each
abbrev pub tiny : Float
tiny = of_bits binary32 0x03aa_2425

abbrev pub f7/16 : Float
f7/16 = of_bits binary32 0x3ee0_0000

abbrev pub f4½ : Float
f4½ = of_bits binary32 0x4090_0000

abbrev pub past4½ : Float
past4½ = of_bits binary32 0x4090_0001

abbrev pub f5 : Float
f5 = of_bits binary32 0x40a0_0000

abbrev pub past5 : Float
past5 = of_bits binary32 0x40a0_0001

-- an upright box: where its centre is, along x and y alike, half extents and one radius
abbrev pub upright_at : Float → Float → Float → Float → RoundedBox
upright_at at ex ey r = record { frame = record { a = f1; b = f0; c = f0; d = f1; x = at; y = at }; ex = ex; ey = ey; rx = r; ry = r }

abbrev pub upright : Float → Float → Float → RoundedBox
upright ex ey r = upright_at f0 ex ey r

abbrev pub point : Float → Float → Position
point x y = record { x = x; y = y }

abbrev pub square : RoundedBox
square = upright f4 f4 f0

-- too thin for a coverage at a fringe of 1
abbrev pub sliver : RoundedBox
sliver = upright f7/16 f4 f0

-- too far away for a fringe of 10^-36: the distance at its centre is ∞ - ∞
abbrev pub far : RoundedBox
far = upright_at largest_number f4 f4 f0

abbrev pub far_centre : Position
far_centre = point largest_number largest_number

abbrev pub Touched : RoundedBox → Float → Position → Bool → Type 0
Touched b fringe p answer = touches_call b fringe p ≡ Ok answer

pub record EdgesTakeAFinger : Type 0 where
  -- 'at most 0.5', where the rule before had no touch
  pub half : Touched square f1 (point f4½ f0) true
  pub half_before : on_or_inside_of square f1 (point f4½ f0) ≡ false
  pub past_half : Touched square f1 (point past4½ f0) false
  -- half a fringe, not half a pixel
  pub half_fringe : Touched square f2 (point f5 f0) true
  pub past_half_fringe : Touched square f2 (point past5 f0) false
  -- the distance from a round corner, 0.828, not from the sides, 0
  pub corner : Touched (upright f4 f4 f2) f1 (point f4 f4) false
  -- no coverage, however near
  pub thin : Touched sliver f1 (point f0 f0) false
  -- a distance that is a NaN
  pub no_number : (k : ClipCoverage) × (coverage_of far tiny ≡ Some k) × (distance_of k far_centre ≡ nan)
  pub at_no_number : Touched far tiny far_centre false

-- a list is touched at the origin
abbrev pub Names : List RoundedBox → Float → Result (Option ℕ) Fault → Type 0
Names bs fringe answer = touch_call bs fringe (point f0 f0) ≡ answer

pub record FirstOfSeveral : Type 0 where
  -- both hold the touch
  pub both : Names (square ∷ square ∷ []) f1 (Ok (Some 0))
  -- the first has no coverage
  pub second : Names (sliver ∷ square ∷ []) f1 (Ok (Some 1))
  -- the first holds it, and the list is refused for the second, or for its fringe
  pub at_fault : Names (square ∷ upright f_minus_1 f4 f0 ∷ []) f1 (Err ImproperBox)
  pub no_fringe : Names (square ∷ square ∷ []) nan (Err NumberOutOfRange)

-- n boxes alike, and one behind them, at place n
abbrev pub behind : ℕ → RoundedBox → RoundedBox → List RoundedBox
behind n b last = replicate n b ++ last ∷ []

pub record SheetOfFrames : Type 0 where
  -- 4,096 boxes, the last alone touched
  pub last : Names (behind 4095 sliver square) f1 (Ok (Some 4095))
  -- one box more; and the same where the first box's place is a NaN
  pub one_more : Names (behind 4096 sliver square) f1 (Err TooManyBoxes)
  pub one_more_first : Names (upright_at nan f4 f4 f0 ∷ behind 4095 square square) f1 (Err TooManyBoxes)
  -- place 256 of 257 boxes: a byte would say 0
  pub past_a_byte : Names (behind 256 sliver square) f1 (Ok (Some 256))
  -- 300 boxes, of which all are touched but the last, which is at fault
  pub late_fault : Names (behind 299 square (upright f_minus_1 f4 f0)) f1 (Err ImproperBox)

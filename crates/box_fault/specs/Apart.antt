-- Window and picture apart: two trims with a negative half extent, and what later calls answer to each, at every place
-- where a call takes a box. Stated of the calls' definitions. Proved in proofs/Apart.antt.
use Rattle.std.specs.Prelude.{◌≡◌, [], ◌∷◌, Float, Some, Ok, Err}
use Rattle.std.specs.Float.{binary32}
use Rattle.std.specs.Float.Ieee.{of_bits}
use Rattle.float.specs.Ops.{f0, f½, f1}
use Rattle.fault.specs.declared.Fault.{Fault}
use Rattle.fault.specs.declared.Fault.TheVariants.{NumberOutOfRange, ImproperBox}
use Rattle.geometry.specs.declared.Position.{Position}
use Rattle.shape.specs.declared.RoundedBox.{RoundedBox}
use Rattle.covering.specs.Calls.{coverage_call}
use Rattle.touch.specs.Touch.{touch_call}
use Rattle.inside.specs.Inside.{inside_call}
use Rattle.scissor.specs.Calls.{with_scissor_call, trimmed_scissor_call}

-- a square box with a frame that scales and moves along x
abbrev pub rect : Float → Float → Float → Float → RoundedBox
rect scale x ex ey = record { frame = record { a = scale; b = f0; c = f0; d = scale; x = x; y = f0 }; ex = ex; ey = ey; rx = f0; ry = f0 }

-- 3, -3, 4, 10, -1.25, 2^20, -2^20 and -2097148.5
abbrev pub f3 : Float
f3 = of_bits binary32 0x4040_0000

abbrev pub f_minus_3 : Float
f_minus_3 = of_bits binary32 0xc040_0000

abbrev pub f4 : Float
f4 = of_bits binary32 0x4080_0000

abbrev pub f10 : Float
f10 = of_bits binary32 0x4120_0000

abbrev pub f_minus_1¼ : Float
f_minus_1¼ = of_bits binary32 0xbfa0_0000

abbrev pub most : Float
most = of_bits binary32 0x4980_0000

abbrev pub least : Float
least = of_bits binary32 0xc980_0000

abbrev pub over_most : Float
over_most = of_bits binary32 0xc9ff_ffe4

-- a picture ten to the right of a window of the same size; the trim lies between the two
abbrev pub window : RoundedBox
window = rect f1 f0 f1 f1

abbrev pub picture : RoundedBox
picture = rect f1 f10 f1 f1

abbrev pub apart : RoundedBox
apart = rect f1 f4 f_minus_3 f3

-- the picture as far to the right as a number goes, the window as far to the left, at half the scale
abbrev pub far_window : RoundedBox
far_window = rect f½ least f1 f1

abbrev pub far_picture : RoundedBox
far_picture = rect f1 most f1 f1

abbrev pub far_apart : RoundedBox
far_apart = rect f½ f_minus_1¼ over_most f1

abbrev pub origin : Position
origin = record { x = f0; y = f0 }

-- a window and a picture, the trim of the one by the other, and what later calls meet: as the only box, as the second,
-- at place 1 of a list and as the safe area
pub record TrimMeets (picture window trim : RoundedBox) (f : Fault) : Type 0 where
  pub trimmed : trimmed_scissor_call picture window f1 ≡ Ok (Some trim)
  pub coverage : coverage_call trim f1 ≡ Err f
  pub with_scissor : with_scissor_call window trim f1 ≡ Err f
  pub touch : touch_call (window ∷ trim ∷ []) f1 origin ≡ Err f
  pub all_inside : inside_call (window ∷ trim ∷ []) window f1 ≡ Err f
  pub safe_area : inside_call (window ∷ []) trim f1 ≡ Err f

-- 'any later call whose first fault is that box meets number 2, or 1 where a number in it is over 2^20'
abbrev pub Apart : Type 0
Apart = TrimMeets picture window apart ImproperBox × TrimMeets far_picture far_window far_apart NumberOutOfRange

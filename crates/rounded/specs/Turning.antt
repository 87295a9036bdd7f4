-- How an outline turns about the centre of the box: shape.rs's `rounded`, 'Once around, never turning back: twice around
-- is another region under even-odd, and a doubled-back outline is not the box's.' Definitions only.
use Rattle.std.specs.Prelude.{Bool, false, cond, not, ◌&&◌, ◌||◌, List, Float}
use Rattle.std.specs.Float.{binary32}
use Rattle.std.specs.Float.Ieee.{of_bits, neg, lt}
use Rattle.float.specs.Ops.{◌⊕◌, ◌⊖◌, ◌⊘◌, f0}
use Rattle.float.specs.Simple.{abs_of}
use Rattle.float.specs.Arctan.{atan2_of}
use Rattle.geometry.specs.declared.Position.{Position}
use Rattle.samples.specs.Folds.{pairs_of}
use Rattle.corner_radii.specs.declared.Around.{Around}
use Rattle.rounded.specs.declared.Turn.{Turn}

-- PI and TAU, 1e-4, 0.01
abbrev pub pi : Float
pi = of_bits binary32 0x4049_0fdb

abbrev pub tau : Float
tau = of_bits binary32 0x40c9_0fdb

abbrev pub turn_tolerance : Float
turn_tolerance = of_bits binary32 0x38d1_b717

abbrev pub once_tolerance : Float
once_tolerance = of_bits binary32 0x3c23_d70a

-- `angle`
unfoldable pub angle_of : Around → Position → Float
angle_of a p = atan2_of ((p.y ⊖ a.cy) ⊘ a.ey) ((p.x ⊖ a.cx) ⊘ a.ex)

-- `step`
unfoldable pub step_of : Float → Float → Float
step_of from to = let s = to ⊖ from in cond (lt pi s) (s ⊖ tau) (cond (lt s (neg pi)) (s ⊕ tau) s)

-- `turned += step`, and whether `forward` and `backward` are above 0
unfoldable pub turned_by : Turn → Float → Turn
turned_by t s =
    record { turned = t.turned ⊕ s; forward = t.forward || lt turn_tolerance s; backward = t.backward || lt s (neg turn_tolerance) }

abbrev pub no_turn : Turn
no_turn = record { turned = f0; forward = false; backward = false }

-- `for pair in outline.windows(2)`
abbrev pub turned_of : Around → List Position → Turn
turned_of a outline = pairs_of (λ t p q. turned_by t (step_of (angle_of a p) (angle_of a q))) no_turn outline

-- `once`
unfoldable pub once_of : Turn → Bool
once_of t = lt (abs_of (abs_of t.turned ⊖ tau)) once_tolerance && (not t.forward || not t.backward)

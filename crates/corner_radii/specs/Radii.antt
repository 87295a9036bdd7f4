-- A corner's radii, as shape.rs's `rounded` finds them: 'A corner's radius along an axis is what the straight side on
-- the other axis leaves of the extent on the corner's half: the side ends where its farthest anchor there is. No anchor
-- on a side means no straight side - an ellipse.' The Rust fills a table of four corners and two axes in one pass over
-- the anchors; no place of the table depends on another, and each is the fold here. Definitions only.
use Rattle.std.specs.Prelude.{Bool, false, cond, ◌&&◌, List, Float, Option, Some, None}
use Rattle.std.specs.Float.Ieee.{lt, le}
use Rattle.float.specs.Ops.{◌⊖◌, ◌⊗◌, f0}
use Rattle.float.specs.Simple.{abs_of, max_of}
use Rattle.geometry.specs.declared.Position.{Position}
use Rattle.samples.specs.Folds.{fold_of}
use Rattle.corner_radii.specs.declared.Around.{Around}
use Rattle.corner_radii.specs.declared.CornerAxis.{CornerAxis}
use Rattle.corner_radii.specs.declared.Radii.{Radii}

-- `if (side.abs() - extent[across]).abs() > slack { continue; }`, then
-- `side * corner[across] > 0.0 && at * corner[along] >= 0.0`
unfoldable pub on_side_of : CornerAxis → CornerAxis → Float → Float → Float → Bool
on_side_of across along slack side at =
    cond (lt slack (abs_of (abs_of side ⊖ across.half))) false (lt f0 (side ⊗ across.sign) && le f0 (at ⊗ along.sign))

-- `Some(far.map_or(at.abs(), |far| far.max(at.abs())))`
unfoldable pub further_of : Option Float → Float → Option Float
further_of (Some f) at = Some (max_of f at)
further_of None at = Some at

-- one anchor, x across and y along: `side = p[across] - center[across]`, `at = p[along] - center[along]`
unfoldable pub reach_step_of : CornerAxis → CornerAxis → Float → Option Float → Float → Float → Option Float
reach_step_of across along slack f x y =
    let side = x ⊖ across.centre in
    let at = y ⊖ along.centre in
    cond (on_side_of across along slack side at) (further_of f (abs_of at)) f

-- `reach[corner][along]`, of anchors with x across and y along; and with y across and x along
abbrev pub reach_of : CornerAxis → CornerAxis → Float → List Position → Option Float
reach_of across along slack anchors = fold_of (λ f p. reach_step_of across along slack f p.x p.y) None anchors

abbrev pub level_reach_of : CornerAxis → CornerAxis → Float → List Position → Option Float
level_reach_of across along slack anchors = fold_of (λ f p. reach_step_of across along slack f p.y p.x) None anchors

-- `map_or(extent[along], |reach| extent[along] - reach)`
abbrev pub left_of : Option Float → Float → Float
left_of (Some f) extent = extent ⊖ f
left_of None extent = extent

-- `radius`: within the slack of the extent it is that, and within the slack of 0 it is 0
unfoldable pub snapped_of : Float → Float → Float → Float
snapped_of radius extent slack = cond (le (extent ⊖ radius) slack) extent (cond (le radius slack) f0 radius)

unfoldable pub radius_of : Option Float → Float → Float → Float
radius_of f extent slack = snapped_of (max_of (left_of f extent) f0) extent slack

-- `[radius(corner, 0), radius(corner, 1)]`, of the corner with these signs
unfoldable pub corner_of : Around → List Position → Float → Float → Radii
corner_of a anchors sx sy =
    let x : CornerAxis = record { centre = a.cx; half = a.ex; sign = sx } in
    let y : CornerAxis = record { centre = a.cy; half = a.ey; sign = sy } in
    record {
      x = radius_of (level_reach_of y x a.slack anchors) a.ex a.slack;
      y = radius_of (reach_of x y a.slack anchors) a.ey a.slack;
    }

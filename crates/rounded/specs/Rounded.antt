-- The box of an outline of lines and curves: shape.rs's `rounded`. `⊕ ⊖ ⊗ ⊘` are binary32's operations, and each rounds
-- once. Definitions only.
use Rattle.std.specs.Prelude.{cond, ◌&&◌, List, ℕ, eqb, Float, Option, Some, None}
use Rattle.std.specs.Float.{binary32}
use Rattle.std.specs.Float.Ieee.{of_bits}
use Rattle.float.specs.Ops.{◌⊕◌, ◌⊗◌, f0, f½, f1, f_minus_1, f2}
use Rattle.float.specs.Simple.{abs_of}
use Rattle.geometry.specs.declared.Position.{Position}
use Rattle.geometry.specs.Frame.{translation_of}
use Rattle.shape.specs.declared.RoundedBox.{RoundedBox}
use Rattle.outline.specs.declared.Segment.{Segment}
use Rattle.samples.specs.Samples.{outline_of, anchors_of}
use Rattle.corner_radii.specs.declared.Around.{Around}
use Rattle.corner_radii.specs.declared.Radii.{Radii}
use Rattle.corner_radii.specs.declared.CornerMix.{CornerMix}
use Rattle.corner_radii.specs.declared.CornerMix.TheVariants as mix
use Rattle.corner_radii.specs.Around.{point_bounds_of, around_of, sized_of}
use Rattle.corner_radii.specs.Mix.{corner_mix_of}
use Rattle.rounded.specs.declared.Fitted.{Fitted}
use Rattle.rounded.specs.OnBox.{no_radii, met_all_of}
use Rattle.rounded.specs.Turning.{turned_of, once_of}

-- 1.1: 'the curve between two samples may reach a little further, which the tenth on top allows for'
abbrev pub strays_margin : Float
strays_margin = of_bits binary32 0x3f8c_cccd

-- `shape`, and with square corners `cut`
abbrev pub box_of : Around → Radii → RoundedBox
box_of a r = record { frame = translation_of a.cx a.cy; ex = a.ex; ey = a.ey; rx = r.x; ry = r.y }

-- SIDES: (0, 1), (-1, 0), (0, -1), (1, 0)
unfoldable pub side_x_of : ℕ → Float
side_x_of side = cond (eqb side 1) f_minus_1 (cond (eqb side 3) f1 f0)

unfoldable pub side_y_of : ℕ → Float
side_y_of side = cond (eqb side 0) f1 (cond (eqb side 2) f_minus_1 f0)

-- `rounded`: 'The rounded box runs on past the square side by twice its radius there'
unfoldable pub past_of : ℕ → Radii → Around → RoundedBox
past_of side r a =
    let sx = side_x_of side in
    let sy = side_y_of side in
    let run-x = f2 ⊗ r.x ⊗ abs_of sx in
    let run-y = f2 ⊗ r.y ⊗ abs_of sy in
    record {
      frame = translation_of (a.cx ⊕ sx ⊗ run-x ⊗ f½) (a.cy ⊕ sy ⊗ run-y ⊗ f½);
      ex = a.ex ⊕ run-x ⊗ f½;
      ey = a.ey ⊕ run-y ⊗ f½;
      rx = r.x;
      ry = r.y;
    }

-- `Some((shape, strays * 1.1, None))`, `Some((rounded, strays * 1.1, Some(cut)))`
unfoldable pub boxed_of : CornerMix → Around → Float → Fitted
boxed_of (mix.Alike r) a strays = record { shape = box_of a r; strays = strays ⊗ strays_margin; cut = None }
boxed_of (mix.CutAt side r) a strays =
    record { shape = past_of side r a; strays = strays ⊗ strays_margin; cut = Some (box_of a no_radii) }

-- `if !(on_box && once) { return None; }`; any other mix is no box
unfoldable pub fitted_of : Around → Option CornerMix → List Position → Option Fitted
fitted_of a None outline = None
fitted_of a (Some m) outline =
    let met = met_all_of m a outline in
    cond (met.near && once_of (turned_of a outline)) (Some (boxed_of m a met.strays)) None

-- of the outline's points and its anchors; `if !sized { return None; }`
unfoldable pub rounded_by : List Position → List Position → Option Fitted
rounded_by outline anchors =
    let a = around_of (point_bounds_of outline) in
    cond (sized_of a) (fitted_of a (corner_mix_of a anchors) outline) None

-- of a start and segments
unfoldable pub rounded_of : Position → List Segment → Option Fitted
rounded_of start segments = rounded_by (outline_of start segments) (anchors_of start segments)

-- An upright rect that is filled under a clip, as shape.rs computes it. `⊕ ⊖ ⊗` are binary32's operations, and each
-- rounds once. Definitions only.
use Rattle.std.specs.Prelude.{Bool, cond, not, ◌&&◌, ◌||◌, Float, Option, Some, None}
use Rattle.std.specs.Float.Ieee.{neg, le}
use Rattle.float.specs.Ops.{◌⊕◌, ◌⊖◌, ◌⊗◌, f0}
use Rattle.float.specs.Simple.{abs_of}
use Rattle.geometry.specs.declared.Position.{Position}
use Rattle.geometry.specs.Frame.{inverse_of}
use Rattle.shape.specs.declared.RoundedBox.{RoundedBox}
use Rattle.clip_coverage.specs.Limits.{draw_slack}
use Rattle.covering.specs.Coverage.{per_fringe_of}
use Rattle.beside.specs.declared.Placed.{Placed}
use Rattle.beside.specs.Alongside.{aligned_share, scale_of, alongside_of}
use Rattle.sides.specs.Shared.{square_of}
use Rattle.scissor.specs.declared.Axis.{Axis}
use Rattle.scissor.specs.Scissor.{with_scissor_of, x_axis_of, y_axis_of}
use Rattle.fill.specs.declared.RectFill.TheVariants as fill
use Rattle.clip_coverage.specs.declared.ClipCoverage.{ClipCoverage}
use Rattle.fill.specs.declared.RectFill.{RectFill}

-- ---- RoundedBox::upright

-- `none`
unfoldable pub none_of : Float → Float → Bool
none_of v scale = le (abs_of v) (aligned_share ⊗ scale)

unfoldable pub both_none_of : Float → Float → Float → Bool
both_none_of v w scale = none_of v scale && none_of w scale

-- `(none(b) && none(c)) || (none(a) && none(d))`
unfoldable pub upright_of : RoundedBox → Bool
upright_of b =
    let t = b.frame in
    both_none_of t.b t.c (scale_of t) || both_none_of t.a t.d (scale_of t)

-- ---- RoundedBox::rect_fill. Document 02, change 1: '`RectFill`'s two outcomes, a shared box or a covered one, both
-- carrying the box'

-- `both.coverage(fringe_width).map(|_| RectFill::Shared(both))`, where `both` is as in `with_scissor`
abbrev pub shared_by : Option (RoundedBox × ClipCoverage) → Option RectFill
shared_by (Some (b, k)) = Some (fill.Shared b)
shared_by None = None

unfoldable pub shared_of : RoundedBox → RoundedBox → Float → Option RectFill
shared_of clip f fringe = shared_by (with_scissor_of clip f fringe)

-- `covers`, of one axis: the clip's half extent, the fill's centre and half side in its frame
unfoldable pub covers_of : Axis → Bool
covers_of a =
    let reach = a.extent ⊖ draw_slack ⊗ a.per_fringe in
    le (a.centre ⊖ a.half) (neg reach) && le reach (a.centre ⊕ a.half)

-- the box of `RectFill::Covered`
unfoldable pub grown_of : RoundedBox → Position → RoundedBox
grown_of clip per = record { frame = clip.frame; ex = clip.ex ⊕ per.x; ey = clip.ey ⊕ per.y; rx = f0; ry = f0 }

-- `covers.then(..)`, for a fill that is placed at p
unfoldable pub covered_by_of : RoundedBox → Placed → Position → Option RectFill
covered_by_of clip p per =
    cond (covers_of (x_axis_of clip p per) && covers_of (y_axis_of clip p per)) (Some (fill.Covered (grown_of clip per))) None

abbrev pub covered_in : RoundedBox → Option Placed → Position → Option RectFill
covered_in clip (Some p) per = covered_by_of clip p per
covered_in clip None per = None

unfoldable pub covered_of : RoundedBox → RoundedBox → Float → Option RectFill
covered_of clip f fringe = covered_in clip (alongside_of clip f) (per_fringe_of (inverse_of clip.frame) fringe)

unfoldable pub rect_fill_of : RoundedBox → RoundedBox → Float → Option RectFill
rect_fill_of clip f fringe =
    cond (not (upright_of clip)) None (cond (square_of clip) (shared_of clip f fringe) (covered_of clip f fringe))

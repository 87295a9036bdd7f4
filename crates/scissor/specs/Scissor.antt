-- A clip and a scissor, as shape.rs computes them. `⊕ ⊖ ⊗` are binary32's operations, and each rounds once. Definitions
-- only.
use Rattle.std.specs.Prelude.{Bool, cond, not, ◌||◌, Float, Option, Some, None}
use Rattle.std.specs.Float.Ieee.{neg, le}
use Rattle.float.specs.Ops.{◌⊕◌, ◌⊖◌, ◌⊗◌, f2}
use Rattle.geometry.specs.declared.Position.{Position}
use Rattle.geometry.specs.Frame.{inverse_of}
use Rattle.shape.specs.declared.RoundedBox.{RoundedBox}
use Rattle.clip_coverage.specs.Limits.{draw_slack}
use Rattle.covering.specs.Coverage.{per_fringe_of, coverage_of}
use Rattle.beside.specs.declared.Placed.{Placed}
use Rattle.beside.specs.Alongside.{alongside_of}
use Rattle.sides.specs.declared.Sides.{Sides}
use Rattle.sides.specs.Shared.{square_of, between_of}
use Rattle.overlap.specs.Overlap.{intersection_within_of}
use Rattle.scissor.specs.declared.Axis.{Axis}
use Rattle.clip_coverage.specs.declared.ClipCoverage.{ClipCoverage}

-- ---- RoundedBox::with_scissor

-- `Some((both, both.coverage(fringe_width)?))`
abbrev pub both_by : RoundedBox → Option ClipCoverage → Option (RoundedBox × ClipCoverage)
both_by b (Some k) = Some (b, k)
both_by b None = None

-- `both`
abbrev pub covered_by : Option RoundedBox → Float → Option (RoundedBox × ClipCoverage)
covered_by (Some b) fringe = both_by b (coverage_of b fringe)
covered_by None fringe = None

unfoldable pub with_scissor_of : RoundedBox → RoundedBox → Float → Option (RoundedBox × ClipCoverage)
with_scissor_of clip s fringe = covered_by (intersection_within_of clip s fringe draw_slack) fringe

-- ---- RoundedBox::trimmed_scissor

-- its loop's two turns: the scissor s, the clip placed at p, `per_fringe`
abbrev pub x_axis_of : RoundedBox → Placed → Position → Axis
x_axis_of s p per = record { extent = s.ex; centre = p.x; half = p.hx; per_fringe = per.x }

abbrev pub y_axis_of : RoundedBox → Placed → Position → Axis
y_axis_of s p per = record { extent = s.ey; centre = p.y; half = p.hy; per_fringe = per.y }

-- `low[axis] <= center - half + slack`, and `high[axis] >= center + half - slack`
unfoldable pub within_low_of : Axis → Bool
within_low_of a = le (neg a.extent) (a.centre ⊖ a.half ⊕ draw_slack ⊗ a.per_fringe)

unfoldable pub within_high_of : Axis → Bool
within_high_of a = le (a.centre ⊕ a.half ⊖ draw_slack ⊗ a.per_fringe) a.extent

-- `low[axis]` and `high[axis]` after the turn: moved out to `past`, or as they were
unfoldable pub low_of : Axis → Float
low_of a = cond (within_low_of a) (a.centre ⊖ a.half ⊖ f2 ⊗ a.per_fringe) (neg a.extent)

unfoldable pub high_of : Axis → Float
high_of a = cond (within_high_of a) (a.centre ⊕ a.half ⊕ f2 ⊗ a.per_fringe) a.extent

-- `cuts`, as a turn sets it
unfoldable pub cuts_of : Axis → Bool
cuts_of a = not (within_low_of a) || not (within_high_of a)

unfoldable pub trimmed_sides_of : Axis → Axis → Sides
trimmed_sides_of x y = record { lowx = low_of x; lowy = low_of y; highx = high_of x; highy = high_of y }

-- `cuts.then(..)`. Document 02, change 1: 'A trim can come out with a negative half extent when window and picture lie
-- apart. The Rust returns it, so we do too'
unfoldable pub trim_of : RoundedBox → Axis → Axis → Option RoundedBox
trim_of s x y = cond (cuts_of x || cuts_of y) (Some (between_of s (trimmed_sides_of x y))) None

-- 'the scissor as it is when its corners are round or its sides are not parallel to this box's'
abbrev pub trim_by : RoundedBox → Option Placed → Position → Option RoundedBox
trim_by s (Some p) per = cond (square_of s) (trim_of s (x_axis_of s p per) (y_axis_of s p per)) (Some s)
trim_by s None per = Some s

unfoldable pub trimmed_scissor_of : RoundedBox → RoundedBox → Float → Option RoundedBox
trimmed_scissor_of clip s fringe = trim_by s (alongside_of s clip) (per_fringe_of (inverse_of s.frame) fringe)

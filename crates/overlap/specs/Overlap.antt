-- What two boxes with parallel sides both cover, as shape.rs computes it. Definitions only.
use Rattle.std.specs.Prelude.{Bool, cond, ◌&&◌, Float, Option, Some, None}
use Rattle.std.specs.Float.Ieee.{le}
use Rattle.float.specs.Ops.{f0}
use Rattle.float.specs.Simple.{abs_of, min_of, max_of}
use Rattle.geometry.specs.declared.Position.{Position}
use Rattle.shape.specs.declared.RoundedBox.{RoundedBox}
use Rattle.shape.specs.Outline.{outline_point_of, all_below}
use Rattle.clip_coverage.specs.declared.ClipCoverage.{ClipCoverage}
use Rattle.clip_coverage.specs.Limits.{containment_slack}
use Rattle.clip_coverage.specs.Distance.{distance_of}
use Rattle.covering.specs.Coverage.{coverage_of}
use Rattle.beside.specs.declared.Placed.{Placed}
use Rattle.sides.specs.declared.Sides.{Sides}
use Rattle.beside.specs.Alongside.{alongside_of}
use Rattle.sides.specs.Shared.{square_of, both_square_of, sides_of, own_sides_of, placed_sides_of, sides_are_of, apart_of, between_of}

-- ---- RoundedBox::intersection_within

-- `with_corners`, of the square box between the sides
unfoldable pub with_corners_of : RoundedBox → Float → Float → RoundedBox
with_corners_of both rx ry =
    record { frame = both.frame; ex = both.ex; ey = both.ey; rx = min_of rx both.ex; ry = min_of ry both.ey }

-- 'A rect whose sides all lie at or past the other box's leaves that box as it is': `other` leaves b, or b leaves
-- `other`, placed at p
unfoldable pub leaves_one_of : RoundedBox → RoundedBox → Sides → Bool
leaves_one_of b other s = square_of other && sides_are_of s (own_sides_of b)

unfoldable pub leaves_two_of : RoundedBox → Placed → Sides → Bool
leaves_two_of b p s = square_of b && sides_are_of s (placed_sides_of p)

-- `mine.distance(point).max(theirs.distance(point)).abs() <= slack`
unfoldable pub near_of : ClipCoverage → ClipCoverage → Float → Position → Bool
near_of mine theirs slack p = le (abs_of (max_of (distance_of mine p) (distance_of theirs p))) slack

abbrev pub follows_of : RoundedBox → ClipCoverage → ClipCoverage → Float → Bool
follows_of both mine theirs slack = all_below (λ i. near_of mine theirs slack (outline_point_of both i)) 36

-- the last step: of two candidates the first that follows both boxes' edges
abbrev pub chosen_of : RoundedBox → RoundedBox → ClipCoverage → ClipCoverage → Float → Option RoundedBox
chosen_of first second mine theirs slack =
    cond (follows_of first mine theirs slack) (Some first) (cond (follows_of second mine theirs slack) (Some second) None)

abbrev pub chosen_by : RoundedBox → RoundedBox → Option ClipCoverage → Option ClipCoverage → Float → Option RoundedBox
chosen_by first second (Some mine) (Some theirs) slack = chosen_of first second mine theirs slack
chosen_by first second (Some mine) None slack = None
chosen_by first second None theirs slack = None

unfoldable pub round_overlap_of : RoundedBox → RoundedBox → RoundedBox → RoundedBox → Float → Float → Option RoundedBox
round_overlap_of b other first second fringe slack = chosen_by first second (coverage_of b fringe) (coverage_of other fringe) slack

-- past the tests for square boxes, with `both` the square box between the sides
unfoldable pub corner_overlap_of : RoundedBox → RoundedBox → Placed → Sides → Float → Float → Option RoundedBox
corner_overlap_of b other p s fringe slack =
    let both = between_of b s in
    cond (leaves_two_of b p s) (Some (with_corners_of both p.rx p.ry))
    (round_overlap_of b other (with_corners_of both p.rx p.ry) (with_corners_of both b.rx b.ry) fringe slack)

-- past the test for no overlap
unfoldable pub overlap_of : RoundedBox → RoundedBox → Placed → Sides → Float → Float → Option RoundedBox
overlap_of b other p s fringe slack =
    cond (both_square_of b other) (Some (with_corners_of (between_of b s) f0 f0))
    (cond (leaves_one_of b other s) (Some b) (corner_overlap_of b other p s fringe slack))

abbrev pub intersection_by : RoundedBox → RoundedBox → Option Placed → Float → Float → Option RoundedBox
intersection_by b other (Some p) fringe slack =
    cond (apart_of (sides_of b p)) None (overlap_of b other p (sides_of b p) fringe slack)
intersection_by b other None fringe slack = None

-- RoundedBox::intersection_within
unfoldable pub intersection_within_of : RoundedBox → RoundedBox → Float → Float → Option RoundedBox
intersection_within_of b other fringe slack = intersection_by b other (alongside_of b other) fringe slack

-- RoundedBox::intersection
abbrev pub intersection_of : RoundedBox → RoundedBox → Float → Option RoundedBox
intersection_of b other fringe = intersection_within_of b other fringe containment_slack

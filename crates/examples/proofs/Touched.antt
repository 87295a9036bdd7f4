-- Points half a fringe width past a box, and lists in which several boxes hold the touch (specs/Touches.antt), computed
-- from the definitions that the contracts cite. Assumes nothing.
use Rattle.std.specs.Prelude.{Ok, Err}
use mathlib.Core.Path.{◌≡◌, refl}
use mathlib.Core.Bool.{true, false}
use lib.Count.{count_trailing_zeros}
use lib.Ieee.{of_bits, of_fields, odd, units, round, size, span, climb, of_int, add, sub, sum, mul, div, rem, neg, lt, le, eq, ne, is_nan}
use Rattle.float.specs.Simple.{abs_of, max_of, signum_of}
use Rattle.fault.specs.declared.Fault.TheVariants.{ImproperBox}
use Rattle.float.specs.Ops.{f0, f1, f_minus_1}
use Rattle.narrowing.specs.Width.{narrow_of}
use Rattle.roots.specs.Root.{sqrt_of, hypot_of}
use Rattle.geometry.specs.Frame.{collapsed_of, inverse_of}
use Rattle.shape.specs.Checks.{in_range_of, both_in_range_of, frame_in_range_of, box_in_range_of, improper_side_of, improper_of, box_check_of}
use Rattle.clip_coverage.specs.Distance.{round_of, off_corner_of, lean_of, corner_distance_of, edge_distance_of, locate_of, distance_of, holds_point_of}
use Rattle.covering.specs.Coverage.{invertible_of, uncovered_of, per_fringe_of, thin_of, tight_of, kept_radii_of, coverage_of}
use Rattle.covering.specs.Touches.{touches_of}
use Rattle.covering.specs.Laws.{on_or_inside_of}
use Rattle.examples.specs.Starred.{f4}
use Rattle.examples.specs.Touches.{EdgesTakeAFinger, FirstOfSeveral, sliver, square, upright, point}

-- what a sheet's boxes are refused for, and whether they hold a touch at the origin
pub record OneBox : Type 0 where
  pub square_passes : box_check_of square ≡ Ok tt
  pub sliver_passes : box_check_of sliver ≡ Ok tt
  pub improper : box_check_of (upright f_minus_1 f4 f0) ≡ Err ImproperBox
  pub square_touched : touches_of square f1 (point f0 f0) ≡ true
  pub sliver_untouched : touches_of sliver f1 (point f0 f0) ≡ false
  pub fringe_passes : in_range_of f1 ≡ true
  pub point_passes : both_in_range_of f0 f0 ≡ true

shown : EdgesTakeAFinger × FirstOfSeveral × OneBox
unfolding touches_of on_or_inside_of coverage_of kept_radii_of tight_of thin_of per_fringe_of uncovered_of invertible_of
    holds_point_of distance_of locate_of edge_distance_of corner_distance_of lean_of off_corner_of round_of inverse_of collapsed_of
    box_check_of improper_of improper_side_of box_in_range_of frame_in_range_of both_in_range_of in_range_of
    abs_of max_of signum_of narrow_of sqrt_of hypot_of
    of_bits of_fields odd units round size span climb of_int add sub sum mul div rem neg lt le eq ne is_nan count_trailing_zeros
shown = (
  record {
    half = refl;
    half_before = refl;
    past_half = refl;
    half_fringe = refl;
    past_half_fringe = refl;
    corner = refl;
    thin = refl;
    no_number = (_, refl, refl);
    at_no_number = refl;
  },
  record { both = refl; second = refl; at_fault = refl; no_fringe = refl },
  record {
    square_passes = refl;
    sliver_passes = refl;
    improper = refl;
    square_touched = refl;
    sliver_untouched = refl;
    fringe_passes = refl;
    point_passes = refl;
  },
)

pub edges_take_a_finger : EdgesTakeAFinger
edges_take_a_finger = shown.0

pub first_of_several : FirstOfSeveral
first_of_several = shown.1

pub one_box : OneBox
one_box = shown.2

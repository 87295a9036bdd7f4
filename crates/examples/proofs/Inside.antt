-- A list and a safe area (specs/Insides.antt): short lists computed from the definitions that the contracts cite, the full
-- list by the law of a named place. Assumes nothing.
use Rattle.std.specs.Prelude.{Some, Ok}
use Prim.Native.Nat.{ℕ, zero, suc}
use mathlib.Core.Path.{◌≡◌, refl}
use native.Mathlib.Omega.{arith}
use lib.Count.{count_trailing_zeros}
use lib.Ieee.{nan, of_bits, of_fields, odd, units, round, size, span, climb, of_int, add, sub, sum, mul, div, rem, neg, lt, le, eq, ne, is_nan}
use Rattle.float.specs.Ops.{f1}
use Rattle.float.specs.Simple.{abs_of, max_of, signum_of}
use Rattle.narrowing.specs.Width.{narrow_of}
use Rattle.roots.specs.Root.{sqrt_of, hypot_of}
use Rattle.geometry.specs.Frame.{collapsed_of, inverse_of}
use Rattle.shape.specs.declared.RoundedBox.{RoundedBox}
use Rattle.shape.specs.Checks.{in_range_of, both_in_range_of, frame_in_range_of, box_in_range_of, improper_side_of, improper_of, box_check_of}
use Rattle.shape.specs.Outline.{outline_point_of, all_below}
use Rattle.clip_coverage.specs.declared.ClipCoverage.{ClipCoverage}
use Rattle.clip_coverage.specs.Distance.{round_of, off_corner_of, lean_of, corner_distance_of, edge_distance_of, locate_of, distance_of, holds_point_of}
use Rattle.covering.specs.Coverage.{invertible_of, uncovered_of, per_fringe_of, thin_of, tight_of, kept_radii_of, coverage_of}
use Rattle.covering.specs.Calls.{coverage_call}
use Rattle.inside.specs.Laws.{Contained, NotContained, FirstOutside, here, later}
use Rattle.inside.proofs.Laws.{outside_exactly_when, twelve_exactly_when}
use Rattle.examples.specs.Touches.{square, behind}
use Rattle.examples.specs.Insides.{larger, improper, no_number, SafeArea, FullList}
use Rattle.examples.proofs.Sheet.{length_behind, few_behind}

-- the coverage of `square`, and one box that it contains and one that it does not
abbrev Tested : ClipCoverage → Type 0
Tested area = (coverage_call square f1 ≡ Ok (Some area)) × Contained area square × NotContained area larger

shown : SafeArea × (area : ClipCoverage) × Tested area
unfolding coverage_of kept_radii_of tight_of thin_of per_fringe_of uncovered_of invertible_of outline_point_of all_below
    holds_point_of distance_of locate_of edge_distance_of corner_distance_of lean_of off_corner_of round_of inverse_of collapsed_of
    box_check_of improper_of improper_side_of box_in_range_of frame_in_range_of both_in_range_of in_range_of
    abs_of max_of signum_of narrow_of sqrt_of hypot_of
    of_bits of_fields odd units round size span climb of_int add sub sum mul div rem neg lt le eq ne is_nan count_trailing_zeros
shown = (
  record {
    thin = refl;
    thin_outside = refl;
    fringe_zero = refl;
    fringe_below = refl;
    empty = refl;
    same = refl;
    half = refl;
    past_half = refl;
    whole = refl;
    lowest = refl;
    least_fringe = refl;
    behind_outside = refl;
    list_first = refl;
    area_next = refl;
    fringe_last = refl;
  },
  _,
  (refl, refl, refl),
)

-- boxes alike that are contained, and one behind them that is not
first_behind : (area : ClipCoverage) (b last : RoundedBox) → Contained area b → NotContained area last → (n : ℕ) → FirstOutside area (behind n b last) n
first_behind area b last inside outside zero = here outside tt
first_behind area b last inside outside (suc n) = later inside (first_behind area b last inside outside n)

pub safe_area : SafeArea
safe_area = shown.0

pub full_list : FullList
full_list =
    let area = shown.1 in
    let tested = shown.2 in
    record {
      last =
          outside_exactly_when.always (behind 4095 square larger) square f1 4095 area (few_behind 4095 square larger (omega arith)) tested.0
          (first_behind area square larger tested.1 tested.2 4095);
      one_more = twelve_exactly_when.always (behind 4096 no_number larger) improper nan (rw (length_behind 4096 no_number larger) (omega arith));
    }

-- Window and picture apart (specs/Apart.antt), computed from the definitions that the contracts cite. Assumes nothing.
use mathlib.Core.Path.{refl}
use lib.Count.{count_trailing_zeros}
use lib.Ieee.{of_bits, of_fields, odd, units, round, size, span, climb, of_int, add, sub, sum, mul, div, rem, neg, lt, le, eq, ne, is_nan}
use Rattle.float.specs.Simple.{abs_of, min_of, max_of}
use Rattle.narrowing.specs.Width.{narrow_of}
use Rattle.roots.specs.Root.{sqrt_of, hypot_of}
use Rattle.geometry.specs.Frame.{collapsed_of, inverse_of, quotient_of}
use Rattle.shape.specs.Checks.{in_range_of, both_in_range_of, frame_in_range_of, box_in_range_of, improper_side_of, improper_of, box_check_of}
use Rattle.covering.specs.Coverage.{per_fringe_of}
use Rattle.beside.specs.Alongside.{aligned_of, straight_of, straight_by, alongside_of}
use Rattle.sides.specs.Shared.{square_of, between_of}
use Rattle.scissor.specs.Scissor.{within_low_of, within_high_of, low_of, high_of, cuts_of, trimmed_sides_of, trim_of, trimmed_scissor_of}
use Rattle.box_fault.specs.Apart.{Apart}

pub apart_shown : Apart
unfolding trimmed_scissor_of trim_of trimmed_sides_of cuts_of high_of low_of within_high_of within_low_of per_fringe_of
    between_of square_of alongside_of straight_by straight_of aligned_of quotient_of inverse_of collapsed_of
    box_check_of improper_of improper_side_of box_in_range_of frame_in_range_of both_in_range_of in_range_of
    abs_of min_of max_of narrow_of sqrt_of hypot_of
    of_bits of_fields odd units round size span climb of_int add sub sum mul div rem neg lt le eq ne is_nan count_trailing_zeros
apart_shown = (
  record { trimmed = refl; coverage = refl; with_scissor = refl; touch = refl; all_inside = refl; safe_area = refl },
  record { trimmed = refl; coverage = refl; with_scissor = refl; touch = refl; all_inside = refl; safe_area = refl },
)

-- Outlines with curves, computed from the definitions that the contracts cite (specs/Curves.antt). Assumes nothing.
use mathlib.Core.Path.{refl}
use lib.Count.{count_trailing_zeros}
use lib.Ieee.{of_bits, of_fields, odd, units, round, size, span, climb, of_int, add, sub, sum, mul, div, neg, lt, le, eq, is_nan}
use Rattle.float.specs.Simple.{abs_of, min_of, max_of}
use Rattle.float.specs.Arctan.{ratio_of, eighth_of, steep_of, behind_of, under_of, atan2_of}
use Rattle.narrowing.specs.Width.{narrow_of}
use Rattle.roots.specs.Root.{sqrt_of, hypot_of}
use Rattle.path.specs.Verbs.{unpacked_of}
use Rattle.shape.specs.Checks.{in_range_of}
use Rattle.outline.specs.Outline.{verb_check_of, verbs_check_of, floats_of, floats_needed_of, all_in_range_of, outline_check_of}
use Rattle.outline.specs.Contour.{same_place_of, move_of, draw_of, contour_from}
use Rattle.samples.specs.Samples.{bezier_of, middle_of, sample_of, outline_from, ends_of}
use Rattle.samples.specs.Folds.{pairs_of}
use Rattle.corner_radii.specs.Around.{around_of, sized_half_of, sized_of}
use Rattle.corner_radii.specs.Radii.{on_side_of, further_of, reach_step_of, snapped_of, radius_of, corner_of}
use Rattle.corner_radii.specs.Mix.{same_of, square_of, round_of, alike_of, cut_of, cut_at_of, mix_of, corner_mix_of}
use Rattle.rounded.specs.OnBox.{quadrant_of, beside_of, radii_at_of, at_corner_of, corner_met_of, side_met_of, met_of, met_step_of}
use Rattle.rounded.specs.Turning.{angle_of, step_of, turned_by, once_of}
use Rattle.rounded.specs.Rounded.{side_x_of, side_y_of, past_of, boxed_of, fitted_of, rounded_by, rounded_of}
use Rattle.fit.specs.Fit.{segments_fitted_of, contour_fitted_of, fit_with_cut_of, fit_of}
use Rattle.examples.specs.Curves.{CurvesFit}

pub curves_fit : CurvesFit
unfolding of_bits of_fields odd units round size span climb of_int add sub sum mul div neg lt le eq is_nan count_trailing_zeros
    abs_of min_of max_of ratio_of eighth_of steep_of behind_of under_of atan2_of narrow_of sqrt_of hypot_of
    unpacked_of in_range_of verb_check_of verbs_check_of floats_of floats_needed_of all_in_range_of outline_check_of same_place_of move_of draw_of contour_from
    bezier_of middle_of sample_of outline_from ends_of pairs_of around_of sized_half_of sized_of
    on_side_of further_of reach_step_of snapped_of radius_of corner_of same_of square_of round_of alike_of cut_of cut_at_of mix_of corner_mix_of
    quadrant_of beside_of radii_at_of at_corner_of corner_met_of side_met_of met_of met_step_of angle_of step_of turned_by once_of
    side_x_of side_y_of past_of boxed_of fitted_of rounded_by rounded_of segments_fitted_of contour_fitted_of fit_with_cut_of fit_of
curves_fit =
    record {
      circle_fits = refl;
      tab_fits = refl;
      tab_outline = refl;
      tab_alone = refl;
      rect_fits = refl;
      corner_does_not = refl;
    }

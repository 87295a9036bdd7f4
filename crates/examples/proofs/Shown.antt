-- Document 01's starred examples, computed from the definitions that the contracts cite. Assumes nothing.
use mathlib.Core.Path.{refl}
use lib.Count.{count_trailing_zeros}
use lib.Ieee.{of_bits, of_fields, odd, units, round, size, span, climb, of_int, add, sub, sum, mul, div, rem, neg, lt, le, eq, ne, is_nan, to_unsigned}
use Rattle.float.specs.Simple.{abs_of, min_of, max_of}
use Rattle.narrowing.specs.Width.{narrow_of}
use Rattle.roots.specs.Root.{sqrt_of, hypot_of}
use Rattle.word_list.specs.Words.{and_then, beyond, read_count, read_coordinate, read_point, read_points, read_contour, read_contours, read_group, read_groups, read_words, points_of, points_in}
use Rattle.accumulation.specs.Area.{add_of, evenly_of, single_of, between_of, across_of}
use Rattle.row.specs.Row.{ceil_column, inside_of, clip_of, span_by}
use Rattle.sweep.specs.Bytes.{share_of, covered_of, bytes_of, add_bytes}
use Rattle.contour.specs.Contours.{walk_of, last_of, contour_of, edges_of}
use Rattle.edge.specs.Edges.{sloped_of, edge_between}
use Rattle.active_edges.specs.Active.{starting_in, reaching_below, active_edges, piece_of, pieces_of}
use Rattle.cells.specs.Rows.{rows_from}
use Rattle.coverage.specs.Drawing.{edges_row, group_row, add_groups}
use Rattle.laying.specs.Laying.{laid_line}
use Rattle.path.specs.Verbs.{unpacked_of}
use Rattle.shape.specs.Checks.{in_range_of}
use Rattle.outline.specs.Outline.{verb_check_of, verbs_check_of, floats_of, floats_needed_of, all_in_range_of, outline_check_of}
use Rattle.outline.specs.Contour.{same_place_of, move_of, draw_of, contour_from}
use Rattle.fit.specs.Fit.{from_start_of, cross_of, turns_of, turns_at_of, corners_below, close_of, centred_of, spanned_of, corners_box_of}
use Rattle.fit.specs.Fit.{parallelogram_of, segments_fitted_of, contour_fitted_of, fit_with_cut_of, fit_of}
use Rattle.examples.specs.Starred.{StarredShown, TellsXFromY}

pub starred_shown : StarredShown
unfolding rows_from add_groups group_row edges_row pieces_of piece_of active_edges reaching_below starting_in edges_of contour_of last_of walk_of edge_between sloped_of
    add_bytes bytes_of covered_of share_of abs_of min_of max_of clip_of span_by inside_of ceil_column across_of between_of single_of evenly_of add_of
    and_then beyond read_count read_coordinate read_point read_points read_contour read_contours read_group read_groups read_words points_of points_in
    of_bits of_fields odd units round size span climb of_int add sub sum mul div rem neg lt le eq ne is_nan to_unsigned count_trailing_zeros
    laid_line
    unpacked_of verb_check_of verbs_check_of floats_of floats_needed_of in_range_of all_in_range_of outline_check_of same_place_of move_of draw_of contour_from
    from_start_of cross_of turns_of turns_at_of corners_below close_of centred_of spanned_of corners_box_of parallelogram_of segments_fitted_of contour_fitted_of fit_with_cut_of fit_of
    narrow_of sqrt_of hypot_of
starred_shown = (
  (refl, refl, refl, refl),
  (
    (refl, refl, refl, refl),
    (
      (refl, refl, refl, refl),
      (
        (refl, refl, refl, refl),
        (
          (refl, refl, refl, refl),
          (
            (refl, refl),
            (
              (refl, refl),
              (
                (refl, refl),
                (
                  (refl, refl),
                  (
                    (refl, refl),
                    (refl, (refl, tt)),
                  ),
                ),
              ),
            ),
          ),
        ),
      ),
    ),
  ),
)

pub tells_x_from_y : TellsXFromY
unfolding rows_from add_groups group_row edges_row pieces_of piece_of active_edges reaching_below starting_in edges_of contour_of last_of walk_of edge_between sloped_of
    add_bytes bytes_of covered_of share_of abs_of min_of max_of clip_of span_by inside_of ceil_column across_of between_of single_of evenly_of add_of
    and_then beyond read_count read_coordinate read_point read_points read_contour read_contours read_group read_groups read_words points_of points_in
    of_bits of_fields odd units round size span climb of_int add sub sum mul div rem neg lt le eq ne is_nan to_unsigned count_trailing_zeros
tells_x_from_y = (refl, refl, refl, refl)

-- Which columns of a row have ink, computed from the definitions that the contracts cite. Assumes nothing.
use mathlib.Core.Path.{refl}
use lib.Count.{count_trailing_zeros}
use lib.Ieee.{of_bits, of_fields, odd, units, round, size, span, climb, of_int, add, sub, sum, mul, div, rem, neg, lt, le, eq, ne, is_nan, to_unsigned}
use Rattle.float.specs.Simple.{abs_of, min_of, max_of}
use Rattle.word_list.specs.Words.{and_then, beyond, read_count, read_coordinate, read_point, read_points, read_contour, read_contours, read_group, read_groups, read_words, points_of, points_in}
use Rattle.accumulation.specs.Area.{add_of, evenly_of, single_of, between_of, across_of}
use Rattle.row.specs.Row.{ceil_column, inside_of, clip_of, span_by}
use Rattle.sweep.specs.Bytes.{share_of, covered_of, bytes_of, add_bytes}
use Rattle.contour.specs.Contours.{walk_of, last_of, contour_of, edges_of}
use Rattle.edge.specs.Edges.{sloped_of, edge_between}
use Rattle.active_edges.specs.Active.{starting_in, reaching_below, active_edges, piece_of, pieces_of}
use Rattle.cells.specs.Corner.{corner_number_out}
use Rattle.cells.specs.Rows.{rows_from}
use Rattle.ink.specs.Ink.{ink_of}
use Rattle.coverage.specs.Drawing.{edges_row, group_row, add_groups}
use Rattle.laying.specs.Laying.{laid_line}
use Rattle.examples.specs.Inked.{InkShown}

pub ink_shown : InkShown
unfolding rows_from add_groups group_row edges_row pieces_of piece_of active_edges reaching_below starting_in edges_of contour_of last_of walk_of edge_between sloped_of
    add_bytes bytes_of covered_of share_of abs_of min_of max_of clip_of span_by inside_of ceil_column across_of between_of single_of evenly_of add_of
    and_then beyond read_count read_coordinate read_point read_points read_contour read_contours read_group read_groups read_words points_of points_in
    of_bits of_fields odd units round size span climb of_int add sub sum mul div rem neg lt le eq ne is_nan to_unsigned count_trailing_zeros
    laid_line corner_number_out ink_of
ink_shown = record {
  blank = refl;
  first_alone = refl;
  last_alone = refl;
  zeros_within = refl;
  widest = refl;
  no_columns = refl;
  no_rows = (refl, refl);
  past_rows = refl;
  sliver = refl;
  groups = refl;
  laid = refl;
  one_short = (refl, refl);
  before_list = refl;
  before_scratch = (refl, refl);
  three_first = refl;
  sixteen_first = refl;
  laid_short = refl;
}

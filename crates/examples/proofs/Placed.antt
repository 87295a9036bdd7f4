-- Laying on by corners, computed from the definitions that the contracts cite. Assumes nothing.
use mathlib.Core.Path.{refl}
use Rattle.cells.specs.Corner.{corner_number_out}
use Rattle.cells.specs.Rows.{rows_from}
use Rattle.laying.specs.Laying.{laid_line}
use Rattle.examples.specs.Placed.{LaidByCorners}

pub laid_by_corners : LaidByCorners
unfolding corner_number_out rows_from laid_line
laid_by_corners = record {
  to_the_right = (refl, refl);
  to_the_left = (refl, refl);
  below = (refl, refl);
  far_off = (refl, refl);
  apart = (refl, refl);
  own_over = (refl, refl);
  own_under = (refl, refl);
  other_over = (refl, refl);
  other_under = (refl, refl);
  ends = (refl, refl);
  both_ends = refl;
  three_first = refl;
  before_four = (refl, refl);
  four_last = (refl, refl);
}

-- The files (specs/Files.antt), computed. Assumes nothing.
use mathlib.Core.Path.{refl}
use Rattle.cells.specs.Rows.{rows_from}
use Rattle.ink.specs.Ink.{ink_of}
use Rattle.pgm_reader.specs.Reading.{is_space, is_digit, leading, value_of, and_then, read_mark, read_digits, read_field, read_positive, read_space, read_depth, read_fields, read_header}
use Rattle.pgm_writer.specs.Text.{place, decimal, header_text}
use Rattle.pgm.specs.Files.{Files}

pub files : Files
unfolding rows_from ink_of place decimal header_text is_space is_digit leading value_of and_then read_mark read_digits read_field read_positive read_space read_depth read_fields read_header
files =
    record {
      plain = (refl, (refl, refl));
      leading_zeros = (refl, (refl, refl));
      any_whitespace = (refl, (refl, refl));
      cell_of_line_feed = (refl, (refl, refl));
      cell_of_number_sign = (refl, (refl, refl));
      past_the_cells = (refl, (refl, refl));
      cell_without_ink = (refl, (refl, refl));
      past_the_last_row = (refl, (refl, refl));
      nothing = (refl, (refl, refl));
      one_byte = (refl, (refl, refl));
      plain_mark = (refl, (refl, refl));
      before_mark = (refl, (refl, refl));
      no_space_after_mark = (refl, (refl, refl));
      vertical_tab = (refl, (refl, refl));
      form_feed = (refl, (refl, refl));
      ten_digits = (refl, (refl, refl));
      plus_sign = (refl, (refl, refl));
      comma = (refl, (refl, refl));
      comment = (refl, (refl, refl));
      comment_after_depth = (refl, (refl, refl));
      ends_at_depth = (refl, (refl, refl));
      wrong_depth_ends = (refl, (refl, refl));
      wrong_depth_and_letter = (refl, (refl, refl));
      zero_before_depth = (refl, (refl, refl));
      wrong_depth = (refl, (refl, refl));
      depth_of_zero = (refl, (refl, refl));
      depth_before_size = (refl, (refl, refl));
      size_before_raster = (refl, (refl, refl));
      nine_nines = (refl, (refl, refl));
      no_raster = (refl, (refl, refl));
      two_bytes_after_depth = (refl, (refl, refl));
      raster_before_mask = (refl, (refl, refl));
      raster_before_ink = (refl, (refl, refl));
      no_mask = (refl, (refl, refl));
      ink_one_short = (refl, (refl, refl));
      writes = (refl, refl);
      file_one_short = (refl, refl);
      mask_one_short = (refl, refl);
      no_width_before_size = (refl, refl);
      no_height = (refl, refl);
      size_before_mask_short = (refl, refl);
      one_digit_more = refl;
      a_digit_of_0 = refl;
    }

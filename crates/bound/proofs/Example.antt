-- The worked cell of docs/BOUND.md (specs/Example.antt), by computation. Assumes nothing.
use mathlib.Core.Path.{refl}
use lib.Count.{count_trailing_zeros}
use lib.Ieee.{is_nan, of_bits, of_fields, odd, units, round, size, span, climb, of_int, add, sub, sum, mul, div, rem, neg, lt, le, eq, ne, to_unsigned}
use Rattle.fraction.specs.Fraction.{minᶠ, maxᶠ}
use Rattle.fraction.proofs.Linear.{lit≈}
use Rattle.word_list.specs.Words.{read_words}
use Rattle.winding.specs.Winding.{exact_edges, mean_winding, non_zero_share, even_odd_share}
use Rattle.winding.specs.Drawn.{sum_of_shares, allowed_difference}
use Rattle.row.specs.Row.{span_by}
use Rattle.cells.specs.Rows.{rows_from}
use Rattle.coverage.specs.Drawing.{add_groups}
use Rattle.bound.specs.Example.{WorkedCell}

pub worked_cell : WorkedCell
unfolding read_words rows_from add_groups span_by
    of_bits of_fields odd units round size span climb of_int add sub sum mul div rem neg lt le eq ne is_nan to_unsigned count_trailing_zeros
    sum_of_shares exact_edges mean_winding non_zero_share even_odd_share minᶠ maxᶠ allowed_difference
worked_cell = record { bytes = refl; share = lit≈ tt; difference = lit≈ tt }

-- `nearest_roots::hypot_by_digits` meets its contract: the parts of x and y, and the root of their squares. Assumes nothing.
use Rattle.nearest_roots.proofs.Guessing.{digits_of, hypot_of_lem}
use Rattle.nearest_roots.proofs.hypot_by_digits.Goals as goal

pub root_of_squares-requires : goal.root_of_squares-requires
root_of_squares-requires c =
    record {
      digits = digits_of c.unpack32-p.ensures;
      digits_2 = digits_of c.unpack32-q.ensures;
    }

pub returns : goal.returns
returns c = hypot_of_lem c.unpack32-p.ensures c.unpack32-q.ensures c.root_of_squares.ensures

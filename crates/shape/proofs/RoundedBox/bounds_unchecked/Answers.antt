-- `shape::RoundedBox::bounds_unchecked` meets its contract. Assumes nothing.
use Rattle.shape.proofs.RoundedBox.bounds_unchecked.Goals as goal

pub returns : goal.returns
returns c =
    rw (
      c.from_points.ensures,
      c.corner_at.ensures,
      c.corner_at-2.ensures,
      c.corner_at-3.ensures,
      c.corner_at-4.ensures,
    )

-- `geometry::Bounds::from_points` meets its contract: the callees' contracts, from the last to the first. Assumes
-- nothing.
use Rattle.geometry.proofs.Bounds.from_points.Goals as goal

pub returns : goal.returns
returns c =
    rw (c.with_point-4.ensures, c.with_point-3.ensures, c.with_point-2.ensures, c.with_point.ensures, c.none.ensures)

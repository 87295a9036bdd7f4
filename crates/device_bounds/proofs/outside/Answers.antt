-- `device_bounds::outside` meets its contract. Assumes nothing.
use Rattle.clip_coverage.specs.Distance.{distance_of}
use Rattle.device_bounds.specs.Holds.{outside_of}
use Rattle.device_bounds.proofs.outside.Goals as goal

pub returns-then-off_round_corner : goal.returns-then-off_round_corner
unfolding outside_of distance_of
returns-then-off_round_corner c = rw (← c.off_round_corner.ensures, c.if-off_round_corner.true, c.distance_unchecked-distance.ensures)

pub returns : goal.returns
unfolding outside_of distance_of
returns c = rw (← c.off_round_corner.ensures, c.if-off_round_corner.false, c.distance_unchecked-distance.ensures)

-- `shape::point_check` meets its contract. Assumes nothing.
use Rattle.shape.proofs.point_check.Goals as goal

pub returns : goal.returns
returns c = cc

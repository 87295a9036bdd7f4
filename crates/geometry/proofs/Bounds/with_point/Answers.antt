-- `geometry::Bounds::with_point` meets its contract: the callees' contracts, field by field. Assumes nothing.
use Rattle.geometry.proofs.Bounds.with_point.Goals as goal

pub returns : goal.returns
returns c = cc

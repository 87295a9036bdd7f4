-- `geometry::Transform2D::div` meets its contract: the callees' contracts. Assumes nothing.
use Rattle.geometry.specs.Frame.{quotient_of}
use Rattle.geometry.proofs.Transform2D.div.Goals as goal

pub returns : goal.returns
unfolding quotient_of
returns c = cc

-- `geometry::Transform2D::collapsed` meets its contract. Assumes nothing.
use Rattle.geometry.specs.Frame.{collapsed_of}
use Rattle.geometry.proofs.Transform2D.collapsed.Goals as goal

pub returns-then-det : goal.returns-then-det
unfolding collapsed_of
returns-then-det c = simp c.if-det.true

pub returns-else-det : goal.returns-else-det
unfolding collapsed_of
returns-else-det c = simp c.if-det.false

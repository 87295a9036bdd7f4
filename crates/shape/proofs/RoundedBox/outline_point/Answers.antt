-- `shape::RoundedBox::outline_point` meets its contract. Assumes nothing.
use Rattle.shape.specs.Outline.{outline_point_of}
use Rattle.shape.proofs.RoundedBox.outline_point.Goals as goal

pub returns : goal.returns
unfolding outline_point_of
returns c = c.transform_point.ensures

-- `shape::RoundedBox::transformed_unchecked` meets its contract. Assumes nothing.
use Rattle.shape.proofs.RoundedBox.transformed_unchecked.Goals as goal

pub returns : goal.returns
returns c = rw c.mul-carried.ensures

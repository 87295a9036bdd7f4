-- `shape::RoundedBox::improper` meets its contract. Assumes nothing.
use Rattle.shape.specs.Checks.{improper_of}
use Rattle.shape.proofs.RoundedBox.improper.Goals as goal

pub returns-then-improper_side : goal.returns-then-improper_side
unfolding improper_of
returns-then-improper_side c = rw (← c.improper_side.ensures, c.if-improper_side.true)

pub returns-else-improper_side : goal.returns-else-improper_side
unfolding improper_of
returns-else-improper_side c = rw (← c.improper_side.ensures, c.if-improper_side.false) c.improper_side-else-improper_side.ensures

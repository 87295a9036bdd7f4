-- `shape::both_in_range` meets its contract. Assumes nothing.
use Rattle.shape.specs.Checks.{both_in_range_of}
use Rattle.shape.proofs.both_in_range.Goals as goal

pub returns-then-number_in_range : goal.returns-then-number_in_range
unfolding both_in_range_of
returns-then-number_in_range c = rw (← c.number_in_range.ensures, c.if-number_in_range.true) c.number_in_range-then-number_in_range.ensures

pub returns-else-number_in_range : goal.returns-else-number_in_range
unfolding both_in_range_of
returns-else-number_in_range c = rw (← c.number_in_range.ensures, c.if-number_in_range.false)

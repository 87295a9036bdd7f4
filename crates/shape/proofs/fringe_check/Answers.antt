-- `shape::fringe_check` meets its contract. Assumes nothing.
use Rattle.shape.proofs.fringe_check.Goals as goal

pub returns : goal.returns
returns c = cc

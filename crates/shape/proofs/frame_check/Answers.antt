-- `shape::frame_check` meets its contract. Assumes nothing.
use Rattle.shape.proofs.frame_check.Goals as goal

pub returns : goal.returns
returns c = cc

-- `boxes::box_at` meets its contract. Assumes nothing.
use Rattle.boxes.proofs.box_at.Goals as goal

pub returns : goal.returns
returns c = rw c.frame_at-frame.ensures

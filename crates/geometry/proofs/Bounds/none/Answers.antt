-- `geometry::Bounds::none` meets its contract. Assumes nothing.
use lib.Ieee.{neg}
use Rattle.geometry.proofs.Bounds.none.Goals as goal

pub returns : goal.returns
unfolding neg
returns c = simp c.infinity-top.ensures

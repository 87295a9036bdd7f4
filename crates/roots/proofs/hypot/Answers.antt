-- `roots::hypot` meets its contract: the callees' contracts, one after another. Assumes nothing.
use Rattle.roots.specs.Root.{hypot_of}
use Rattle.roots.proofs.hypot.Goals as goal

pub returns : goal.returns
unfolding hypot_of
returns c = cc

-- `nearest_roots::sqrt` meets its contract: a guess that was held is the root. Assumes nothing.
use lib.Ieee.{of_bits}
use Rattle.float.proofs.Tests.{holds}
use Rattle.nearest_roots.proofs.Guessing.{was_held, root_held}
use Rattle.nearest_roots.proofs.sqrt.Goals as goal

pub returns-then-root : goal.returns-then-root
unfolding of_bits
returns-then-root c =
    let held = was_held _ _ c.checked_root-root.ensures c.if-root.true in
    root_held c.args.x (holds c.well_formed.0.1) c.if-x.true (rw c.widen.ensures at held)

-- `edge::load` meets its contract. Assumes nothing.
use mathlib.Core.Path.{refl}
use Rattle.edge.specs.Floats.{edge_at}
use Rattle.edge.proofs.load.Goals as goal

pub returns : goal.returns
unfolding edge_at
returns c = refl

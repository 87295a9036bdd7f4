-- `edge::store` meets its contract. Assumes nothing.
use mathlib.Core.Path.{refl}
use Rattle.edge.specs.Floats.{put_edge}
use Rattle.edge.proofs.store.Goals as goal

pub returns : goal.returns
unfolding put_edge
returns c = refl

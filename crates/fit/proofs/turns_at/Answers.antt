-- `fit::turns_at` meets its contract: the three points are the outline's. Assumes nothing.
use mathlib.Core.Path.{◌∙◌}
use Rattle.fit.proofs.Turning.{turns_here}
use Rattle.fit.proofs.turns_at.Goals as goal

pub returns : goal.returns
returns c = let a = c.args in c.turns.ensures ∙ turns_here a.points.now a.i c.requires.1 a.size _

-- `overlap::follows` meets its contract. Assumes nothing.
use Rattle.std.proofs.Common.{rules}
use Rattle.overlap.specs.Overlap.{near_of}
use Rattle.overlap.proofs.follows.Goals as goal

pub returns : goal.returns
returns c = c.every_outline_point.ensures (λ p. near_of c.args.mine c.args.theirs c.args.slack p) (λ p r h. search rules)

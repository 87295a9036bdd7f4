-- `whole::ceil` meets its contract. Assumes nothing.
use Rattle.std.proofs.Common.{◌∙◌}
use Rattle.whole.proofs.Methods.{ceil_is}
use Rattle.whole.proofs.ceil.Goals as goal

pub returns : goal.returns
returns c = c.ceil.ensures ∙ ceil_is c.args.x

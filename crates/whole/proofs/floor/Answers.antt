-- `whole::floor` meets its contract. Assumes nothing.
use Rattle.std.proofs.Common.{◌∙◌}
use Rattle.whole.proofs.Methods.{floor_is}
use Rattle.whole.proofs.floor.Goals as goal

pub returns : goal.returns
returns c = c.floor.ensures ∙ floor_is c.args.x

-- `float::eighth` meets its contract. Assumes nothing.
use Rattle.float.specs.Arctan.{eighth_of}
use Rattle.std.proofs.Common.{refl}
use Rattle.float.proofs.eighth.Goals as goal

pub returns : goal.returns
unfolding eighth_of
returns c = refl

-- `sweep::covered` meets its contract. Assumes nothing.
use Rattle.sweep.specs.Bytes.{covered_of}
use Rattle.sweep.proofs.covered.Goals as goal

pub returns : goal.returns
unfolding covered_of
returns c = cc

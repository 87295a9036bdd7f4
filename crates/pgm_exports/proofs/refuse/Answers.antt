-- `pgm_exports::refuse` meets its contract. Assumes nothing.
use mathlib.Core.Path.{ap, ◌∙◌}
use Rattle.ink.specs.Lent.{lent}
use Rattle.boundary.specs.Answers.{read_number}
use Rattle.pgm_exports.proofs.Unlent.{unlent}
use Rattle.pgm_exports.proofs.refuse.Goals as goal

pub returns-in-Err-clause-value : goal.returns-in-Err-clause-value
returns-in-Err-clause-value c =
    let args = c.args in
    let refused = rw c.in-Err.is at c.read_pgm.ensures in
    let answer = refused.answer ∙ unlent args.file.now (lent args.mask.now args.ink.now) in
    c.number-in-Err.ensures ∙ ap read_number answer

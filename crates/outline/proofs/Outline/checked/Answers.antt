-- `outline::Outline::checked` meets its contract. Assumes nothing.
use Rattle.std.proofs.Common.{sym, ◌∙◌}
use Rattle.outline.proofs.Passing.{pass_means}
use Rattle.outline.proofs.Outline.checked.Goals as goal

pub invariant_of-result : goal.invariant_of-result
invariant_of-result c =
    let m = pass_means c.args.verbs.now c.args.positions.now (sym c.outline_check.ensures ∙ c.in_ok-outline_check.was) in
    record { few = m.0; fits = m.1 }

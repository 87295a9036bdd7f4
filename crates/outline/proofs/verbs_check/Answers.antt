-- `outline::verbs_check` meets its contract: the verbs passed so far pass their checks, so the first fault is among
-- those left. Assumes nothing.
use Rattle.std.proofs.lemmas.Result.{err_from_is_err_and}
use Rattle.outline.proofs.Scan.{verb_refused, verb_passes, verbs_pass}
use Rattle.outline.proofs.verbs_check.Goals as goal

pub loop-byte-preserved : goal.loop-byte-preserved
loop-byte-preserved c =
    verb_passes c.loop-byte.invariant c.loop-byte-test.true c.verb_check.ensures c.in_ok-verb_check.was

pub returns-in_err-verb_check : goal.returns-in_err-verb_check
returns-in_err-verb_check c =
    let p = err_from_is_err_and c.from_residual.result c.from_residual.ensures.1 in
    rw (p.1, p.2) (verb_refused c.loop-byte.invariant c.loop-byte-test.true c.verb_check.ensures c.in_err-verb_check.was)

pub returns : goal.returns
returns c = verbs_pass c.loop-byte.invariant c.loop-byte-test.false

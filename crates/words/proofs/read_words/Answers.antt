-- `words::read_words` meets its contract. Assumes nothing.
use mathlib.Core.Path.{◌∙◌}
use native.Mathlib.Omega.{arith}
use Rattle.words.proofs.Steps.{exits, going_start, going_end, going_fault, group_onward, going_more}
use Rattle.words.proofs.read_words.Goals as goal

pub loop-scan-init : goal.loop-scan-init
loop-scan-init c = going_start c.args.words.now

pub returns-in_err-scan : goal.returns-in_err-scan
returns-in_err-scan c =
    exits c.from_residual.result c.in_err-scan.field-0.0 c.from_residual.ensures.1
    ∙ going_fault c.loop-scan.invariant c.loop-scan-test.true c.group_at.ensures c.in_err-scan.was

pub loop-scan-smaller : goal.loop-scan-smaller
loop-scan-smaller c =
    let o = group_onward c.loop-scan.invariant c.loop-scan-test.true c.group_at.ensures c.in_ok-scan.was in
    omega (arith, o.forward, o.within)

pub loop-scan-preserved : goal.loop-scan-preserved
loop-scan-preserved c =
    going_more c.loop-scan.invariant c.loop-scan-test.true c.group_at.ensures c.in_ok-scan.was

pub returns : goal.returns
returns c = going_end c.loop-scan.invariant c.loop-scan-test.false

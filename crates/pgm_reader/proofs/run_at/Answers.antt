-- `pgm_reader::run_at` meets its contract: what is left of the run is that of the place reached. Assumes nothing.
use mathlib.Core.Path.{sym, ◌∙◌}
use native.Mathlib.Omega.{arith}
use lib.ListN.{get_or}
use Rattle.pgm_reader.proofs.Runs.{leading_on, leading_stop, leading_end}
use Rattle.pgm_reader.proofs.run_at.Goals as goal

pub returns-then-not-test : goal.returns-then-not-test
returns-then-not-test g c kind tells =
    let told = tells (get_or c.args.file.now c.loop-at.at 0) c.test.result (c.type_inv.file c.loop-at.at).fits c.test.ensures in
    let stop = leading_stop kind c.args.file.now c.loop-at.at c.loop-at-test.true (sym told ∙ c.if-not-test.true) in
    omega (arith, c.loop-at.invariant kind tells)

pub loop-at-preserved : goal.loop-at-preserved
loop-at-preserved g c kind tells =
    let told = tells (get_or c.args.file.now c.loop-at.at 0) c.test.result (c.type_inv.file c.loop-at.at).fits c.test.ensures in
    let on = leading_on kind c.args.file.now c.loop-at.at c.loop-at-test.true (sym told ∙ c.if-not-test.false) in
    omega (arith, c.loop-at.invariant kind tells)

pub returns : goal.returns
returns g c kind tells =
    let end = leading_end kind c.args.file.now c.loop-at.at c.loop-at-test.false in
    omega (arith, c.loop-at.invariant kind tells)

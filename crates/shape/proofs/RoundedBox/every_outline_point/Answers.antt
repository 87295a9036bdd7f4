-- `shape::RoundedBox::every_outline_point` meets its contract: every point passed so far passes. Assumes nothing.
use Rattle.std.proofs.Common.{rules, sym, ◌∙◌}
use native.Mathlib.Omega.{arith}
use Rattle.shape.proofs.All.{none_yet, one_more, one_out, all_passed}
use Rattle.shape.proofs.RoundedBox.every_outline_point.Goals as goal

pub loop-i-init : goal.loop-i-init
loop-i-init g c test tells = none_yet

pub loop-i-preserved : goal.loop-i-preserved
loop-i-preserved g c test tells =
    one_more (c.loop-i.invariant test tells) (omega arith)
    (rw (← c.outline_point.ensures) (sym (tells c.outline_point.result c.passes.result (search rules)) ∙ c.if-not-passes.false))

pub returns-then-not-passes : goal.returns-then-not-passes
returns-then-not-passes g c test tells =
    one_out (c.loop-i.invariant test tells) (omega arith)
    (rw (← c.outline_point.ensures) (sym (tells c.outline_point.result c.passes.result (search rules)) ∙ c.if-not-passes.true))

pub returns : goal.returns
returns g c test tells = all_passed (c.loop-i.invariant test tells) (omega arith)

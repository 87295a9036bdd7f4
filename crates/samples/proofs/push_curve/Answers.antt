-- `samples::push_curve` meets its contract: the samples passed so far, and at last the end behind them. Assumes nothing.
use Rattle.std.proofs.Common.{◌≡◌, ◌∙◌, arith, length, length-append}
use Rattle.samples.proofs.Outlining.{samples_none, samples_next, samples_all}
use Rattle.samples.proofs.push_curve.Goals as goal

pub loop-i-init : goal.loop-i-init
loop-i-init c =
    let a = c.args in
    record { count = omega arith; held = samples_none a.from a.c1 a.c2 a.end a.points.now.items }

pub push-requires : goal.push-requires
push-requires c = let n = c.loop-i.invariant.count in (omega arith, omega arith)

pub loop-i-preserved : goal.loop-i-preserved
loop-i-preserved c =
    let a = c.args in
    let next = samples_next a.from a.c1 a.c2 a.end a.points.now.items c.loop-i.i c.sample.ensures in
    let n = c.loop-i.invariant.count in
    record {
      count = rw (c.push.ensures.items, length-append) (omega arith);
      held = rw (c.push.ensures.items, c.loop-i.invariant.held) next;
    }

pub push-requires-2 : goal.push-requires-2
push-requires-2 c = let n = c.loop-i.invariant.count in (omega arith, omega arith)

pub returns : goal.returns
returns c =
    let a = c.args in
    let seven : c.loop-i.i ≡ 7 = omega arith in
    rw (c.push-2.ensures.items, c.loop-i.invariant.held, seven) (samples_all a.from a.c1 a.c2 a.end a.points.now.items)

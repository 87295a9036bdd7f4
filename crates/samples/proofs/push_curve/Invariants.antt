-- `samples::push_curve` meets its contract: the samples passed so far, and at last the end behind them. Assumes nothing.
use Rattle.std.proofs.Common.{◌≡◌, ◌+◌, ◌++◌, length}
use Rattle.samples.proofs.Outlining.{samples_below}
use Rattle.samples.proofs.push_curve.Given as goal

abbrev pub invariant-loop-i : goal.invariant-loop-i
invariant-loop-i l = record {
  count : length l.points.items ≡ length l.initial.points.items + l.i;
  held : l.points.items ≡ l.initial.points.items ++ samples_below l.from l.c1 l.c2 l.end l.i;
}

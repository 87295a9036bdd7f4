-- `fit::turning_points` meets its contract: the turning points passed so far are stored. Assumes nothing.
use Rattle.fit.proofs.Turning.{Cornered}
use Rattle.fit.proofs.turning_points.Given as goal

abbrev pub invariant-loop-i : goal.invariant-loop-i
invariant-loop-i l = Cornered l.points l.size l.corners l.m l.i

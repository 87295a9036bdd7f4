-- `samples::outline_points` meets its contract: the points that are held, and those of the segments that are left.
-- Assumes nothing.
use Rattle.std.proofs.Common.{◌≡◌, ◌≤◌, ◌+◌, ◌*◌, ◌++◌, length, drop}
use Rattle.samples.specs.Samples.{outline_from, outline_of}
use Rattle.samples.proofs.outline_points.Given as goal

abbrev pub invariant-loop-segment : goal.invariant-loop-segment
invariant-loop-segment l = record {
  room : length l.points.items ≤ 8 * l.segment-index + 1;
  left : l.points.items ++ outline_from l.from (drop l.segment-index l.segments) ≡ outline_of l.fn.start l.segments;
}

-- `samples::anchors` meets its contract: the points that are held, and the ends of the segments that are left. Assumes
-- nothing.
use Rattle.std.proofs.Common.{◌≡◌, ◌+◌, ◌++◌, length, drop}
use Rattle.samples.specs.Samples.{ends_of, anchors_of}
use Rattle.samples.proofs.anchors.Given as goal

abbrev pub invariant-loop-segment : goal.invariant-loop-segment
invariant-loop-segment l = record {
  count : length l.points.items ≡ l.segment-index + 1;
  left : l.points.items ++ ends_of (drop l.segment-index l.segments) ≡ anchors_of l.fn.start l.segments;
}

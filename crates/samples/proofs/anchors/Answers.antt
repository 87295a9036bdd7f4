-- `samples::anchors` meets its contract: the points that are held, and the ends of the segments that are left. Assumes
-- nothing.
use Rattle.std.proofs.Common.{◌≡◌, ◌∙◌, ◌++◌, arith, length-append, append_assoc}
use Rattle.samples.proofs.Outlining.{ends_left, ends_none}
use Rattle.samples.proofs.anchors.Goals as goal

pub loop-segment-preserved : goal.loop-segment-preserved
loop-segment-preserved c =
    let s = c.loop-segment.invariant in
    let n = s.count in
    record {
      count = rw (c.push-in-loop-segment.ensures.items, length-append) (omega arith);
      left =
          rw (c.push-in-loop-segment.ensures.items, append_assoc, c.end.ensures, ← ends_left c.args.segments.now c.loop-segment.segment-index _ c.loop-segment-test.true)
          s.left;
    }

pub returns : goal.returns
returns c = ends_none _ c.loop-segment-test.false c.loop-segment.invariant.left

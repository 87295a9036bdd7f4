-- `samples::outline_points` meets its contract: the points that are held, and those of the segments that are left.
-- Assumes nothing.
use Rattle.std.proofs.Common.{◌≡◌, ◌∙◌, ◌++◌, arith, append_assoc}
use Rattle.samples.proofs.Outlining.{outline_left, outline_none}
use Rattle.samples.proofs.outline_points.Goals as goal

pub loop-segment-preserved : goal.loop-segment-preserved
loop-segment-preserved c =
    let s = c.loop-segment.invariant in
    let room = s.room in
    let more = c.push_points.ensures.count in
    record {
      room = omega arith;
      left =
          rw (c.push_points.ensures.held, append_assoc, c.end-from.ensures, ← outline_left c.loop-segment.from c.args.segments.now c.loop-segment.segment-index _ c.loop-segment-test.true)
          s.left;
    }

pub returns : goal.returns
returns c = outline_none _ _ c.loop-segment-test.false c.loop-segment.invariant.left

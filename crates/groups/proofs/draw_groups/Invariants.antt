-- `groups::draw_groups` meets its contract: before each group the state of proofs/AllGroups.antt, and the ink kept. Assumes nothing.
use Prim.Native.Nat.{◌-◌}
use lib.ListN.{length}
use Rattle.ink.specs.Grown.{InkKept}
use Rattle.groups.proofs.AllGroups.{Standing}
use Rattle.groups.proofs.draw_groups.Given as goal

abbrev pub invariant-loop-at : goal.invariant-loop-at
invariant-loop-at l =
    Standing l.size l.points l.words l.initial.mask l.initial.floats l.initial.counters l.mask l.floats l.counters l.at × InkKept l.size l.mask l.ink

abbrev pub decreases-loop-at : goal.decreases-loop-at
decreases-loop-at l = length l.words - l.at

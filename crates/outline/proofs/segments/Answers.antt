-- `outline::segments` meets its contract: the walk so far stands for a contour, from which the verbs left lead to
-- where all lead, and its segments are kept. Assumes nothing.
use mathlib.Core.Path.{sym, ap, ◌∙◌}
use Prim.Native.Nat.{◌*◌}
use Rattle.outline.proofs.Contouring.{has_room, bad_byte, room, stops, goes}
use Rattle.outline.proofs.Storing.{piece_kept, pieces_kept, pieces_all}
use Rattle.outline.proofs.segments.Goals as goal
use Rattle.outline.proofs.segments.Goals.{then-next-walk, else-next-walk}

pub returns-in_default : goal.returns-in_default
returns-in_default c =
    rw (bad_byte c.loop-byte.invariant c.loop-byte-test.true (sym c.try_from.ensures ∙ c.in_default.is)) tt

pub from_packed-verb-requires : goal.from_packed-verb-requires
from_packed-verb-requires c =
    room c.loop-byte.invariant c.loop-byte-test.true (sym c.try_from.ensures ∙ c.in-Ok.is)

pub step-requires : goal.step-requires
step-requires c = has_room c.loop-byte.invariant c.args.outline.few

pub returns-in_default-step : goal.returns-in_default-step
returns-in_default-step c =
    let u = sym c.try_from.ensures ∙ c.in-Ok.is in
    rw (stops c.loop-byte.invariant c.loop-byte-test.true u c.from_packed-verb.ensures c.step.ensures c.in_default-step.is) tt

pub loop-byte-preserved : goal.loop-byte-preserved
loop-byte-preserved c =
    let u = sym c.try_from.ensures ∙ c.in-Ok.is in
    let s = c.loop-byte.invariant in
    let v = c.from_packed-verb.result in
    let more = c.loop-byte-test.true in
    let takes = ap (λ n. 2 * n) c.num_coordinates.ensures in
    elim c.if-next-walk.branch [
      | then-next-walk w ↦
          let keeps = piece_kept s v c.step.ensures c.in-Some.is w.candidate.ensures w.if-next-walk.true in
          rw (w.segments-is, w.push.ensures.items) (goes s more u c.from_packed-verb.ensures c.step.ensures c.in-Some.is takes keeps)
      | else-next-walk w ↦
          let keeps = pieces_kept s v c.step.ensures c.in-Some.is w.if-next-walk.false in
          rw w.segments-is (goes s more u c.from_packed-verb.ensures c.step.ensures c.in-Some.is takes keeps)
    ]

pub returns : goal.returns
returns c = pieces_all c.loop-byte.invariant c.loop-byte-test.false

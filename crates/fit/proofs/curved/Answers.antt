-- `fit::curved` meets its contract: the closing line stands behind the segments. Assumes nothing.
use mathlib.Core.Path.{ap}
use native.Mathlib.Omega.{arith}
use lib.ListN.{length}
use Rattle.fit.proofs.Closing.{counted, stored_is, curved_back, curved_on}
use Rattle.fit.proofs.curved.Goals as goal
use Rattle.fit.proofs.curved.Goals.{then-not-same_place, else-not-same_place}

pub push-requires : goal.push-requires
push-requires c =
    let r = c.requires.reached in
    let same = ap length (stored_is r.led c.segments-segments.ensures) in
    let count = counted r.contour r.stands in
    let fits = c.requires.count_lt_most_verbs in
    (omega arith, omega arith)

pub returns : goal.returns
returns c = λ k led stands.
    let kept = stored_is led c.segments-segments.ensures in
    let same = c.same_place.ensures in
    elim c.if-not-same_place.branch [
      | then-not-same_place w ↦
          curved_on k stands same kept w.if-not-same_place.true (rw (← w.push.ensures.items, ← w.segments-is, ← c.deref.ensures.0) c.rounded.ensures)
      | else-not-same_place w ↦ curved_back k stands same kept w.if-not-same_place.false (rw (← w.segments-is, ← c.deref.ensures.0) c.rounded.ensures)
    ]

-- `fit::closed` meets its contract, by the laws of proofs/Closing.antt. Assumes nothing.
use borrow.Author.Tests.{not-true, not-false}
use Rattle.fit.proofs.Closing.{stands, room, not_started, none_drawn, curved_box, straight_box, ended_led, led_reached, led_few, led_fitted}
use Rattle.fit.proofs.closed.Goals as goal

pub returns-then-not-walk : goal.returns-then-not-walk
returns-then-not-walk c =
    let l = ended_led _ c.requires.ended in
    led_fitted l (not_started l.ended (not-true _ c.if-not-walk.true))

pub closed_count-n-requires : goal.closed_count-n-requires
closed_count-n-requires c = led_few (ended_led _ c.requires.ended)

pub returns-then-n-eq0 : goal.returns-then-n-eq0
returns-then-n-eq0 c =
    let l = ended_led _ c.requires.ended in
    let counts = c.closed_count-n.ensures.counts l.contour (stands l.ended) in
    led_fitted l (none_drawn l.ended (not-false _ c.if-not-walk.false) counts c.if-n-eq0.true)

pub curved-requires-clause-count_lt_most_verbs : goal.curved-requires-clause-count_lt_most_verbs
curved-requires-clause-count_lt_most_verbs c =
    let w = c.args.walk in
    room w.count w.started (led_few (ended_led _ c.requires.ended)) (not-false _ c.if-not-walk.false)

pub curved-requires-clause-reached : goal.curved-requires-clause-reached
curved-requires-clause-reached c = led_reached (ended_led _ c.requires.ended)

pub returns-then-not-walk-2 : goal.returns-then-not-walk-2
returns-then-not-walk-2 c =
    let l = ended_led _ c.requires.ended in
    let counts = c.closed_count-n.ensures.counts l.contour (stands l.ended) in
    led_fitted l
    (curved_box l.ended (not-false _ c.if-not-walk.false) counts c.if-n-eq0.false (not-true _ c.if-not-walk-2.true)
    (c.curved.ensures l.contour l.led (stands l.ended)))

pub returns : goal.returns
returns c =
    let l = ended_led _ c.requires.ended in
    let counts = c.closed_count-n.ensures.counts l.contour (stands l.ended) in
    led_fitted l
    (straight_box l.ended (not-false _ c.if-not-walk.false) counts c.if-n-eq0.false (not-false _ c.if-not-walk-2.false) c.parallelogram.ensures
    c.whole.ensures)

-- `contour::contours` meets its contract. Assumes nothing.
use Prim.Native.Nat.{◌+◌, ◌-◌}
use mathlib.Core.Path.{◌≡◌}
use native.Mathlib.Omega.{arith}
use Rattle.words.proofs.Places.{contour_there, contour_counted}
use Rattle.contour.proofs.Several.{next_room, going_more, going_end}
use Rattle.contour.proofs.contours.Goals as goal

pub returns-in_default : goal.returns-in_default
returns-in_default c =
    absurd (contour_counted (c.args.n - c.loop.counter) c.args.words.now c.loop.at (omega arith) c.loop.invariant.fine
    c.count_at.ensures c.in_default.is)

pub contour-count-requires : goal.contour-count-requires
contour-count-requires c =
    let n = contour_there (c.args.n - c.loop.counter) c.args.words.now c.loop.at (omega arith) c.loop.invariant.fine c.count_at.ensures c.in-Ok.is in
    record {
      fine = n.points;
      n_in_bounds = (next_room c.loop.invariant n c.requires.n_in_bounds.0, c.requires.n_in_bounds.1);
    }

pub overflow_mul-at : goal.overflow_mul-at
overflow_mul-at c = let n = contour_there (c.args.n - c.loop.counter) c.args.words.now c.loop.at (omega arith) c.loop.invariant.fine c.count_at.ensures c.in-Ok.is in omega arith

pub overflow_add-at-in-loop-2 : goal.overflow_add-at-in-loop-2
overflow_add-at-in-loop-2 c = let n = contour_there (c.args.n - c.loop.counter) c.args.words.now c.loop.at (omega arith) c.loop.invariant.fine c.count_at.ensures c.in-Ok.is in omega arith

pub loop-preserved : goal.loop-preserved
loop-preserved c =
    let n = contour_there (c.args.n - c.loop.counter) c.args.words.now c.loop.at (omega arith) c.loop.invariant.fine c.count_at.ensures c.in-Ok.is in
    let left : c.args.n - c.loop.counter - 1 ≡ c.args.n - (c.loop.counter + 1) = omega arith in
    let more = going_more c.loop.invariant n c.contour-count.auto.floats c.contour-count.ensures in
    rw left at more

pub returns : goal.returns
returns c =
    let end = going_end c.loop.invariant (omega arith) in
    record { pushed = end.0; at_value = end.1 }

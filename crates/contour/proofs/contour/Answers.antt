-- `contour::contour` meets its contract: the walk around the contour. Assumes nothing.
use mathlib.Core.Path.{◌≡◌, refl, ◌∙◌}
use Prim.Native.Nat.{◌+◌, ◌*◌}
use native.Mathlib.Omega.{arith}
use Rattle.word_list.specs.Words.{read_points}
use Rattle.edge.proofs.Pushing.{pushed_none}
use Rattle.contour.specs.Contours.{contour_of}
use Rattle.contour.proofs.Walking.{walk_start, walk_more, walk_end, walk_inside, last_there, points_read, positive}
use Rattle.contour.proofs.contour.Goals as goal

pub returns-then-n-eq0 : goal.returns-then-n-eq0
unfolding contour_of read_points
returns-then-n-eq0 c = rw c.if-n-eq0.true pushed_none

pub overflow_add-last : goal.overflow_add-last
overflow_add-last c = let p = last_there c.args.words.now c.args.at c.args.n c.requires.fine (positive c.args.n c.if-n-eq0.false) in omega arith

pub point_at-from-requires : goal.point_at-from-requires
point_at-from-requires c = let p = (last_there c.args.words.now c.args.at c.args.n c.requires.fine (positive c.args.n c.if-n-eq0.false)).there in
    record {
      at_in_bounds = omega arith;
      pos_value = (p.x_in_limit, p.y_in_limit);
    }

pub loop-i-init : goal.loop-i-init
loop-i-init c =
    let first : c.args.at + 2 * 0 ≡ c.args.at = omega arith in
    (refl, rw first (walk_start (positive c.args.n c.if-n-eq0.false) c.point_at-from.ensures.0 c.point_at-from.ensures.1))

pub overflow_add-at : goal.overflow_add-at
overflow_add-at c = let p = walk_inside c.args.words.now c.args.at c.args.n c.requires.fine c.loop-i.invariant.1 (omega arith) in omega arith

pub point_at-to-requires : goal.point_at-to-requires
point_at-to-requires c = let p = (walk_inside c.args.words.now c.args.at c.args.n c.requires.fine c.loop-i.invariant.1 (omega arith)).there in
    record {
      at_in_bounds = omega arith;
      pos_value = (p.x_in_limit, p.y_in_limit);
    }

pub loop-i-preserved : goal.loop-i-preserved
loop-i-preserved c =
    let next : c.args.at + 2 * c.loop-i.i + 2 ≡ c.args.at + 2 * (c.loop-i.i + 1) = omega arith in
    let more = walk_more c.loop-i.invariant.1 (omega arith) c.point_at-to.ensures.0 c.point_at-to.ensures.1 c.push-count.ensures in
    (c.push-count.auto.floats ∙ c.loop-i.invariant.0, rw next at more)

pub returns : goal.returns
returns c =
    let args = c.args in
    rw (points_read args.words.now args.at args.n c.requires.fine).0 (walk_end c.loop-i.invariant.1 (omega arith))

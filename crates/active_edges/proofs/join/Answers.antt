-- `active_edges::join` meets its contract: the active edges, and what is left of the row's list. Assumes nothing.
use mathlib.Core.Path.{refl}
use native.Mathlib.Omega.{arith}
use lib.ListN.{length}
use borrow.Author.Rules.{scaled_Fits}
use Rattle.active_edges.proofs.Joining.{join_start, join_room, join_falls, join_turn, join_done}
use Rattle.active_edges.proofs.join.Goals as goal

pub loop-at-init : goal.loop-at-init
loop-at-init c = join_start c.requires

pub overflow_mul-k : goal.overflow_mul-k
overflow_mul-k c = let r = join_room c.requires c.loop-at.invariant c.loop-at-test.true in omega arith

pub overflow_add-l : goal.overflow_add-l
overflow_add-l c = let r = join_room c.requires c.loop-at.invariant c.loop-at-test.true in omega arith

pub load-e-requires : goal.load-e-requires
load-e-requires c = let r = join_room c.requires c.loop-at.invariant c.loop-at-test.true in omega arith

pub store-requires : goal.store-requires
store-requires c = let r = join_room c.requires c.loop-at.invariant c.loop-at-test.true in omega arith

pub overflow_add-next : goal.overflow_add-next
overflow_add-next c = let r = join_room c.requires c.loop-at.invariant c.loop-at-test.true in omega arith

pub offset_bounds-floats-next : goal.offset_bounds-floats-next
offset_bounds-floats-next c =
    let r = join_room c.requires c.loop-at.invariant c.loop-at-test.true in
    let long = c.loop-at.invariant.long in
    scaled_Fits _ (length c.args.floats.now) 4 (omega arith) c.well_formed.0.1

pub bounds-floats-next : goal.bounds-floats-next
bounds-floats-next c =
    let r = join_room c.requires c.loop-at.invariant c.loop-at-test.true in
    let k = c.store.auto.floats in
    omega arith

pub loop-at-smaller : goal.loop-at-smaller
loop-at-smaller c =
    join_falls c.requires c.loop-at.invariant c.loop-at-test.true
    c.load-e.ensures c.store.ensures c.to_column-at.ensures

pub loop-at-preserved : goal.loop-at-preserved
loop-at-preserved c =
    join_turn c.requires c.loop-at.invariant c.loop-at-test.true
    c.load-e.ensures c.store.ensures c.to_column-at.ensures

pub returns : goal.returns
returns c =
    record {
      joined = join_done c.requires c.loop-at.invariant (omega arith);
      heads_after = refl;
    }

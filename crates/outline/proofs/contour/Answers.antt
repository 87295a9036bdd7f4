-- `outline::contour` meets its contract: the walk so far stands for a contour, from which the verbs left lead to
-- where all lead. Assumes nothing.
use mathlib.Core.Path.{sym, ap, ◌∙◌}
use Prim.Native.Nat.{◌*◌}
use Rattle.outline.proofs.Contouring.{begins, has_room, bad_byte, room, stops, goes}
use Rattle.outline.proofs.Ends.{no_ends, ends_kept, ends_all}
use native.Mathlib.Omega.{arith}
use Rattle.outline.proofs.contour.Goals as goal

pub loop-byte-init : goal.loop-byte-init
loop-byte-init c = begins (no_ends (omega arith)) c.args.outline.fits c.new-walk.ensures

pub offset_bounds-points-walk : goal.offset_bounds-points-walk
offset_bounds-points-walk c = let n = has_room c.loop-byte.invariant c.args.outline.few in omega arith

pub bounds-points-walk : goal.bounds-points-walk
bounds-points-walk c = has_room c.loop-byte.invariant c.args.outline.few

pub returns-in_default : goal.returns-in_default
returns-in_default c =
    rw (bad_byte c.loop-byte.invariant c.loop-byte-test.true (sym c.try_from.ensures ∙ c.in_default.is))

pub from_packed-requires : goal.from_packed-requires
from_packed-requires c =
    room c.loop-byte.invariant c.loop-byte-test.true (sym c.try_from.ensures ∙ c.in-Ok.is)

pub step-requires : goal.step-requires
step-requires c = has_room c.loop-byte.invariant c.args.outline.few

pub returns-in_default-step : goal.returns-in_default-step
returns-in_default-step c =
    let u = sym c.try_from.ensures ∙ c.in-Ok.is in
    rw (stops c.loop-byte.invariant c.loop-byte-test.true u c.from_packed.ensures c.step.ensures c.in_default-step.is)

pub loop-byte-preserved : goal.loop-byte-preserved
loop-byte-preserved c =
    let u = sym c.try_from.ensures ∙ c.in-Ok.is in
    let keeps = ends_kept c.loop-byte.invariant c.args.outline.few c.from_packed.result in
    goes c.loop-byte.invariant c.loop-byte-test.true u c.from_packed.ensures c.step.ensures c.in-Some.is
    (ap (λ n. 2 * n) c.num_coordinates.ensures) keeps

pub offset_bounds-points-walk-2 : goal.offset_bounds-points-walk-2
offset_bounds-points-walk-2 c = let n = has_room c.loop-byte.invariant c.args.outline.few in omega arith

pub bounds-points-walk-2 : goal.bounds-points-walk-2
bounds-points-walk-2 c = has_room c.loop-byte.invariant c.args.outline.few

pub returns : goal.returns
returns c = ends_all c.loop-byte.invariant c.args.outline.few c.loop-byte-test.false

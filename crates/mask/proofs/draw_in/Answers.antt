-- `mask::draw_in` meets its contract. Assumes nothing.
use mathlib.Core.Path.{refl, sym, ap, ◌∙◌}
use mathlib.Core.List.{List, ◌++◌}
use Prim.Native.Nat.{ℕ, ◌≤◌}
use native.Mathlib.Omega.{arith}
use lib.ListN.{length, drop}
use lib.Seq.{length-take-le}
use Rattle.cells.specs.Cells.{cells_of}
use Rattle.cells.proofs.Sizes.{allowed_small, cells_fit, cells_long}
use Rattle.ink.specs.Lent.{lent, ink_needed}
use Rattle.word_list.specs.Words.{groups_of}
use Rattle.coverage.specs.Scratch.{floats_needed, counters_needed}
use Rattle.coverage.proofs.Places.{drawing_length}
use Rattle.mask.specs.Calls.{drawing}
use Rattle.mask.specs.Laws.{is_done, is_refused}
use Rattle.fault.specs.declared.Fault.TheVariants.{BufferTooShort}
use Rattle.mask.proofs.Causes.{can_draw, cannot_draw}
use Rattle.mask.proofs.Scratch.{floats_short, counters_short, scratch_enough, room_there}
use Rattle.ink.proofs.Written.{written_ink}
use Rattle.mask.proofs.draw_in.Goals as goal

pub returns-then-floats-floats_needed : goal.returns-then-floats-floats_needed
returns-then-floats-floats_needed c =
    let d = drawing c.args.size c.args.words.now c.args.floats.now c.args.counters.now in
    let l = lent c.args.mask.now c.args.ink.now in
    let cause = floats_short d l c.requires.size_allowed.0 c.requires.size_allowed.1 c.requires.list_counted (omega (arith, c.floats_needed.ensures)) in
    record {
      value = sym (cannot_draw d l BufferTooShort cause);
      mask_after = refl;
      ink_after = refl;
      floats_after = refl;
      counters_after = refl;
      draw_number = is_refused cause;
    }

pub returns-then-counters-counters_needed : goal.returns-then-counters-counters_needed
returns-then-counters-counters_needed c =
    let d = drawing c.args.size c.args.words.now c.args.floats.now c.args.counters.now in
    let l = lent c.args.mask.now c.args.ink.now in
    let cause = counters_short d l c.requires.size_allowed.0 c.requires.size_allowed.1 c.requires.list_counted (omega (arith, c.counters_needed.ensures)) in
    record {
      value = sym (cannot_draw d l BufferTooShort cause);
      mask_after = refl;
      ink_after = refl;
      floats_after = refl;
      counters_after = refl;
      draw_number = is_refused cause;
    }

pub overflow_mul-cells : goal.overflow_mul-cells
overflow_mul-cells c =
    let fit = cells_fit c.args.size (allowed_small c.args.size c.requires.size_allowed.0) in
    omega arith

pub slice_bounds-draw-end : goal.slice_bounds-draw-end
slice_bounds-draw-end c = c.requires.size_allowed.1.cells

pub slice_bounds-draw-end-2 : goal.slice_bounds-draw-end-2
slice_bounds-draw-end-2 c = cells_long c.args.size c.args.mask.now c.requires.size_allowed.1.cells

pub slice_bounds-draw-end-3 : goal.slice_bounds-draw-end-3
slice_bounds-draw-end-3 c = c.requires.size_allowed.1.ink

pub slice_bounds-draw-end-4 : goal.slice_bounds-draw-end-4
slice_bounds-draw-end-4 c = sym (length-take-le (ink_needed c.args.size) c.args.ink.now c.requires.size_allowed.1.ink)

pub draw-requires : goal.draw-requires
draw-requires c =
    let pre = c.requires in
    let floats : floats_needed c.args.size c.args.points ≤ length c.args.floats.now = omega (arith, c.floats_needed.ensures) in
    let counters : counters_needed c.args.size ≤ length c.args.counters.now = omega (arith, c.counters_needed.ensures) in
    record {
      room = room_there c.args.mask.now pre.size_allowed.0 pre.list_counted.few pre.size_allowed.1.cells floats counters;
      list_counted = pre.list_counted;
      ink_len = length-take-le (ink_needed c.args.size) c.args.ink.now pre.size_allowed.1.ink;
    }

pub returns : goal.returns
returns c =
    let size = c.args.size in
    let pre = c.requires in
    let d = drawing c.args.size c.args.words.now c.args.floats.now c.args.counters.now in
    let l = lent c.args.mask.now c.args.ink.now in
    let floats : floats_needed size c.args.points ≤ length c.args.floats.now = omega (arith, c.floats_needed.ensures) in
    let counters : counters_needed size ≤ length c.args.counters.now = omega (arith, c.counters_needed.ensures) in
    let can = scratch_enough d l pre.size_allowed.0 pre.size_allowed.1 pre.list_counted floats counters in
    let cells = ap (λ (front : List ℕ). front ++ drop (cells_of size) c.args.mask.now) c.draw.ensures.mask_after in
    let numbers = c.draw.ensures.ink_after ∙ written_ink size _ c.args.mask.now (ap length c.draw.ensures.mask_after ∙ drawing_length size (groups_of c.args.words.now)) in
    let ink = ap (λ (front : List ℕ). front ++ drop (ink_needed size) c.args.ink.now) numbers in
    record {
      value = sym (can_draw d l can);
      mask_after = cells;
      ink_after = ink;
      floats_after = c.draw.ensures.floats_after;
      counters_after = c.draw.ensures.counters_after;
      draw_number = is_done can;
    }

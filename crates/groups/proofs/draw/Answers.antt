-- `groups::draw` meets its contract. Assumes nothing.
use mathlib.Core.Path.{ap, ◌∙◌}
use Prim.Native.Nat.{ℕ}
use lib.ListN.{length, replicate}
use Rattle.float.specs.Ops.{f0}
use Rattle.ink.proofs.Kept.{kept_zeros, kept_all}
use Rattle.groups.proofs.Cleared.{prefix, floats_long, counters_long, cleared_room, cleared_clean, cleared_zeros}
use Rattle.groups.proofs.draw.Goals as goal

pub slice_bounds-fill-end-2 : goal.slice_bounds-fill-end-2
slice_bounds-fill-end-2 c = prefix c.requires.room

pub draw_groups-requires : goal.draw_groups-requires
draw_groups-requires c =
    let args = c.args in
    let bytes = c.fill.ensures.after (λ y e. e) in
    let ink = c.fill-2.ensures.after (λ y e. e) in
    let floats = c.fill-3.ensures.after (λ y e. e) in
    let counters = c.fill-4.ensures.after (λ y e. e) in
    let kept = kept_zeros (length args.mask.now) (length args.ink.now) bytes ink (c.fill-2.auto.self ∙ c.requires.ink_len) in
    record {
      room = cleared_room c.requires.room bytes floats counters;
      clean = cleared_clean c.requires.room bytes floats counters;
      mask_value = cleared_zeros c.requires.room bytes floats counters;
      list_counted = c.requires.list_counted;
      ink_kept = kept;
    }

pub returns : goal.returns
returns c =
    let room = c.requires.room in
    let bytes = c.fill.ensures.after (λ y e. e) in
    let floats = c.fill-3.ensures.after (λ y e. e) in
    let counters = c.fill-4.ensures.after (λ y e. e) in
    record {
      mask_after = c.draw_groups.ensures.mask_after;
      floats_after = c.fill-5.ensures.after (λ y e. e) ∙ ap (λ (n : ℕ). replicate n f0) (c.draw_groups.auto.floats ∙ floats_long room bytes floats counters);
      counters_after = c.fill-6.ensures.after (λ y e. e) ∙ ap (λ (n : ℕ). replicate n 0) (c.draw_groups.auto.counters ∙ counters_long room bytes floats counters);
      ink_after = kept_all c.draw_groups.ensures.ink_kept_2;
    }

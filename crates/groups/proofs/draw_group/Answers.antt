-- `groups::draw_group` meets its contract. Assumes nothing.
use mathlib.Core.Path.{sym, ap, ◌∙◌}
use Rattle.word_reader.specs.Reader.{is_even_odd}
use Rattle.word_reader.proofs.Reader.{word_here}
use Rattle.groups.specs.Steps.{group_at}
use Rattle.groups.proofs.OneGroup.{group_read, group_counted, contours_fine, contours_inside, contours_room, contours_end, stored_few, stored_clean, stored_room, stored, some_stored}
use Rattle.groups.proofs.draw_group.Goals as goal

pub returns-in_default : goal.returns-in_default
returns-in_default c =
    let group = c.requires.group_fine in
    absurd (group_counted group c.head_at-head.ensures.1 c.in_default.is)

pub contours-stored-requires : goal.contours-stored-requires
contours-stored-requires c =
    let room = c.requires.room in
    let group = c.requires.group_fine in
    let read = group_read group c.head_at-head.ensures.1 c.in-Ok.is in
    record {
      fine = contours_fine room group read;
      from_in_bounds = contours_inside room group read;
      n_in_bounds = (contours_room room group read, room.size_allowed.1);
    }

pub resolve-requires : goal.resolve-requires
resolve-requires c =
    let args = c.args in
    let room = c.requires.room in
    let group = c.requires.group_fine in
    let long = c.contours-stored.auto.floats in
    let rule = c.head_at-head.ensures.0 ∙ ap is_even_odd (sym (word_here args.words.now args.at group.inside)) in
    let read = group_read group c.head_at-head.ensures.1 c.in-Ok.is in
    record {
      room = stored_room room group read long c.contours-stored.ensures.pushed;
      clean = stored_clean room group read long c.contours-stored.ensures.pushed c.requires.clean;
      count_le_points = (stored_few room group read long c.contours-stored.ensures.pushed, some_stored room group read long c.contours-stored.ensures.pushed rule);
      ink_kept = c.requires.ink_kept;
    }

pub returns : goal.returns
returns c =
    let args = c.args in
    let room = c.requires.room in
    let group = c.requires.group_fine in
    let rule = c.head_at-head.ensures.0 ∙ ap is_even_odd (sym (word_here args.words.now args.at group.inside)) in
    let read = group_read group c.head_at-head.ensures.1 c.in-Ok.is in
    record {
      mask_after = c.resolve.ensures.mask_after (group_at args.words.now args.at) (stored room group read c.contours-stored.auto.floats c.contours-stored.ensures.pushed rule);
      value = c.contours-stored.ensures.at_value ∙ contours_end room group read;
      clean_2 = c.resolve.ensures.clean_2;
      ink_kept_2 = c.resolve.ensures.ink_kept_2;
    }

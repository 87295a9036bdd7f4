-- `mask::rasterize_into` meets its contract. Assumes nothing.
use mathlib.Core.Path.{refl, sym, ◌∙◌}
use lib.ListN.{length}
use Rattle.fault.specs.declared.Fault.TheVariants.{MaskTooLarge, BufferTooShort}
use Rattle.word_list.specs.Words.{points_in, read_words}
use Rattle.words.proofs.Steps.{exits, scan_fault}
use Rattle.list_fault.proofs.ListFault.{list_fault as list_fault_law}
use Rattle.cells.proofs.Sizes.{size_allowed, size_large}
use Rattle.ink.specs.Lent.{lent}
use Rattle.ink.proofs.Lent.{lent_enough, lent_short_law as short_told}
use Rattle.mask.specs.Calls.{drawing}
use Rattle.mask.specs.Laws.{too_large_law, lent_short_law, list_fault, is_refused}
use Rattle.mask.proofs.Causes.{cannot_draw}
use Rattle.mask.proofs.Scratch.{list_counted}
use Rattle.mask.proofs.rasterize_into.Goals as goal

pub returns-then-is_too_large : goal.returns-then-is_too_large
returns-then-is_too_large c =
    let d = drawing c.args.mask_record.size c.args.words.now c.args.floats.now c.args.counters.now in
    let l = lent c.args.mask.now c.args.ink.now in
    let cause = too_large_law (size_large c.args.mask_record.size (sym c.is_too_large.ensures ∙ c.if-is_too_large.true)) in
    record {
      answer = sym (cannot_draw d l MaskTooLarge cause);
      cells = refl;
      ink = refl;
      floats = refl;
      counters = refl;
      number = is_refused cause;
    }

pub lent_short-requires : goal.lent_short-requires
lent_short-requires c = size_allowed c.args.mask_record.size (sym c.is_too_large.ensures ∙ c.if-is_too_large.false)

pub returns-then-lent_short : goal.returns-then-lent_short
returns-then-lent_short c =
    let d = drawing c.args.mask_record.size c.args.words.now c.args.floats.now c.args.counters.now in
    let l = lent c.args.mask.now c.args.ink.now in
    let allowed = size_allowed c.args.mask_record.size (sym c.is_too_large.ensures ∙ c.if-is_too_large.false) in
    let cause = lent_short_law allowed (short_told c.args.mask_record.size l (sym c.lent_short.ensures ∙ c.if-lent_short.true)) in
    record {
      answer = sym (cannot_draw d l BufferTooShort cause);
      cells = refl;
      ink = refl;
      floats = refl;
      counters = refl;
      number = is_refused cause;
    }

pub draw_in-requires : goal.draw_in-requires
draw_in-requires c =
    let size = c.args.mask_record.size in
    let l = lent c.args.mask.now c.args.ink.now in
    record {
      size_allowed = (size_allowed size (sym c.is_too_large.ensures ∙ c.if-is_too_large.false), lent_enough size l (sym c.lent_short.ensures ∙ c.if-lent_short.false));
      list_counted = list_counted c.args.words.now _ _ (sym c.read_words.ensures ∙ c.in_ok-scan.was);
    }

pub returns-in_err-scan : goal.returns-in_err-scan
returns-in_err-scan c =
    let d = drawing c.args.mask_record.size c.args.words.now c.args.floats.now c.args.counters.now in
    let l = lent c.args.mask.now c.args.ink.now in
    let words = c.args.words.now in
    let f = c.in_err-scan.field-0.0 in
    let allowed = size_allowed c.args.mask_record.size (sym c.is_too_large.ensures ∙ c.if-is_too_large.false) in
    let enough = lent_enough c.args.mask_record.size l (sym c.lent_short.ensures ∙ c.if-lent_short.false) in
    let read = scan_fault (length words) points_in 0 (read_words words) f (sym c.read_words.ensures ∙ c.in_err-scan.was) in
    let cause = list_fault allowed enough (list_fault_law.only words f read) in
    rw (exits c.from_residual.result f c.from_residual.ensures.1) (record {
      answer = sym (cannot_draw d l f cause);
      cells = refl;
      ink = refl;
      floats = refl;
      counters = refl;
      number = is_refused cause;
    })

pub returns : goal.returns
returns c =
    let done = c.draw_in.ensures in
    record {
      answer = done.value;
      cells = done.mask_after;
      ink = done.ink_after;
      floats = done.floats_after;
      counters = done.counters_after;
      number = done.draw_number;
    }

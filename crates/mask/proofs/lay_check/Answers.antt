-- `mask::lay_check` meets its contract. Assumes nothing.
use mathlib.Core.Path.{sym, ◌∙◌}
use mathlib.Core.Logic.{inl, inr}
use native.Mathlib.Omega.{arith}
use Rattle.fault.specs.declared.Fault.TheVariants.{MaskTooLarge, BufferTooShort}
use Rattle.cells.proofs.Sizes.{size_allowed, size_large, cells_fit}
use Rattle.ink.specs.Lent.{Lent}
use Rattle.ink.proofs.Lent.{lent_enough, lent_short_law}
use Rattle.laying.specs.Laying.{laying}
use Rattle.mask.specs.Laws.{either_too_large, either_short}
use Rattle.mask.proofs.LayCauses.{can_lay, cannot_lay}
use Rattle.mask.proofs.lay_check.Goals as goal
use Rattle.mask.proofs.lay_check.Goals.{then-lent_short-via-then-lent_short, then-lent_short-via-else-lent_short+then-other_length-other_size}
use Rattle.mask.proofs.lay_check.Goals.{then-is_too_large-via-then-is_too_large, then-is_too_large-via-else-is_too_large+then-is_too_large-2}
use mathlib.Core.Logic.{◌⊎◌}
use Prim.Native.Nat.{◌<◌}
use Rattle.ink.specs.Lent.{LentShort}
use Rattle.cells.specs.Cells.{cells_of, TooLarge}

pub returns-then-is_too_large : goal.returns-then-is_too_large
returns-then-is_too_large c =
    let args = c.args in
    let cause : TooLarge args.size ⊎ TooLarge args.other_size =
    elim c.then-is_too_large.branch [
      | then-is_too_large-via-then-is_too_large w ↦ inl (size_large args.size (sym c.is_too_large.ensures ∙ w.if-is_too_large.true))
      | then-is_too_large-via-else-is_too_large+then-is_too_large-2 w ↦ inr (size_large args.other_size (sym w.is_too_large-else-is_too_large.ensures ∙ w.if-is_too_large-2.true))
    ] in
    record { tells = λ offset. cannot_lay (laying args.size args.other_size offset) _ _ MaskTooLarge (either_too_large cause) }

pub lent_short-requires : goal.lent_short-requires
lent_short-requires c =
    size_allowed c.args.size (sym c.is_too_large.ensures ∙ c.if-is_too_large.false)

pub overflow_mul-other_size : goal.overflow_mul-other_size
overflow_mul-other_size c =
    let l = cells_fit c.args.other_size (sym c.is_too_large-else-is_too_large.ensures ∙ c.if-is_too_large-2.false) in
    omega arith

pub returns-then-lent_short : goal.returns-then-lent_short
returns-then-lent_short c =
    let args = c.args in
    let own = size_allowed args.size (sym c.is_too_large.ensures ∙ c.if-is_too_large.false) in
    let other = size_allowed args.other_size (sym c.is_too_large-else-is_too_large.ensures ∙ c.if-is_too_large-2.false) in
    let l : Lent = record { mask = args.mask_length; ink = args.ink_length } in
    let short : LentShort args.size l ⊎ (args.other_length < cells_of args.other_size) =
    elim c.then-lent_short.branch [
      | then-lent_short-via-then-lent_short w ↦ inl (lent_short_law args.size l (sym c.lent_short.ensures ∙ w.if-lent_short.true))
      | then-lent_short-via-else-lent_short+then-other_length-other_size w ↦ inr (w.if-other_length-other_size.true)
    ] in
    record { tells = λ offset. cannot_lay (laying args.size args.other_size offset) _ _ BufferTooShort (either_short own other short) }

pub returns : goal.returns
returns c =
    let args = c.args in
    let l : Lent = record { mask = args.mask_length; ink = args.ink_length } in
    record {
      tells = λ offset. can_lay (laying args.size args.other_size offset) _ _ (record {
        size_allowed = size_allowed args.size (sym c.is_too_large.ensures ∙ c.if-is_too_large.false);
        other_allowed = size_allowed args.other_size (sym c.is_too_large-else-is_too_large.ensures ∙ c.if-is_too_large-2.false);
        enough = lent_enough args.size l (sym c.lent_short.ensures ∙ c.if-lent_short.false);
        other_cells = c.if-other_length-other_size.false;
      });
    }

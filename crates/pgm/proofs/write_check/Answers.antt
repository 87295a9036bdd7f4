-- `pgm::write_check` meets its contract. Assumes nothing.
use mathlib.Core.Path.{◌≡◌, refl, sym, ◌∙◌}
use mathlib.Core.Bool.{false}
use mathlib.Core.Logic.{◌⊎◌, inl, inr}
use Prim.Native.Nat.{◌<◌}
use native.Mathlib.Omega.{arith}
use Rattle.fault.specs.declared.Fault.TheVariants.{BufferTooShort}
use Rattle.cells.specs.Cells.{cells_of, too_large}
use Rattle.cells.proofs.Sizes.{size_allowed, cells_fit}
use Rattle.pgm_writer.proofs.Texts.{decimal_short, header_length}
use Rattle.pgm.specs.Calls.{no_cells, file_length}
use Rattle.pgm.specs.Laws.{either_short}
use Rattle.pgm.proofs.Writing.{has_cells, can_write, cannot_write}
use Rattle.pgm.proofs.write_check.Goals as goal
use Rattle.pgm.proofs.write_check.Goals.{then-mask-cells-via-then-mask-cells, then-mask-cells-via-else-mask-cells+then-file-header_length}

pub returns-then-has_no_cells : goal.returns-then-has_no_cells
returns-then-has_no_cells c = rw (← c.has_no_cells.ensures, c.if-has_no_cells.true) refl

pub returns-then-is_too_large : goal.returns-then-is_too_large
returns-then-is_too_large c =
    rw (← c.has_no_cells.ensures, c.if-has_no_cells.false, ← c.is_too_large.ensures, c.if-is_too_large.true) refl

pub overflow_mul-cells : goal.overflow_mul-cells
overflow_mul-cells c =
    let small : too_large c.args.size ≡ false = sym c.is_too_large.ensures ∙ c.if-is_too_large.false in
    let l = cells_fit c.args.size small in omega arith

pub header_length-requires : goal.header_length-requires
header_length-requires c =
    let some : no_cells c.args.size ≡ false = sym c.has_no_cells.ensures ∙ c.if-has_no_cells.false in
    let small : too_large c.args.size ≡ false = sym c.is_too_large.ensures ∙ c.if-is_too_large.false in
    (has_cells c.args.size some, size_allowed c.args.size small)

pub overflow_add-header_length : goal.overflow_add-header_length
overflow_add-header_length c =
    let small : too_large c.args.size ≡ false = sym c.is_too_large.ensures ∙ c.if-is_too_large.false in
    let size = c.args.size in
    let h = c.header_length.ensures in
    omega (arith, header_length size, decimal_short size.width, decimal_short size.height, cells_fit size small)

pub returns-then-mask-cells : goal.returns-then-mask-cells
returns-then-mask-cells c =
    let some : no_cells c.args.size ≡ false = sym c.has_no_cells.ensures ∙ c.if-has_no_cells.false in
    let small : too_large c.args.size ≡ false = sym c.is_too_large.ensures ∙ c.if-is_too_large.false in
    let args = c.args in
    let short : (c.args.mask < cells_of c.args.size) ⊎ (c.args.file < file_length c.args.size) =
    elim c.then-mask-cells.branch [
      | then-mask-cells-via-then-mask-cells w ↦ inl w.if-mask-cells.true
      | then-mask-cells-via-else-mask-cells+then-file-header_length w ↦ inr (let h = w.header_length.ensures in omega (arith, w.if-file-header_length.true))
    ] in
    sym (cannot_write args.size args.mask args.file BufferTooShort (either_short (has_cells args.size some) (size_allowed args.size small) short))

pub returns : goal.returns
returns c =
    let some : no_cells c.args.size ≡ false = sym c.has_no_cells.ensures ∙ c.if-has_no_cells.false in
    let small : too_large c.args.size ≡ false = sym c.is_too_large.ensures ∙ c.if-is_too_large.false in
    let args = c.args in
    sym (can_write args.size args.mask args.file (record {
      has_cells = has_cells args.size some;
      size_allowed = size_allowed args.size small;
      cells = c.if-mask-cells.false;
      room = let e = c.header_length.ensures in omega (arith, c.if-file-header_length.false);
    }))

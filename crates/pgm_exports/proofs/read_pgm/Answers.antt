-- `pgm_exports::read_pgm` meets its contract. Assumes nothing.
use Rattle.std.specs.Prelude.{Result, Ok, Err}
use mathlib.Core.Path.{◌≡◌, refl, ◌∙◌}
use mathlib.Core.Bool.{true}
use mathlib.Core.Logic.{◌⊎◌, inl, inr}
use mathlib.Core.List.{List}
use Prim.Native.Nat.{ℕ, ◌<◌}
use lib.IntN.{ℤ}
use lib.ListN.{length}
use borrow.Author.Tests.{le-ltb}
use Rattle.ink.specs.Lent.{lent}
use Rattle.pgm.specs.Calls.{read_call, mask_after_reading, ink_after_reading}
use Rattle.boundary.specs.Answers.{size_after, corner_after}
use Rattle.pgm_exports.specs.Calls.{record_short}
use Rattle.pgm_exports.proofs.Laws.{short_true}
use Rattle.pgm_exports.proofs.read_pgm.Goals as goal
use Rattle.fault.specs.declared.Fault.{Fault}
use Rattle.pgm_exports.proofs.read_pgm.Goals.{then-size-lt-SIZE-via-then-size-lt-SIZE, then-size-lt-SIZE-via-else-size-lt-SIZE+then-corner-lt-CORNER}
use Rattle.cells.specs.declared.MaskRecord.{MaskRecord}

-- where too little is lent for the record, nothing is changed
mask_kept : (a : Result MaskRecord Fault) (file mask : List ℕ) → mask ≡ mask_after_reading (record_short true a) file mask
mask_kept (Ok r) file mask = refl
mask_kept (Err f) file mask = refl

ink_kept : (a : Result MaskRecord Fault) (mask ink : List ℕ) → ink ≡ ink_after_reading (record_short true a) mask ink
ink_kept (Ok r) mask ink = refl
ink_kept (Err f) mask ink = refl

size_kept : (a : Result MaskRecord Fault) (lent : List ℕ) → lent ≡ size_after (record_short true a) lent
size_kept (Ok r) lent = refl
size_kept (Err f) lent = refl

corner_kept : (a : Result MaskRecord Fault) (lent : List ℤ) → lent ≡ corner_after (record_short true a) lent
corner_kept (Ok r) lent = refl
corner_kept (Err f) lent = refl

pub returns-then-size-lt-SIZE : goal.returns-then-size-lt-SIZE
returns-then-size-lt-SIZE c =
    let args = c.args in
    let a = read_call args.file.now (lent args.mask.now args.ink.now) in
    let short : (length args.size.now < 2) ⊎ (length args.corner.now < 2) =
    elim c.then-size-lt-SIZE.branch [
      | then-size-lt-SIZE-via-then-size-lt-SIZE w ↦ inl w.if-size-lt-SIZE.true
      | then-size-lt-SIZE-via-else-size-lt-SIZE+then-corner-lt-CORNER w ↦ inr w.if-corner-lt-CORNER.true
    ] in
    rw (short_true (length args.size.now) (length args.corner.now) short)
    (record {
      number = c.refuse.ensures.value;
      cells = c.refuse.ensures.mask_unchanged ∙ mask_kept a args.file.now args.mask.now;
      ink = c.refuse.ensures.ink_unchanged ∙ ink_kept a _ args.ink.now;
      size = size_kept a args.size.now;
      corner = corner_kept a args.corner.now;
    })

pub hand_record-requires : goal.hand_record-requires
hand_record-requires c = (c.if-size-lt-SIZE.false, c.if-corner-lt-CORNER.false)

pub returns : goal.returns
returns c =
    let args = c.args in
    let ink = rw c.read_pgm.ensures.cells at c.read_pgm.ensures.ink in
    rw (le-ltb (length args.size.now) 2 c.if-size-lt-SIZE.false, le-ltb (length args.corner.now) 2 c.if-corner-lt-CORNER.false, ← c.read_pgm.ensures.answer)
    (record {
      number = c.hand_record.ensures.value;
      cells = c.read_pgm.ensures.cells;
      ink = ink;
      size = c.hand_record.ensures.size_after;
      corner = c.hand_record.ensures.corner_after;
    })

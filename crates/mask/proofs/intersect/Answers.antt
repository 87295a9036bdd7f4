-- `mask::intersect` meets its contract. Assumes nothing.
use mathlib.Core.Path.{◌≡◌, refl, sym, ap, ◌∙◌, subst}
use mathlib.Core.List.{List, ◌++◌}
use Prim.Native.Nat.{ℕ}
use native.Mathlib.Omega.{arith}
use lib.ListN.{length, take, drop}
use Rattle.cells.specs.Cells.{cells_of}
use Rattle.cells.proofs.Sizes.{allowed_small, cells_fit, cells_long}
use Rattle.ink.specs.Lent.{Lent, lent}
use Rattle.laying.specs.Laying.{Laying, laying, laying_of}
use Rattle.laying.proofs.Laid.{laying_front, laying_length}
use Rattle.mask.specs.Calls.{outcome_number, lay_answer}
use Rattle.mask.specs.Laws.{CanLay, LayNumber}
use Rattle.fault.specs.Check.{Check}
use Rattle.words.proofs.Steps.{exits}
use Rattle.mask.proofs.LayCauses.{laid_exactly_when}
use Rattle.mask.proofs.Numbers.{numbers_exactly_when}
use Rattle.ink.proofs.Written.{still_enough}
use Rattle.mask.proofs.intersect.Goals as goal

-- the number of an answer
told : (l : Laying) (lent : Lent) (other : ℕ) {o : Check} → lay_answer l lent other ≡ o → LayNumber l lent other (outcome_number o)
told l lent other e = subst (λ (o : Check). LayNumber l lent other (outcome_number o)) e (numbers_exactly_when.lay_only l lent other)

-- the mask, with the cells that were laid
laid : (l : Laying) (mask other : List ℕ) {front : List ℕ} → front ≡ laying_of l (take (cells_of l.size) mask) other
    → front ++ drop (cells_of l.size) mask ≡ laying_of l mask other ++ drop (cells_of l.size) mask
laid l mask other e = ap (λ (cells : List ℕ). cells ++ drop (cells_of l.size) mask) (e ∙ laying_front l mask other)

pub returns-in_err-lay_check : goal.returns-in_err-lay_check
returns-in_err-lay_check c =
    let args = c.args in
    let l = laying args.size args.other_size args.offset in
    let answer = c.lay_check.ensures.tells args.offset ∙ c.in_err-lay_check.was in
    rw (exits c.from_residual.result c.in_err-lay_check.field-0.0 c.from_residual.ensures.1) (record {
      answer = sym answer;
      cells = refl;
      ink = refl;
      number = told l (lent args.mask.now args.ink.now) (length args.other.now) answer;
    })

pub overflow_mul-cells : goal.overflow_mul-cells
overflow_mul-cells c =
    let l = laying c.args.size c.args.other_size c.args.offset in
    let answered = c.lay_check.ensures.tells c.args.offset ∙ c.in_ok-lay_check.was in
    let can : CanLay l (lent c.args.mask.now c.args.ink.now) (length c.args.other.now) = laid_exactly_when.done_only l _ _ answered in
    let h = cells_fit c.args.size (allowed_small c.args.size can.size_allowed) in
    omega arith

pub slice_bounds-lay-end : goal.slice_bounds-lay-end
slice_bounds-lay-end c =
    let l = laying c.args.size c.args.other_size c.args.offset in
    let answered = c.lay_check.ensures.tells c.args.offset ∙ c.in_ok-lay_check.was in
    let can : CanLay l (lent c.args.mask.now c.args.ink.now) (length c.args.other.now) = laid_exactly_when.done_only l _ _ answered in
    can.enough.cells

pub slice_bounds-lay-end-2 : goal.slice_bounds-lay-end-2
slice_bounds-lay-end-2 c =
    let l = laying c.args.size c.args.other_size c.args.offset in
    let answered = c.lay_check.ensures.tells c.args.offset ∙ c.in_ok-lay_check.was in
    let can : CanLay l (lent c.args.mask.now c.args.ink.now) (length c.args.other.now) = laid_exactly_when.done_only l _ _ answered in
    cells_long c.args.size c.args.mask.now can.enough.cells

pub lay-requires : goal.lay-requires
lay-requires c =
    let l = laying c.args.size c.args.other_size c.args.offset in
    let answered = c.lay_check.ensures.tells c.args.offset ∙ c.in_ok-lay_check.was in
    let can : CanLay l (lent c.args.mask.now c.args.ink.now) (length c.args.other.now) = laid_exactly_when.done_only l _ _ answered in
    record {
      size_allowed = (can.size_allowed, cells_long c.args.size c.args.mask.now can.enough.cells);
      size_allowed_2 = (can.other_allowed, can.other_cells);
    }

pub scan-requires : goal.scan-requires
scan-requires c =
    let l = laying c.args.size c.args.other_size c.args.offset in
    let answered = c.lay_check.ensures.tells c.args.offset ∙ c.in_ok-lay_check.was in
    let can : CanLay l (lent c.args.mask.now c.args.ink.now) (length c.args.other.now) = laid_exactly_when.done_only l _ _ answered in
    let mask = c.args.mask.now in
    let cells = laying_of l mask c.args.other.now in
    let written = laid l mask c.args.other.now c.lay.ensures in
    (can.size_allowed, still_enough c.args.size cells mask (laying_length l mask c.args.other.now) c.args.ink.now _ written can.enough)

pub returns : goal.returns
returns c =
    let l = laying c.args.size c.args.other_size c.args.offset in
    let answered = c.lay_check.ensures.tells c.args.offset ∙ c.in_ok-lay_check.was in
    let can : CanLay l (lent c.args.mask.now c.args.ink.now) (length c.args.other.now) = laid_exactly_when.done_only l _ _ answered in
    record {
      answer = sym answered;
      cells = laid l c.args.mask.now c.args.other.now c.lay.ensures;
      ink = c.scan.ensures;
      number = told l (lent c.args.mask.now c.args.ink.now) (length c.args.other.now) answered;
    }

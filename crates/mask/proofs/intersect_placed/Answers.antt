-- `mask::intersect_placed` meets its contract: a laying-on by the offset between the corners. Assumes nothing.
use mathlib.Core.Path.{◌≡◌, refl, sym, ◌∙◌, subst}
use Prim.Native.Nat.{ℕ}
use lib.ListN.{length}
use Rattle.ink.specs.Lent.{Lent, lent}
use Rattle.laying.specs.Placed.{Placed, placed}
use Rattle.mask.specs.Calls.{outcome_number, lay_placed_answer}
use Rattle.mask.specs.Laws.{LayPlacedNumber}
use Rattle.fault.specs.Check.{Check}
use Rattle.words.proofs.Steps.{exits}
use Rattle.mask.proofs.PlacedCauses.{check_refuses, check_passes, within}
use Rattle.mask.proofs.Numbers.{numbers_exactly_when}
use Rattle.mask.proofs.intersect_placed.Goals as goal

-- the number of an answer
told : (p : Placed) (lent : Lent) (other : ℕ) {o : Check} → lay_placed_answer p lent other ≡ o → LayPlacedNumber p lent other (outcome_number o)
told p lent other e = subst (λ (o : Check). LayPlacedNumber p lent other (outcome_number o)) e (numbers_exactly_when.placed_only p lent other)

pub returns-in_err-corners_check : goal.returns-in_err-corners_check
returns-in_err-corners_check c =
    let args = c.args in
    let p = placed args.mask_record args.other_record in
    let l = lent args.mask.now args.ink.now in
    let n = length args.other.now in
    let f = c.in_err-corners_check.field-0.0 in
    let answer = check_refuses p l n f (sym c.corners_check.ensures ∙ c.in_err-corners_check.was) in
    rw (exits c.from_residual.result f c.from_residual.ensures.1) (record {
      answer = sym answer;
      cells = refl;
      ink = refl;
      number = told p l n answer;
    })

pub between-offset-requires : goal.between-offset-requires
between-offset-requires c =
    let p = placed c.args.mask_record c.args.other_record in
    let allowed = check_passes p (sym c.corners_check.ensures ∙ c.in_ok-corners_check.was) in
    allowed

pub returns : goal.returns
returns c =
    let p = placed c.args.mask_record c.args.other_record in
    let allowed = check_passes p (sym c.corners_check.ensures ∙ c.in_ok-corners_check.was) in
    let l = lent c.args.mask.now c.args.ink.now in
    let n = length c.args.other.now in
    let laid = rw c.between-offset.ensures at c.intersect.ensures in
    let answer = within p l n allowed.0 allowed.1 ∙ sym laid.answer in
    record {
      answer = sym answer;
      cells = laid.cells;
      ink = laid.ink;
      number = told p l n answer;
    }

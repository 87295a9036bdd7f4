-- The documents' number of each call (specs/Laws.antt, NumbersExactlyWhen). Assumes nothing.
use mathlib.Core.Path.{◌≡◌, refl, sym, ap, subst}
use mathlib.Core.Logic.{inl, inr}
use Prim.Native.Nat.{ℕ}
use native.Mathlib.Omega.{arith}
use Rattle.fault.specs.declared.Fault.{Fault}
use Rattle.fault.proofs.Numbers.{cause_numbers}
use Rattle.mask.specs.Calls.{outcome_number}
use Rattle.mask.specs.Laws.{NumberFor, is_done, is_refused, NumbersExactlyWhen}
use Rattle.fault.specs.Check.{Check}
use Rattle.std.specs.Prelude.{Ok, Err}
use Rattle.mask.proofs.Decided.{Decided}
use Rattle.mask.proofs.Causes.{can_draw, cannot_draw, decided}
use Rattle.mask.proofs.LayCauses.{can_lay, cannot_lay, decided as lay-decided}
use Rattle.mask.proofs.PlacedCauses.{can_lay_placed, cannot_lay_placed, decided as placed-decided}

-- of any call: where it can be done, and for each cause
module _ {Can : Type 0} {Cause : Fault → Type 0} {answer : Check} (done : Can → answer ≡ Ok tt) (refused : (f : Fault) → Cause f → answer ≡ Err f) where
  number_only : Decided Can Cause → NumberFor Can Cause (outcome_number answer)
  number_only (inl c) = subst (λ (o : Check). NumberFor Can Cause (outcome_number o)) (sym (done c)) (is_done c)
  number_only (inr (f, c)) = subst (λ (o : Check). NumberFor Can Cause (outcome_number o)) (sym (refused f c)) (is_refused c)

  number_always : (n : ℕ) → NumberFor Can Cause n → outcome_number answer ≡ n
  number_always n (is_done c) = ap outcome_number (done c)
  number_always n (is_refused {f} c) = ap outcome_number (refused f c)

told_apart : (o p : Check) → outcome_number o ≡ outcome_number p → o ≡ p
told_apart (Ok _) (Ok _) e = refl
told_apart (Ok _) (Err f) e = let l = cause_numbers.least f in absurd (omega arith)
told_apart (Err f) (Ok _) e = let l = cause_numbers.least f in absurd (omega arith)
told_apart (Err f) (Err g) e = ap (λ (h : Fault). Err h) (cause_numbers.apart f g e)

pub numbers_exactly_when : NumbersExactlyWhen
numbers_exactly_when = record {
  draw_only = λ d lent. number_only (can_draw d lent) (cannot_draw d lent) (decided d lent);
  draw_always = λ d lent. number_always (can_draw d lent) (cannot_draw d lent);
  lay_only = λ l lent other. number_only (can_lay l lent other) (cannot_lay l lent other) (lay-decided l lent other);
  lay_always = λ l lent other. number_always (can_lay l lent other) (cannot_lay l lent other);
  placed_only = λ p lent other. number_only (can_lay_placed p lent other) (cannot_lay_placed p lent other) (placed-decided p lent other);
  placed_always = λ p lent other. number_always (can_lay_placed p lent other) (cannot_lay_placed p lent other);
  told_apart = told_apart;
}

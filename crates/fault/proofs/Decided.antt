-- An answer unless a check refuses: where the check refuses for each cause and passes where there is none, the answer is
-- a refusal for these causes alone, and done where there is none alone. Assumes nothing.
use mathlib.Core.Path.{◌≡◌, sym, ◌∙◌, subst}
use mathlib.Core.Logic.{◌⊎◌, inl, inr}
use Prim.Native.Nat.{ℕ}
use native.Mathlib.Omega.{arith}
use Rattle.std.specs.Prelude.{Result, Ok, Err}
use Rattle.fault.specs.declared.Fault.{Fault}
use Rattle.fault.specs.Check.{Check, answer_unless, ForItsFirstCause}

-- all is well, or there is a cause
abbrev pub Decided : Type 0 → (Fault → Type 0) → Type 0
Decided Good Cause = Good ⊎ ((f : Fault) × Cause f)

module _ {A : Type 0} (found : A) {c : Check} {Good : Type 0} {Cause : Fault → Type 0}
    (passes : Good → c ≡ Ok tt) (caused : (f : Fault) → Cause f → c ≡ Err f) where
  always : (f : Fault) → Cause f → answer_unless c found ≡ Err f
  always f e = rw (caused f e)

  only : Decided Good Cause → (f : Fault) → answer_unless c found ≡ Err f → Cause f
  only (inl good) f e =
      let z : ◌≡◌ {A = Result A Fault} (Ok found) (Err f) = (rw (passes good) at e) in
      let n : ◌≡◌ {A = ℕ} 0 1 = cc in
      absurd (omega arith)
  only (inr (g, k)) f e =
      let z : ◌≡◌ {A = Result A Fault} (Err g) (Err f) = sym (always g k) ∙ e in
      let same : g ≡ f = cc in
      subst Cause same k

  pub told : Decided Good Cause → ForItsFirstCause (answer_unless c found) Cause
  told d = record { only = only d; always = always }

  -- an answer that is no refusal
  pub good : Decided Good Cause → ((f : Fault) → answer_unless c found ≡ Err f → ⊥) → Good
  good (inl g) n = g
  good (inr (f, k)) n = absurd (n f (always f k))

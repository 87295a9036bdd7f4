-- An answer that is done where it can be, and refused for each cause, is so only then. Assumes nothing.
use mathlib.Core.Path.{◌≡◌, sym, ◌∙◌, subst}
use mathlib.Core.Logic.{◌⊎◌, inl, inr}
use Prim.Native.Nat.{ℕ}
use native.Mathlib.Omega.{arith}
use Rattle.fault.specs.declared.Fault.{Fault}
use Rattle.fault.specs.Check.{Check}
use Rattle.std.specs.Prelude.{Ok, Err}

same_fault : {f g : Fault} → ◌≡◌ {A = Check} (Err g) (Err f) → f ≡ g
same_fault e = cc

not_done : {f : Fault} → ◌≡◌ {A = Check} (Ok tt) (Err f) → ⊥
not_done e = let z : ◌≡◌ {A = ℕ} 0 1 = cc in omega arith

-- it can be done, or there is a cause
abbrev pub Decided : Type 0 → (Fault → Type 0) → Type 0
Decided Can Cause = Can ⊎ ((f : Fault) × Cause f)

module _ {Can : Type 0} {Cause : Fault → Type 0} {answer : Check} (done : Can → answer ≡ Ok tt) (refused : (f : Fault) → Cause f → answer ≡ Err f) where
  pub done_only : Decided Can Cause → answer ≡ Ok tt → Can
  done_only (inl c) e = c
  done_only (inr (f, c)) e = absurd (not_done (sym e ∙ refused f c))

  pub refused_only : Decided Can Cause → (f : Fault) → answer ≡ Err f → Cause f
  refused_only (inl c) f e = absurd (not_done (sym (done c) ∙ e))
  refused_only (inr (g, c)) f e = subst Cause (same_fault (sym e ∙ refused g c)) c

-- Document 01, 'What a call hands back': a call is turned away by the first cause in its order. Definitions only.
use Rattle.std.specs.Prelude.{◌≡◌, Bool, cond, Result, Ok, Err}
use Rattle.fault.specs.declared.Fault.{Fault}

-- what a look at a call's arguments says: nothing, or its cause
abbrev pub Check : Type 0
Check = Result (Unit {0}) Fault

-- a cause, unless a test passes
abbrev pub unless_of : Bool → Fault → Check
unless_of good f = cond good (Ok tt) (Err f)

-- the first of two checks that refuses
infixl 5 ◌and_then◌
abbrev pub ◌and_then◌ : Check → Check → Check
Ok _ and_then next = next
Err f and_then next = Err f

-- an answer, unless a check refuses
abbrev pub answer_unless : {A : Type 0} → Check → A → Result A Fault
answer_unless (Ok _) answer = Ok answer
answer_unless (Err f) answer = Err f

-- an answer is the refusal with a fault exactly when that is its first cause
pub record ForItsFirstCause {A : Type 0} (answer : Result A Fault) (Cause : Fault → Type 0) : Type 0 where
  pub only : (f : Fault) → answer ≡ Err f → Cause f
  pub always : (f : Fault) → Cause f → answer ≡ Err f

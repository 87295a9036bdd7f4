-- A list's check, where that of each element is known by its causes: it refuses for the first at fault, and passes where
-- there is none (specs/Causes.antt). Assumes nothing.
use Rattle.std.specs.Prelude.{Ok, Err}
use mathlib.Core.Path.{◌≡◌}
use mathlib.Core.Logic.{inl, inr}
use mathlib.Core.List.{List, [], ◌∷◌}
use Rattle.fault.specs.declared.Fault.{Fault}
use Rattle.fault.specs.Check.{Check, ◌and_then◌}
use Rattle.boxes.specs.Laws.{All}
use Rattle.box_fault.specs.Causes.{FirstAtFault, here, later}
use Rattle.fault.proofs.Decided.{Decided}

pub record EachChecked {A : Type 0} (Good : A → Type 0) (AtFault : A → Fault → Type 0) (check_of : A → Check) (checks_of : List A → Check) : Type 0 where
  pub none : checks_of [] ≡ Ok tt
  pub next : (x : A) (xs : List A) → checks_of (x ∷ xs) ≡ (check_of x and_then checks_of xs)
  pub passes : (x : A) → Good x → check_of x ≡ Ok tt
  pub caused : (x : A) (f : Fault) → AtFault x f → check_of x ≡ Err f

module _ {A : Type 0} {Good : A → Type 0} {AtFault : A → Fault → Type 0} {check_of : A → Check} {checks_of : List A → Check}
    (each : EachChecked Good AtFault check_of checks_of) where
  pub all_pass : (xs : List A) → All Good xs → checks_of xs ≡ Ok tt
  all_pass [] h = each.none
  all_pass (x ∷ xs) h = rw (each.next x xs, each.passes x h.0) (all_pass xs h.1)

  pub first_refuses : (xs : List A) (f : Fault) → FirstAtFault Good AtFault xs f → checks_of xs ≡ Err f
  first_refuses (x ∷ xs) f (here e) = rw (each.next x xs, each.caused x f e)
  first_refuses (x ∷ xs) f (later g e) = rw (each.next x xs, each.passes x g) (first_refuses xs f e)
  first_refuses [] f h = elim h [ ]

pub all_decided : {A : Type 0} {Good : A → Type 0} {AtFault : A → Fault → Type 0} → ((x : A) → Decided (Good x) (AtFault x))
    → (xs : List A) → Decided (All Good xs) (FirstAtFault Good AtFault xs)
all_decided each [] = inl tt
all_decided {A} {Good} {AtFault} each (x ∷ xs) = go (each x) (all_decided each xs)
  where
    go : Decided (Good x) (AtFault x) → Decided (All Good xs) (FirstAtFault Good AtFault xs)
        → Decided (All Good (x ∷ xs)) (FirstAtFault Good AtFault (x ∷ xs))
    go (inr (f, e)) d = inr (f, here e)
    go (inl g) (inr (f, e)) = inr (f, later g e)
    go (inl g) (inl h) = inl (g, h)

-- The answers to a list of calls in the documents' numbers, each from its cause (specs/Claim.antt). Assumes nothing.
use mathlib.Core.Path.{◌≡◌, refl, ap₂}
use mathlib.Core.List.{List, [], ◌∷◌}
use Prim.Native.Nat.{ℕ}
use Rattle.ink.specs.Lent.{Lent}
use Rattle.mask.specs.Calls.{outcome_number}
use Rattle.mask.proofs.Numbers.{numbers_exactly_when}
use Rattle.reckoner.specs.Reckoner.{Two, of, Call, draw, lay, lay_placed, answer, answers}
use Rattle.reckoner.specs.Claim.{CallNumber, CallNumbers, numbers}

module _ (lengths : Two Lent) where
  call_only : (c : Call) → CallNumber lengths c (outcome_number (answer lengths c))
  call_only (draw p corner d) = numbers_exactly_when.draw_only d (of p lengths)
  call_only (lay l) = numbers_exactly_when.lay_only l lengths.at_running lengths.at_next.mask
  call_only (lay_placed q) = numbers_exactly_when.placed_only q lengths.at_running lengths.at_next.mask

  call_always : (c : Call) (n : ℕ) → CallNumber lengths c n → outcome_number (answer lengths c) ≡ n
  call_always (draw p corner d) n h = numbers_exactly_when.draw_always d (of p lengths) n h
  call_always (lay l) n h = numbers_exactly_when.lay_always l lengths.at_running lengths.at_next.mask n h
  call_always (lay_placed q) n h = numbers_exactly_when.placed_always q lengths.at_running lengths.at_next.mask n h

  pub list_only : (cs : List Call) → CallNumbers lengths cs (numbers (answers lengths cs))
  list_only [] = tt
  list_only (c ∷ cs) = (call_only c, list_only cs)

  pub list_always : (cs : List Call) (ns : List ℕ) → CallNumbers lengths cs ns → numbers (answers lengths cs) ≡ ns
  list_always [] [] h = refl
  list_always [] (n ∷ ns) h = absurd h
  list_always (c ∷ cs) [] h = absurd h
  list_always (c ∷ cs) (n ∷ ns) h = ap₂ (λ (m : ℕ) (ms : List ℕ). m ∷ ms) (call_always c n h.0) (list_always cs ns h.1)

-- The record held of a mask is the one given with its last done drawing (specs/LastGiven.antt). Assumes nothing.
use mathlib.Core.Path.{◌≡◌, refl, sym, ap, ◌∙◌, subst}
use mathlib.Core.Logic.{◌⊎◌, inl, inr}
use mathlib.Core.List.{List, [], ◌∷◌, ◌++◌}
use Prim.Native.Nat.{ℕ}
use native.Mathlib.Omega.{arith}
use Rattle.fault.specs.declared.Fault.{Fault}
use Rattle.cells.specs.declared.Corner.{Corner}
use Rattle.cells.specs.declared.MaskRecord.{MaskRecord}
use Rattle.fault.specs.Check.{Check}
use Rattle.std.specs.Prelude.{Ok, Err}
use Rattle.ink.specs.Lent.{Lent}
use Rattle.mask.specs.Calls.{Drawing, draw_answer}
use Rattle.reckoner.specs.Reckoner.{Held, Place, running, next, Two, of, put, record_of, at_first, drawn_held, laid_held, laid_placed}
use Rattle.reckoner.specs.Reckoner.{Call, draw, lay, lay_placed, answer, step, reckoned}
use Rattle.reckoner.specs.LastGiven.{NotDrawn, NoneDrawn, none_given, LastGiven, never, last, HeldIsLastGiven}

-- a laying-on leaves the records of both masks
laid_records : (p : Place) (held : Two Held) (h : Held) → record_of h ≡ record_of held.at_running → record_of (of p (put running h held)) ≡ record_of (of p held)
laid_records running held h e = e
laid_records next held h e = refl

drawn_record : (p : Place) (held : Two Held) (h : Held) → record_of (of p (put p h held)) ≡ record_of h
drawn_record running held h = refl
drawn_record next held h = refl

not_done : {f : Fault} → ◌≡◌ {A = Check} (Err f) (Ok tt) → ⊥
not_done e = let z : ◌≡◌ {A = ℕ} 0 1 = cc in omega arith

-- which mask a call draws, as a number
abbrev draws_at : Call → ℕ
draws_at (draw running corner d) = 0
draws_at (draw next corner d) = 1
draws_at (lay l) = 2
draws_at (lay_placed q) = 2

-- a call that draws no mask, or the other
not_this : (p : Place) (c : Call) (corner : Corner) (d : Drawing) → c ≡ draw p corner d → draws_at c ≡ draws_at (draw p corner d)
not_this p c corner d e = ap draws_at e

module _ (lengths : Two Lent) where
  -- a done drawing of a mask, or none
  abbrev DrawnBy : Place → Call → Type 0
  DrawnBy p c = (corner : Corner) × ((d : Drawing) × ((c ≡ draw p corner d) × (draw_answer d (of p lengths) ≡ Ok tt)))

  drawn_by : (p : Place) (corner : Corner) (d : Drawing) → NotDrawn lengths p (draw p corner d) ⊎ DrawnBy p (draw p corner d)
  drawn_by p corner d = go (draw_answer d (of p lengths)) refl
    where
      go : (o : Check) → draw_answer d (of p lengths) ≡ o → NotDrawn lengths p (draw p corner d) ⊎ DrawnBy p (draw p corner d)
      go (Ok _) e = inr (corner, (d, (refl, e)))
      go (Err f) e = inl (λ _ _ _ h. not_done (sym e ∙ h))

  drawn_or_not : (p : Place) (c : Call) → NotDrawn lengths p c ⊎ DrawnBy p c
  drawn_or_not running (draw running corner d) = drawn_by running corner d
  drawn_or_not next (draw next corner d) = drawn_by next corner d
  drawn_or_not running (draw next corner d) = inl (λ k e q _. omega (arith, not_this running (draw next corner d) k e q))
  drawn_or_not next (draw running corner d) = inl (λ k e q _. omega (arith, not_this next (draw running corner d) k e q))
  drawn_or_not running (lay l) = inl (λ k e q _. omega (arith, not_this running (lay l) k e q))
  drawn_or_not next (lay l) = inl (λ k e q _. omega (arith, not_this next (lay l) k e q))
  drawn_or_not running (lay_placed r) = inl (λ k e q _. omega (arith, not_this running (lay_placed r) k e q))
  drawn_or_not next (lay_placed r) = inl (λ k e q _. omega (arith, not_this next (lay_placed r) k e q))

  -- the last of a list
  LastIn : Place → List Call → Type 0
  LastIn p cs = (before : List Call) × ((c : Call) × ((after : List Call) × ((cs ≡ before ++ c ∷ after) × (DrawnBy p c × NoneDrawn lengths p after))))

  last_or_none : (p : Place) (cs : List Call) → NoneDrawn lengths p cs ⊎ LastIn p cs
  unfolding LastIn
  last_or_none p [] = inl tt
  last_or_none p (c ∷ cs) = go (drawn_or_not p c) (last_or_none p cs)
    where
      go : NotDrawn lengths p c ⊎ DrawnBy p c → NoneDrawn lengths p cs ⊎ LastIn p cs → NoneDrawn lengths p (c ∷ cs) ⊎ LastIn p (c ∷ cs)
      go d (inr (before, (e, (after, (q, h))))) = inr (c ∷ before, (e, (after, (ap (λ (l : List Call). c ∷ l) q, h))))
      go (inl n) (inl none) = inl (n, none)
      go (inr d) (inl none) = inr ([], (c, (cs, (refl, (d, none)))))

  -- a call that is no done drawing of the mask leaves its record
  keeps : (p : Place) (c : Call) (held : Two Held) → NotDrawn lengths p c → record_of (of p (step (answer lengths c) c held)) ≡ record_of (of p held)
  keeps p c held = go p c (answer lengths c) refl
    where
      go : (p : Place) (c : Call) (o : Check) → answer lengths c ≡ o → NotDrawn lengths p c → record_of (of p (step o c held)) ≡ record_of (of p held)
      go p c (Err f) e n = refl
      go p (lay l) (Ok _) e n = laid_records p held (laid_held held.at_running held.at_next l.offset) refl
      go p (lay_placed q) (Ok _) e n = laid_records p held (laid_placed held.at_running held.at_next) refl
      go running (draw next corner d) (Ok _) e n = refl
      go next (draw running corner d) (Ok _) e n = refl
      go running (draw running corner d) (Ok _) e n = absurd (n corner d refl e)
      go next (draw next corner d) (Ok _) e n = absurd (n corner d refl e)

  keeps_all : (p : Place) (cs : List Call) (held : Two Held) → NoneDrawn lengths p cs → record_of (of p (reckoned lengths cs held)) ≡ record_of (of p held)
  keeps_all p [] held n = refl
  keeps_all p (c ∷ cs) held n = keeps_all p cs (step (answer lengths c) c held) n.1 ∙ keeps p c held n.0

  first_record : (p : Place) → record_of (of p at_first) ≡ none_given
  first_record running = refl
  first_record next = refl

  -- from the last done drawing on
  given_last : (p : Place) (before : List Call) (corner : Corner) (d : Drawing) (after : List Call) (held : Two Held) → draw_answer d (of p lengths) ≡ Ok tt
      → NoneDrawn lengths p after → record_of (of p (reckoned lengths (before ++ draw p corner d ∷ after) held)) ≡ record { size = d.size; corner = corner }
  given_last p [] corner d after held e n =
      subst (λ (o : Check). record_of (of p (reckoned lengths after (step o (draw p corner d) held))) ≡ record { size = d.size; corner = corner }) (sym e)
      (keeps_all p after (put p (drawn_held corner d) held) n ∙ drawn_record p held (drawn_held corner d))
  given_last p (c ∷ before) corner d after held e n = given_last p before corner d after (step (answer lengths c) c held) e n

  always : (cs : List Call) (p : Place) (given : MaskRecord) → LastGiven lengths p cs given → record_of (of p (reckoned lengths cs at_first)) ≡ given
  always cs p given (never n) = keeps_all p cs at_first n ∙ first_record p
  always cs p given (last before corner d after e n) = given_last p before corner d after at_first e n

  only : (cs : List Call) (p : Place) → LastGiven lengths p cs (record_of (of p (reckoned lengths cs at_first)))
  unfolding LastIn
  only cs p = go (last_or_none p cs)
    where
      by_last : (ds : List Call) (given : MaskRecord) → LastGiven lengths p ds given → cs ≡ ds → LastGiven lengths p cs (record_of (of p (reckoned lengths cs at_first)))
      by_last ds given h q = subst (λ (l : List Call). LastGiven lengths p l (record_of (of p (reckoned lengths l at_first)))) (sym q)
          (subst (LastGiven lengths p ds) (sym (always ds p given h)) h)

      go : NoneDrawn lengths p cs ⊎ LastIn p cs → LastGiven lengths p cs (record_of (of p (reckoned lengths cs at_first)))
      go (inl none) = by_last cs none_given (never none) refl
      go (inr (before, (c, (after, (q, ((corner, (d, (e, h))), n)))))) =
          by_last (before ++ draw p corner d ∷ after) (record { size = d.size; corner = corner }) (last before corner d after h n)
          (q ∙ ap (λ (x : Call). before ++ x ∷ after) e)

pub held_is_last_given : HeldIsLastGiven
held_is_last_given = record { only = only; always = always }

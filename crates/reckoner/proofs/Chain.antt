-- THE THEOREM about a list of calls: an induction over the list, with what the reckoner holds as the invariant. Assumes
-- nothing.
use mathlib.Core.Path.{◌≡◌, refl, sym, ap, ap₂, ◌∙◌, subst, subst₂}
use mathlib.Core.List.{List, [], ◌∷◌}
use Prim.Native.Nat.{ℕ, ◌<◌}
use Rattle.cells.specs.declared.Size.{Size}
use Rattle.laying.specs.Laying.{Laying, laying}
use Rattle.laying.specs.Placed.{Placed, placed, by_offset, offset_between}
use Rattle.fault.specs.Check.{Check}
use Rattle.std.specs.Prelude.{Ok, Err}
use Rattle.ink.specs.Ink.{ink_of, stretch_at}
use Rattle.ink.specs.Lent.{Lent, LentEnough}
use Rattle.ink.proofs.Lines.{line_same}
use Rattle.ink.proofs.Laws.{stretches_print_the_mask}
use Rattle.mask.specs.Calls.{Drawing, draw_answer, mask_after_drawing, lay_answer, mask_after_laying, lay_placed_answer}
use Rattle.mask.proofs.LayCauses.{laid_exactly_when}
use Rattle.mask.proofs.PlacedCauses.{laid_placed_exactly_when}
use Rattle.reckoner.specs.Reckoner.{Held, Place, running, next, Two, of, put, at_first, Call, draw, lay, lay_placed, answer, answers, step, reckoned, record_of, Given, Meant}
use Rattle.reckoner.specs.Claim.{Buffer, Buffers, lent_of, HasLengths, ScratchFor, Scratches, answered, drawn_on, laid_on, buffers_after, all_answered, buffers_after_all}
use Rattle.reckoner.specs.Claim.{CallNumbers, numbers, SameBytes, EveryList}
use Rattle.reckoner.proofs.LastGiven.{held_is_last_given}
use Rattle.reckoner.proofs.Cells.{MaskHeld, BothHeld, put_held, stay_held, held_first, draw_lengths, draw_held, lay_lengths, lay_held}
use Rattle.reckoner.proofs.Numbers.{list_only, list_always}
use Rattle.reckoner.proofs.Scratch.{given_is, scratch_never_matters}

put_lengths : (p : Place) (lengths : Two Lent) (b : Buffers) (l : Buffer) → HasLengths lengths b → lent_of l ≡ lent_of (of p b) → HasLengths lengths (put p l b)
put_lengths p lengths b l h e = go p (e ∙ h p)
  where
    go : (p : Place) → lent_of l ≡ of p lengths → HasLengths lengths (put p l b)
    go running e running = e
    go running e next = h next
    go next e running = h running
    go next e next = e

-- the buffers after a call with this answer
abbrev after : Check → Call → Buffers → Buffers
after o (draw p corner d) b = put p (drawn_on o d (of p b)) b
after o (lay l) b = put running (laid_on o l b) b
after o (lay_placed q) b = put running (laid_on o (by_offset q) b) b

-- whatever the ink held, the same bytes
same_drawn : (o : Check) (p : Place) (e : Drawing) {b d : Buffers} → SameBytes b d → SameBytes (put p (drawn_on o e (of p b)) b) (put p (drawn_on o e (of p d)) d)
same_drawn o running e same running = ap (mask_after_drawing o e) (same running)
same_drawn o running e same next = same next
same_drawn o next e same running = same running
same_drawn o next e same next = ap (mask_after_drawing o e) (same next)

same_laid : (o : Check) (l : Laying) {b d : Buffers} → SameBytes b d → SameBytes (put running (laid_on o l b) b) (put running (laid_on o l d) d)
same_laid o l same running = ap₂ (mask_after_laying o l) (same running) (same next)
same_laid o l same next = same next

same_after : (o : Check) (c : Call) {b d : Buffers} → SameBytes b d → SameBytes (after o c b) (after o c d)
same_after o (draw p corner e) same = same_drawn o p e same
same_after o (lay l) same = same_laid o l same
same_after o (lay_placed q) same = same_laid o (by_offset q) same

module _ (lengths : Two Lent) where
  -- ---- one call

  one_answer : (c : Call) (b : Buffers) (s : ScratchFor c) → HasLengths lengths b → answered b c s ≡ answer lengths c
  one_answer (draw p corner d) b s h = ap₂ draw_answer (given_is s) (h p)
  one_answer (lay l) b s h = ap₂ (λ (m n : Lent). lay_answer l m n.mask) (h running) (h next)
  one_answer (lay_placed q) b s h = ap₂ (λ (m n : Lent). lay_placed_answer q m n.mask) (h running) (h next)

  one_after : (c : Call) (b : Buffers) (s : ScratchFor c) → HasLengths lengths b → buffers_after b c s ≡ after (answer lengths c) c b
  one_after (draw p corner d) b s h = ap₂ (λ (o : Check) (e : Drawing). put p (drawn_on o e (of p b)) b) (one_answer (draw p corner d) b s h) (given_is s)
  one_after (lay l) b s h = ap (λ (o : Check). after o (lay l) b) (one_answer (lay l) b s h)
  one_after (lay_placed q) b s h = ap (λ (o : Check). after o (lay_placed q) b) (one_answer (lay_placed q) b s h)

  one_length : (c : Call) (b : Buffers) (s : ScratchFor c) → HasLengths lengths b → HasLengths lengths (buffers_after b c s)
  one_length c b s h = rw (one_after c b s h) (go c)
    where
      laid : (l : Laying) (o : Check) → (o ≡ Ok tt → LentEnough l.size (lent_of b.at_running)) → HasLengths lengths (put running (laid_on o l b) b)
      laid l o enough = put_lengths running lengths b (laid_on o l b) h (lay_lengths l o b enough)

      go : (c : Call) → HasLengths lengths (after (answer lengths c) c b)
      go (draw p corner d) =
          let o = draw_answer d (of p lengths) in
          put_lengths p lengths b (drawn_on o d (of p b)) h (draw_lengths d o (of p b) (ap (draw_answer d) (h p)))
      go (lay l) = laid l (answer lengths (lay l)) (λ e. (laid_exactly_when.done_only l _ _ (one_answer (lay l) b tt h ∙ e)).enough)
      go (lay_placed q) =
          laid (by_offset q) (answer lengths (lay_placed q)) (λ e. (laid_placed_exactly_when.done_only q _ _ (one_answer (lay_placed q) b tt h ∙ e)).can_lay.enough)

  -- a laying-on that is given the sizes held
  lay_both : (l : Laying) (held : Two Held) (b d : Buffers) → l.size ≡ held.at_running.size → l.other_size ≡ held.at_next.size → BothHeld held b d
      → BothHeld (step (Ok tt) (lay l) held) (after (Ok tt) (lay l) b) (after (Ok tt) (lay l) d)
  lay_both l held b d p q i =
      subst (λ (x : Laying). BothHeld (step (Ok tt) (lay l) held) (after (Ok tt) (lay x) b) (after (Ok tt) (lay x) d))
      (ap₂ (λ (x y : Size). laying x y l.offset) (sym p) (sym q))
      (put_held running i (lay_held held.at_running held.at_next l.offset b d (i running) (i next)))

  -- one by corners that is given the sizes and the corners held
  placed_both : (q : Placed) (held : Two Held) (b d : Buffers) → q.own ≡ record_of held.at_running → q.other ≡ record_of held.at_next → BothHeld held b d
      → BothHeld (step (Ok tt) (lay_placed q) held) (after (Ok tt) (lay_placed q) b) (after (Ok tt) (lay_placed q) d)
  placed_both q held b d o p i =
      let between = offset_between held.at_running.corner held.at_next.corner in
      subst (λ (x : Placed). BothHeld (step (Ok tt) (lay_placed q) held) (after (Ok tt) (lay_placed x) b) (after (Ok tt) (lay_placed x) d)) (ap₂ placed (sym o) (sym p))
      (put_held running i (lay_held held.at_running held.at_next between b d (i running) (i next)))

  one_held : (c : Call) (held : Two Held) (b d : Buffers) (s t : ScratchFor c) → Given (answer lengths c) c held → HasLengths lengths b → HasLengths lengths d
      → BothHeld held b d → BothHeld (step (answer lengths c) c held) (buffers_after b c s) (buffers_after d c t)
  one_held c held b d s t g h j i =
      subst₂ (λ (x y : Buffers). BothHeld (step (answer lengths c) c held) x y) (sym (one_after c b s h)) (sym (one_after c d t j)) (go c (answer lengths c) refl g)
    where
      go : (c : Call) (o : Check) → answer lengths c ≡ o → Given o c held → BothHeld (step o c held) (after o c b) (after o c d)
      go (draw p corner e) (Err f) q g = stay_held p i
      go (draw p corner e) (Ok _) q g = put_held p i (draw_held e _ (of p b) (of p d) (ap (draw_answer e) (h p) ∙ q) (ap (draw_answer e) (j p) ∙ q))
      go (lay l) (Err f) q g = stay_held running i
      go (lay l) (Ok _) q g = lay_both l held b d g.0 g.1 i
      go (lay_placed q) (Err f) e g = stay_held running i
      go (lay_placed q) (Ok _) e g = placed_both q held b d g.0 g.1 i

  -- whatever the ink held
  one_same : (c : Call) (b d : Buffers) (s t : ScratchFor c) → HasLengths lengths b → HasLengths lengths d → SameBytes b d
      → SameBytes (buffers_after b c s) (buffers_after d c t)
  one_same c b d s t h j same =
      subst₂ (λ (x y : Buffers). SameBytes x y) (sym (one_after c b s h)) (sym (one_after c d t j)) (same_after (answer lengths c) c same)

  -- ---- the list

  all_answers : (cs : List Call) (b : Buffers) (s : Scratches cs) → HasLengths lengths b → all_answered cs s b ≡ answers lengths cs
  all_answers [] b s h = refl
  all_answers (c ∷ cs) b s h =
      ap₂ (λ (o : Check) (os : List Check). o ∷ os) (one_answer c b s.0 h) (all_answers cs (buffers_after b c s.0) s.1 (one_length c b s.0 h))

  all_lengths : (cs : List Call) (b : Buffers) (s : Scratches cs) → HasLengths lengths b → HasLengths lengths (buffers_after_all cs s b)
  all_lengths [] b s h = h
  all_lengths (c ∷ cs) b s h = all_lengths cs (buffers_after b c s.0) s.1 (one_length c b s.0 h)

  all_held : (cs : List Call) (held : Two Held) (b d : Buffers) (s t : Scratches cs) → Meant lengths cs held → HasLengths lengths b → HasLengths lengths d
      → BothHeld held b d → BothHeld (reckoned lengths cs held) (buffers_after_all cs s b) (buffers_after_all cs t d)
  all_held [] held b d s t m h j i = i
  all_held (c ∷ cs) held b d s t m h j i =
      all_held cs (step (answer lengths c) c held) (buffers_after b c s.0) (buffers_after d c t.0) s.1 t.1 m.1
      (one_length c b s.0 h) (one_length c d t.0 j) (one_held c held b d s.0 t.0 m.0 h j i)

  all_same : (cs : List Call) (b d : Buffers) (s t : Scratches cs) → HasLengths lengths b → HasLengths lengths d → SameBytes b d
      → SameBytes (buffers_after_all cs s b) (buffers_after_all cs t d)
  all_same [] b d s t h j same = same
  all_same (c ∷ cs) b d s t h j same =
      all_same cs (buffers_after b c s.0) (buffers_after d c t.0) s.1 t.1 (one_length c b s.0 h) (one_length c d t.0 j)
      (one_same c b d s.0 t.0 h j same)

-- what is held of a mask has the same ink in both runs
same_ink : {held : Held} {one other : Buffer} → MaskHeld held one other → (row : ℕ) → row < held.size.height → stretch_at one.ink row ≡ stretch_at other.ink row
same_ink {held} {one} {other} i row r =
    let line = line_same held.size row r one.mask other.mask i.room i.room_too (λ column c. (i.cells column row c r).same) in
    i.scanned row r ∙ ap ink_of line ∙ sym (i.scanned_too row r)

pub every_list : EveryList
every_list lengths cs = record {
  answers_are = λ b h s. all_answers lengths cs b s h;
  numbers_only = λ b h s. subst (λ (os : List Check). CallNumbers lengths cs (numbers os)) (sym (all_answers lengths cs b s h)) (list_only lengths cs);
  numbers_always = λ b h s ns k. ap numbers (all_answers lengths cs b s h) ∙ list_always lengths cs ns k;
  scratch_never_matters = scratch_never_matters cs;
  lengths_kept = λ b h s. all_lengths lengths cs b s h;
  records_held = held_is_last_given.only lengths cs;
  ink_never_matters = λ b d h j same s t. (
    all_answers lengths cs b s h ∙ sym (all_answers lengths cs d t j),
    all_same lengths cs b d s t h j same,
  );
  inked = λ m b h s p. (all_held lengths cs at_first b b s s m h h (held_first b b) p).scanned;
  prints = λ m b h s p.
      let i = all_held lengths cs at_first b b s s m h h (held_first b b) p in
      stretches_print_the_mask _ _ _ i.room i.scanned;
  near = λ m b h s p column row c r. ((all_held lengths cs at_first b b s s m h h (held_first b b) p).cells column row c r).close;
  alike = λ m b d h j s t. (
    all_answers lengths cs b s h ∙ sym (all_answers lengths cs d t j),
    λ p.
        let i = all_held lengths cs at_first b d s t m h j (held_first b d) p in
        (λ column row c r. (i.cells column row c r).same, same_ink i),
  );
}

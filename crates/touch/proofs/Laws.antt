-- The answer of a touch read back (specs/Laws.antt). Assumes nothing.
use Prim.Native.Nat.{ℕ, zero, suc, ◌<◌, ◌≤◌}
use mathlib.Core.Path.{◌≡◌, refl, sym, ap, ◌∙◌, subst}
use mathlib.Core.Bool.{Bool, true, false, true≢false}
use mathlib.Core.List.{List, [], ◌∷◌, ◌++◌}
use native.Mathlib.Nat.{lt_of_lt_of_le}
use native.Mathlib.Omega.{arith}
use lib.Dec.{ltb}
use lib.Ieee.{Float}
use lib.ListN.{length}
use borrow.Author.Tests.{ltb-true, ltb-false, lt-ltb, le-ltb}
use Rattle.std.specs.Prelude.{Option, Some, None, Ok, Err}
use Rattle.fault.specs.declared.Fault.{Fault}
use Rattle.fault.specs.declared.Fault.TheVariants.{TooManyBoxes}
use Rattle.fault.specs.Check.{Check, answer_unless}
use Rattle.fault.proofs.Passing.{both_pass}
use Rattle.geometry.specs.declared.Position.{Position}
use Rattle.shape.specs.declared.RoundedBox.{RoundedBox}
use Rattle.shape.specs.Checks.{in_range_of, both_in_range_of, fringe_check_of, point_check_of}
use Rattle.covering.specs.Touches.{touches_of}
use Rattle.covering.proofs.Laws.{still_touched}
use Rattle.boxes.specs.Checks.{most_boxes, list_check_of}
use Rattle.boxes.specs.First.{first_from}
use Rattle.boxes.specs.Laws.{passes_at}
use Rattle.boxes.proofs.Few.{few, Twelve, of_first, of_numbers, too_many_exactly_when}
use Rattle.boxes.proofs.First.{lowest_place}
use Rattle.touch.specs.Touch.{touch_check_of, first_touched_from, touch_call}
use Rattle.touch.specs.Laws.{touches_at, LowestTouched, FrameExactlyWhen, NoFrameExactlyWhen, RefusedExactlyWhen, TwelveExactlyWhen, ShortListsAsBefore, FoundRule, RuleUnless, AsBefore, StillNamed}
use Rattle.touch.proofs.Finished.{as_found}

-- a list that is walked and a list that is touched speak of the same places
same_places : (bs : List RoundedBox) (fringe : Float) (p : Position) (k : ℕ)
    → passes_at bs (λ b. touches_of b fringe p) k ≡ touches_at bs fringe p k
same_places [] fringe p k = refl
same_places (b ∷ bs) fringe p zero = refl
same_places (b ∷ bs) fringe p (suc k) = same_places bs fringe p k

module _ (bs : List RoundedBox) (fringe : Float) (p : Position) where
  abbrev touches : RoundedBox → Bool
  touches b = touches_of b fringe p

  abbrev refusal : Check
  refusal = touch_check_of bs fringe p

  abbrev first : Option ℕ
  first = first_touched_from 0 bs fringe p

  -- ---- the answer to a list that is not refused

  abbrev Told : Option ℕ → Type 0
  Told (Some k) = LowestTouched bs fringe p k
  Told None = (k : ℕ) → touches_at bs fringe p k ≡ false

  found_told : (r : Option ℕ) → first_from 0 bs touches ≡ r → Told r
  found_told (Some k) e = record {
    touched = sym (same_places bs fringe p k) ∙ lowest_place.holds bs touches k e;
    none_below = λ j l. sym (same_places bs fringe p j) ∙ lowest_place.lowest bs touches k e j l;
  }
  found_told None e = λ k. sym (same_places bs fringe p k) ∙ lowest_place.nowhere bs touches e k

  first_told : Told first
  first_told = found_told first (as_found fringe p 0 bs)

  not_below : (k j : ℕ) → LowestTouched bs fringe p k → touches_at bs fringe p j ≡ true → k ≤ j
  not_below k j h t = go (ltb j k) refl
    where
      go : (below : Bool) → ltb j k ≡ below → k ≤ j
      go true e = absurd (true≢false (sym t ∙ h.none_below j (ltb-true j k e)))
      go false e = ltb-false j k e

  -- where place j is touched, it or a lower one is named
  names : (r : Option ℕ) → Told r → (j : ℕ) → touches_at bs fringe p j ≡ true → (k : ℕ) × (r ≡ Some k) × (k ≤ j)
  names (Some k) h j t = (k, refl, not_below k j h t)
  names None h j t = absurd (true≢false (sym t ∙ h j))

  names_lowest : (r : Option ℕ) → Told r → (k : ℕ) → LowestTouched bs fringe p k → r ≡ Some k
  names_lowest (Some j) h k l =
      let below : j ≤ k = not_below j k h l.touched in
      let above : k ≤ j = not_below k j l h.touched in
      ap Some (omega arith)
  names_lowest None h k l = absurd (true≢false (sym l.touched ∙ h k))

  names_none : (r : Option ℕ) → Told r → ((k : ℕ) → touches_at bs fringe p k ≡ false) → r ≡ None
  names_none (Some k) h none = absurd (true≢false (sym h.touched ∙ none k))
  names_none None h none = refl

  -- ---- the answer, by what the check says

  done : (c : Check) (r s : Option ℕ) → answer_unless c r ≡ Ok s → (c ≡ Ok tt) × (r ≡ s)
  done (Ok _) r s e = (refl, cc)
  done (Err f) r s e = let z : ◌≡◌ {A = ℕ} 0 1 = cc in absurd (omega arith)

  refused : (c : Check) (f : Fault) → answer_unless c first ≡ Err f → c ≡ Err f
  refused (Ok _) f e = let z : ◌≡◌ {A = ℕ} 0 1 = cc in absurd (omega arith)
  refused (Err g) f e = cc

  few_touched : refusal ≡ Ok tt → length bs ≤ most_boxes
  few_touched e = few bs (both_pass _ (fringe_check_of fringe) (both_pass _ (point_check_of p) e).0).0

  named : (k : ℕ) → touch_call bs fringe p ≡ Ok (Some k)
      → (refusal ≡ Ok tt) × LowestTouched bs fringe p k × (k < length bs) × (k < most_boxes)
  named k e =
      let g = done refusal first (Some k) e in
      let h = subst Told g.1 first_told in
      let l = lowest_place.within bs touches k (same_places bs fringe p k ∙ h.touched) in
      (g.0, h, l, lt_of_lt_of_le l (few_touched g.0))

  names_it : (k : ℕ) → refusal ≡ Ok tt → LowestTouched bs fringe p k → touch_call bs fringe p ≡ Ok (Some k)
  names_it k e h = rw (e, names_lowest first first_told k h)

  no_frame : touch_call bs fringe p ≡ Ok None → (refusal ≡ Ok tt) × ((k : ℕ) → touches_at bs fringe p k ≡ false)
  no_frame e = let g = done refusal first None e in (g.0, subst Told g.1 first_told)

  names_no_frame : refusal ≡ Ok tt → ((k : ℕ) → touches_at bs fringe p k ≡ false) → touch_call bs fringe p ≡ Ok None
  names_no_frame e h = rw (e, names_none first first_told h)

  refuses : (f : Fault) → refusal ≡ Err f → touch_call bs fringe p ≡ Err f
  refuses f e = rw e

  -- ---- the rule before

  as_told : (r : Option ℕ) → Told r → FoundRule bs fringe p (Ok r)
  as_told (Some k) h = h.touched
  as_told None h = h

  right : (c : Check) → RuleUnless c bs fringe p (answer_unless c first)
  right (Ok _) = as_told first first_told
  right (Err f) = refl

  lowest : (c : Check) (j : ℕ) → RuleUnless c bs fringe p (Ok (Some j)) → (k : ℕ) × (answer_unless c first ≡ Ok (Some k)) × (k ≤ j)
  lowest (Ok _) j h = let n = names first first_told j h in (n.0, ap Ok n.1, n.2)
  lowest (Err f) j h = let z : ◌≡◌ {A = ℕ} 0 1 = cc in absurd (omega arith)

  still_none : (c : Check) → RuleUnless c bs fringe p (Ok None) → answer_unless c first ≡ Ok None
  still_none (Ok _) h = ap Ok (names_none first first_told h)
  still_none (Err f) h = sym h

  still_refused : (c : Check) (f : Fault) → RuleUnless c bs fringe p (Err f) → answer_unless c first ≡ Err f
  still_refused (Ok _) f h = absurd h
  still_refused (Err g) f h = sym h

pub frame_exactly_when : FrameExactlyWhen
frame_exactly_when = record { only = named; always = names_it }

pub no_frame_exactly_when : NoFrameExactlyWhen
no_frame_exactly_when = record { only = no_frame; always = names_no_frame }

pub refused_exactly_when : RefusedExactlyWhen
refused_exactly_when = record { only = λ bs fringe p. refused bs fringe p (refusal bs fringe p); always = refuses }

-- ---- the number of boxes

of_list : (bs : List RoundedBox) (fringe : Float) (p : Position) → Twelve (touch_check_of bs fringe p) → Twelve (list_check_of bs)
of_list bs fringe p e =
    of_first _ (fringe_check_of fringe) (of_numbers (in_range_of fringe)) (of_first _ (point_check_of p) (of_numbers (both_in_range_of p.x p.y)) e)

pub twelve_exactly_when : TwelveExactlyWhen
twelve_exactly_when = record {
  only = λ bs fringe p e. too_many_exactly_when.only bs (of_list bs fringe p (refused_exactly_when.only bs fringe p TooManyBoxes e));
  always = λ bs fringe p l. rw (lt-ltb 4096 (length bs) l);
}

pub short_lists_as_before : (bs : List RoundedBox) (fringe : Float) (p : Position) → ShortListsAsBefore bs fringe p
short_lists_as_before bs fringe p = record {
  same = λ few. let fewer : length bs ≤ most_boxes = omega arith in rw (le-ltb _ _ few, le-ltb _ _ fewer);
  byte = λ few k e. lt_of_lt_of_le (frame_exactly_when.only bs fringe p k e).2 few;
  longer = λ l. rw (lt-ltb _ _ l);
}

pub as_before : (bs : List RoundedBox) (fringe : Float) (p : Position) → AsBefore bs fringe p
as_before bs fringe p = let c = touch_check_of bs fringe p in record {
  right = right bs fringe p c;
  lowest = lowest bs fringe p c;
  no_frame = still_none bs fringe p c;
  refused = still_refused bs fringe p c;
}

-- ---- the test before

at_place : (before after : List RoundedBox) (b : RoundedBox) (fringe : Float) (p : Position) → touches_at (before ++ b ∷ after) fringe p (length before) ≡ touches_of b fringe p
at_place [] after b fringe p = refl
at_place (c ∷ before) after b fringe p = at_place before after b fringe p

not_before : {old now : Bool} → (old ≡ true → now ≡ true) → now ≡ false → old ≡ false
not_before {old = true} h e = absurd (true≢false (sym (h refl) ∙ e))
not_before {old = false} h e = refl

pub still_named : (before after : List RoundedBox) (b : RoundedBox) (fringe : Float) (p : Position) → StillNamed before after b fringe p
still_named before after b fringe p =
    let bs = before ++ b ∷ after in
    let place = at_place before after b fringe p in
    record {
      named = λ o e.
          let n = names bs fringe p (first bs fringe p) (first_told bs fringe p) (length before) (place ∙ still_touched b fringe p o) in
          (n.0, rw e (ap Ok n.1), n.2);
      no_frame = λ e. not_before (still_touched b fringe p) (sym place ∙ (no_frame bs fringe p e).1 (length before));
    }

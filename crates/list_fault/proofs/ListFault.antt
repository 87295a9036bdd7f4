-- What is at fault in a word list, said without the reader (specs/ListFault.antt). Assumes nothing.
use mathlib.Core.Path.{◌≡◌, refl, sym, ap, ◌∙◌, subst}
use mathlib.Core.Logic.{◌⊎◌, inl, inr}
use mathlib.Core.List.{List, [], ◌∷◌, ◌++◌, append_assoc}
use Prim.Native.Nat.{ℕ}
use native.Mathlib.Omega.{arith}
use lib.IntN.{ℤ, negsuc}
use Rattle.fault.specs.declared.Fault.{Fault}
use Rattle.fault.specs.declared.Fault.TheVariants.{ListEndsEarly, CountOutOfRange, CoordinateOutOfRange}
use Rattle.word_list.specs.Words.{Group, Read, ok, fault, and_then, read_count, beyond, read_coordinate, read_point, read_points, read_contour, read_contours, read_group, read_groups, read_words}
use Rattle.word_list.proofs.RoundTrip.{reads_what_is_written}
use Rattle.list_fault.specs.ListFault.{Writing, Begins, WrongWord, MinusOneBegins, FaultOf, ends_early, at_count, at_coordinate, ListFault, OneOfEach}
use Rattle.list_fault.proofs.Machine.{State, at_rule, at_contour_count, at_point_count, at_x, at_y, wrong, step, run, run_append}
use Rattle.list_fault.proofs.Machine.{stays, verdict, refused, Going, Takes, takes, Where, where_step, where_run, finish, finishes}
use Rattle.list_fault.proofs.Agrees.{ran, ok_ran, fault_ran, ran_fault}

-- ---- a list is a writing where the steps come to a rule word, and begins one where they go on
written_ran : (ws : List ℤ) → Writing ws → (b : ℕ) × (ran ws ≡ at_rule b)
written_ran ws w = (_, ok_ran ws w.0 [] (ap read_words w.2 ∙ reads_what_is_written.back w.0 w.1))

ran_written : (ws : List ℤ) (b : ℕ) → ran ws ≡ at_rule b → Writing ws
ran_written ws b e = go (read_words ws) refl
  where
    go : (r : Read (List Group)) → read_words ws ≡ r → Writing ws
    go (ok gs rest) q = let h = reads_what_is_written.forth ws gs rest q in (gs, h.2, h.1)
    go (fault f) q = let a = fault_ran ws f q in let c = ap verdict e in let z : ◌≡◌ {A = ℕ} 0 1 = cc in absurd (omega arith)

where_ran : (ws : List ℤ) → Where (ran ws)
where_ran ws = where_run (at_rule 0) ws (inl (omega arith))

begins_going : (ws : List ℤ) → Begins ws → Going (ran ws)
begins_going ws h = go (where_ran ws)
  where
    on : run (ran ws) h.0 ≡ at_rule (written_ran (ws ++ h.0) h.1).0
    on = sym (run_append (at_rule 0) ws h.0) ∙ (written_ran (ws ++ h.0) h.1).1

    go : Where (ran ws) → Going (ran ws)
    go (inl g) = g
    go (inr (f, e)) = let a = sym (stays f h.0) ∙ ap (λ (s : State). run s h.0) (sym e) ∙ on in let z : ◌≡◌ {A = ℕ} 0 1 = cc in absurd (omega arith)

going_begins : (ws : List ℤ) → Going (ran ws) → Begins ws
going_begins ws g = let f = finishes (ran ws) g in (finish (ran ws), ran_written (ws ++ finish (ran ws)) f.0 (run_append (at_rule 0) ws (finish (ran ws)) ∙ f.1))

-- one word more
more_begins : (f : List ℤ) (w : ℤ) → Going (step (ran f) w) → Begins (f ++ (w ∷ []))
more_begins f w g = going_begins (f ++ (w ∷ [])) (subst Going (sym (run_append (at_rule 0) f (w ∷ []))) g)

more_going : (f : List ℤ) (w : ℤ) → Begins (f ++ (w ∷ [])) → Going (step (ran f) w)
more_going f w h = subst Going (run_append (at_rule 0) f (w ∷ [])) (begins_going (f ++ (w ∷ [])) h)

-- ---- the wrong word: a list whose steps do not go on has one
record Split (s : State) (ws : List ℤ) : Type 0 where
  front : List ℤ
  word : ℤ
  behind : List ℤ
  here : ws ≡ front ++ (word ∷ behind)
  goes : Going (run s front)
  stuck : ¬ Going (step (run s front) word)

split : (s : State) (ws : List ℤ) → Going s → ¬ Going (run s ws) → Split s ws
split s [] g n = absurd (n g)
split s (v ∷ ws) g n = go (λ h. split (step s v) ws h n) (where_step s v g)
  where
    go : (Going (step s v) → Split (step s v) ws) → Where (step s v) → Split s (v ∷ ws)
    go on (inl h) = let k = on h in record { front = v ∷ k.front; word = k.word; behind = k.behind; here = ap (λ (l : List ℤ). v ∷ l) k.here; goes = k.goes; stuck = k.stuck }
    go on (inr (f, e)) = record { front = []; word = v; behind = ws; here = refl; goes = g; stuck = λ k. subst Going e k }

wrong_word : (ws : List ℤ) → ¬ Begins ws → WrongWord ws
wrong_word ws n =
    let k = split (at_rule 0) ws (omega arith) (λ g. n (going_begins ws g)) in
    record { front = k.front; word = k.word; behind = k.behind; here = k.here; begins = going_begins k.front k.goes; wrong = λ h. k.stuck (more_going k.front k.word h) }

-- what begins a writing has none
front_begins : (f g : List ℤ) → Begins (f ++ g) → Begins f
front_begins f g h = (g ++ h.0, (h.1.0, h.1.1, sym (append_assoc f g h.0) ∙ h.1.2))

not_within : (ws vs : List ℤ) (u : WrongWord ws) (k : List ℤ) → vs ≡ u.front ++ (u.word ∷ k) → ¬ Begins vs
not_within ws vs u k e h = u.wrong (front_begins (u.front ++ (u.word ∷ [])) k (subst Begins (e ∙ sym (append_assoc u.front (u.word ∷ []) k)) h))

-- and there is one alone: of two fronts of a list the longer has the word behind the shorter
fronts : (f g : List ℤ) (v w : ℤ) (f' g' : List ℤ) → f ++ (v ∷ f') ≡ g ++ (w ∷ g') → ((k : List ℤ) → ¬ (g ≡ f ++ (v ∷ k))) → ((k : List ℤ) → ¬ (f ≡ g ++ (w ∷ k))) → (f ≡ g) × (v ≡ w)
fronts [] [] v w f' g' e a b = (refl, cc)
fronts [] (x ∷ g) v w f' g' e a b = let q : x ≡ v = cc in absurd (a g (ap (λ (y : ℤ). y ∷ g) q))
fronts (x ∷ f) [] v w f' g' e a b = let q : x ≡ w = cc in absurd (b f (ap (λ (y : ℤ). y ∷ f) q))
fronts (x ∷ f) (y ∷ g) v w f' g' e a b =
    let q : x ≡ y = cc in
    let t : f ++ (v ∷ f') ≡ g ++ (w ∷ g') = cc in
    let h = fronts f g v w f' g' t (λ k p. a k (cc)) (λ k p. b k (cc)) in
    (cc, h.1)

one_wrong_word : (ws : List ℤ) (u v : WrongWord ws) → (u.front ≡ v.front) × (u.word ≡ v.word)
one_wrong_word ws u v =
    fronts u.front v.front u.word v.word u.behind v.behind (sym u.here ∙ v.here)
    (λ k e. not_within ws v.front u k e v.begins) (λ k e. not_within ws u.front v k e u.begins)

-- ---- it tells the fault
told : (ws : List ℤ) (u : WrongWord ws) → (¬ MinusOneBegins u × (read_words ws ≡ fault CountOutOfRange)) ⊎ (MinusOneBegins u × (read_words ws ≡ fault CoordinateOutOfRange))
told ws u = go t.minus
  where
    t : Takes (ran u.front)
    t = takes (ran u.front) (begins_going u.front u.begins)

    stuck : Going (step (ran u.front) u.word) ⊎ (step (ran u.front) u.word ≡ wrong t.blame) → step (ran u.front) u.word ≡ wrong t.blame
    stuck (inl g) = absurd (u.wrong (more_begins u.front u.word g))
    stuck (inr e) = e

    at_fault : read_words ws ≡ fault t.blame
    at_fault = ran_fault ws t.blame (ap verdict (
        ap ran u.here
        ∙ run_append (at_rule 0) u.front (u.word ∷ u.behind)
        ∙ ap (λ (s : State). run s u.behind) (stuck (t.word u.word))
        ∙ stays t.blame u.behind
        ))

    go : (¬ Going (step (ran u.front) (negsuc 0)) × (t.blame ≡ CountOutOfRange)) ⊎ (Going (step (ran u.front) (negsuc 0)) × (t.blame ≡ CoordinateOutOfRange))
        → (¬ MinusOneBegins u × (read_words ws ≡ fault CountOutOfRange)) ⊎ (MinusOneBegins u × (read_words ws ≡ fault CoordinateOutOfRange))
    go (inl (n, e)) = inl ((λ h. n (more_going u.front (negsuc 0) h)), at_fault ∙ ap fault e)
    go (inr (g, e)) = inr (more_begins u.front (negsuc 0) g, at_fault ∙ ap fault e)

-- ---- 6 and 7
count_always : (ws : List ℤ) (u : WrongWord ws) → ¬ MinusOneBegins u → read_words ws ≡ fault CountOutOfRange
count_always ws u n = go (told ws u)
  where
    go : (¬ MinusOneBegins u × (read_words ws ≡ fault CountOutOfRange)) ⊎ (MinusOneBegins u × (read_words ws ≡ fault CoordinateOutOfRange)) → read_words ws ≡ fault CountOutOfRange
    go (inl (k, e)) = e
    go (inr (h, e)) = absurd (n h)

coordinate_always : (ws : List ℤ) (u : WrongWord ws) → MinusOneBegins u → read_words ws ≡ fault CoordinateOutOfRange
coordinate_always ws u h = go (told ws u)
  where
    go : (¬ MinusOneBegins u × (read_words ws ≡ fault CountOutOfRange)) ⊎ (MinusOneBegins u × (read_words ws ≡ fault CoordinateOutOfRange)) → read_words ws ≡ fault CoordinateOutOfRange
    go (inl (n, e)) = absurd (n h)
    go (inr (k, e)) = e

-- a list that begins a writing is at fault for its end alone
going_fault : (s : State) (f : Fault) → Going s → verdict s ≡ refused f → f ≡ ListEndsEarly
going_fault (at_rule b) f g e = let z : ◌≡◌ {A = ℕ} 0 1 = cc in absurd (omega arith)
going_fault (at_contour_count b) f g e = cc
going_fault (at_point_count n b) f g e = cc
going_fault (at_x m n b) f g e = cc
going_fault (at_y m n b) f g e = cc
going_fault (wrong _) f g e = elim g [ ]

begins_fault : (ws : List ℤ) (f : Fault) → read_words ws ≡ fault f → Begins ws → f ≡ ListEndsEarly
begins_fault ws f e h = going_fault (ran ws) f (begins_going ws h) (fault_ran ws f e)

-- ---- 5, and the three kinds of lists
not_written : (ws : List ℤ) (f : Fault) → read_words ws ≡ fault f → ¬ Writing ws
not_written ws f e w = let a = ap read_words w.2 ∙ reads_what_is_written.back w.0 w.1 in let z : ◌≡◌ {A = ℕ} 0 1 = cc in omega arith

one_of_three : (ws : List ℤ) → Writing ws ⊎ ((Begins ws × ¬ Writing ws) ⊎ WrongWord ws)
one_of_three ws = go (read_words ws) refl (where_ran ws)
  where
    go : (r : Read (List Group)) → read_words ws ≡ r → Where (ran ws) → Writing ws ⊎ ((Begins ws × ¬ Writing ws) ⊎ WrongWord ws)
    go (ok gs rest) e h = let k = reads_what_is_written.forth ws gs rest e in inl (gs, k.2, k.1)
    go (fault f) e (inl g) = inr (inl (going_begins ws g, not_written ws f e))
    go (fault f) e (inr (c, q)) = inr (inr (wrong_word ws (λ h. subst Going q (begins_going ws h))))

ends_early_always : (ws : List ℤ) → Begins ws → ¬ Writing ws → read_words ws ≡ fault ListEndsEarly
ends_early_always ws h n = go (read_words ws) refl
  where
    go : (r : Read (List Group)) → read_words ws ≡ r → read_words ws ≡ fault ListEndsEarly
    go (ok gs rest) e = let k = reads_what_is_written.forth ws gs rest e in absurd (n (gs, k.2, k.1))
    go (fault f) e = e ∙ ap fault (begins_fault ws f e h)

-- ---- the fault of the reading is the list's
only : (ws : List ℤ) (f : Fault) → read_words ws ≡ fault f → FaultOf ws f
only ws f e = go (one_of_three ws)
  where
    at : (u : WrongWord ws) → (¬ MinusOneBegins u × (read_words ws ≡ fault CountOutOfRange)) ⊎ (MinusOneBegins u × (read_words ws ≡ fault CoordinateOutOfRange)) → FaultOf ws f
    at u (inl (n, q)) = let same : CountOutOfRange ≡ f = cc in subst (FaultOf ws) same (at_count u n)
    at u (inr (h, q)) = let same : CoordinateOutOfRange ≡ f = cc in subst (FaultOf ws) same (at_coordinate u h)

    go : Writing ws ⊎ ((Begins ws × ¬ Writing ws) ⊎ WrongWord ws) → FaultOf ws f
    go (inl w) = absurd (not_written ws f e w)
    go (inr (inl (h, n))) = subst (FaultOf ws) (sym (begins_fault ws f e h)) (ends_early h n)
    go (inr (inr u)) = at u (told ws u)

always : (ws : List ℤ) (f : Fault) → FaultOf ws f → read_words ws ≡ fault f
always ws f (ends_early h n) = ends_early_always ws h n
always ws f (at_count u n) = count_always ws u n
always ws f (at_coordinate u h) = coordinate_always ws u h

pub list_fault : ListFault
list_fault = record {
  one_of_three = one_of_three;
  wrong_word = wrong_word;
  wrong_word_only = λ ws u. not_within ws ws u u.behind u.here;
  one_wrong_word = one_wrong_word;
  only = only;
  always = always;
}

pub one_of_each : OneOfEach
unfolding read_words read_groups read_group read_contours read_contour read_points read_point read_coordinate read_count and_then beyond
one_of_each = (refl, refl, refl)

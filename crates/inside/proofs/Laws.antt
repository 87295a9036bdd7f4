-- The answer of `all_inside` read back (specs/Laws.antt). Assumes nothing.
use Prim.Native.Nat.{ℕ, zero, suc, ◌+◌, ◌<◌, ◌≤◌}
use mathlib.Core.Path.{◌≡◌, refl, ap, ◌∙◌, subst}
use mathlib.Core.Bool.{Bool, true, false, cond}
use mathlib.Core.List.{List, [], ◌∷◌}
use native.Mathlib.Nat.{lt_of_lt_of_le}
use native.Mathlib.Omega.{arith}
use lib.Ieee.{Float}
use lib.ListN.{length}
use borrow.Author.Tests.{lt-ltb, le-ltb}
use Rattle.std.specs.Prelude.{Option, Some, None, Result, Ok, Err}
use Rattle.fault.specs.declared.Fault.{Fault}
use Rattle.fault.specs.declared.Fault.TheVariants.{TooManyBoxes}
use Rattle.fault.specs.Check.{Check, answer_unless, ◌and_then◌}
use Rattle.fault.proofs.Passing.{both_pass}
use Rattle.shape.specs.declared.RoundedBox.{RoundedBox}
use Rattle.shape.specs.Checks.{in_range_of, box_check_of, fringe_check_of}
use Rattle.clip_coverage.specs.declared.ClipCoverage.{ClipCoverage}
use Rattle.clip_coverage.specs.Distance.{contains_of}
use Rattle.covering.specs.Coverage.{coverage_of}
use Rattle.covering.specs.Calls.{coverage_check_of, coverage_call}
use Rattle.boxes.specs.Checks.{count_check_of, boxes_check_of, list_check_of}
use Rattle.boxes.specs.Laws.{All}
use Rattle.boxes.proofs.Few.{few, of_first, of_box, of_numbers, too_many_exactly_when}
use Rattle.inside.specs.declared.Inside.{Inside}
use Rattle.inside.specs.declared.Inside.TheVariants as inside
use Rattle.inside.specs.Inside.{inside_check_of, first_outside_from, inside_by, inside_call}
use Rattle.inside.specs.Laws.{Contained, Unrefused, FirstOutside, here, later}
use Rattle.inside.specs.Laws.{AllInsideExactlyWhen, OutsideExactlyWhen, NoBoxExactlyWhen, RefusedExactlyWhen, TwelveExactlyWhen}

-- ---- what an answer says of the check before it

done : {A : Type 0} (c : Check) (x y : A) → answer_unless c x ≡ Ok y → (c ≡ Ok tt) × (x ≡ y)
done (Ok _) x y e = (refl, cc)
done (Err f) x y e = let z : ◌≡◌ {A = ℕ} 0 1 = cc in absurd (omega arith)

-- ---- the boxes of a list

unrefused : (bs : List RoundedBox) → boxes_check_of bs ≡ Ok tt → All Unrefused bs
unrefused [] e = tt
unrefused (b ∷ bs) e = let g = both_pass (box_check_of b) (boxes_check_of bs) e in (g.0, unrefused bs g.1)

all_pass : (bs : List RoundedBox) → All Unrefused bs → boxes_check_of bs ≡ Ok tt
all_pass [] h = refl
all_pass (b ∷ bs) h = rw h.0 (all_pass bs h.1)

module _ (area : ClipCoverage) where
  -- what single tests say of the whole list
  contained_pass : (i : ℕ) (bs : List RoundedBox) → All (Contained area) bs → (boxes_check_of bs ≡ Ok tt) × (first_outside_from i bs area ≡ inside.All)
  contained_pass i [] h = (refl, refl)
  contained_pass i (b ∷ bs) h =
      let g = done (box_check_of b) (contains_of area b) true h.0 in
      let rest = contained_pass (suc i) bs h.1 in
      (rw g.0 rest.0, rw g.1 rest.1)

  first_passes : (i n : ℕ) (bs : List RoundedBox) → FirstOutside area bs n → (boxes_check_of bs ≡ Ok tt) × (first_outside_from i bs area ≡ inside.Outside (i + n))
  first_passes i (suc n) (b ∷ bs) (later h l) =
      let g = done (box_check_of b) (contains_of area b) true h in
      let rest = first_passes (suc i) n bs l in
      let p : suc i + n ≡ i + suc n = omega arith in
      (rw g.0 rest.0, rw g.1 (rest.1 ∙ ap inside.Outside p))
  first_passes i zero (b ∷ bs) (here h us) =
      let g = done (box_check_of b) (contains_of area b) false h in
      (rw g.0 (all_pass bs us), rw g.1 (ap inside.Outside (omega arith)))
  first_passes i zero [] h = elim h [ ]
  first_passes i (suc n) [] h = elim h [ ]

  place_within : (n : ℕ) (bs : List RoundedBox) → FirstOutside area bs n → n < length bs
  place_within zero (b ∷ bs) (here h us) = omega arith
  place_within (suc n) (b ∷ bs) (later h l) = let p = place_within n bs l in omega arith
  place_within zero [] h = elim h [ ]
  place_within (suc n) [] h = elim h [ ]

  -- what is answered of boxes that stand at place i and after it, none of which is refused
  abbrev Told : List RoundedBox → ℕ → Inside → Type 0
  Told bs i inside.All = All (Contained area) bs
  Told bs i (inside.Outside n) = (j : ℕ) × (i + j ≡ n) × FirstOutside area bs j

  later_told : (b : RoundedBox) (bs : List RoundedBox) → Contained area b → (i : ℕ) (r : Inside) → Told bs (suc i) r → Told (b ∷ bs) i r
  later_told b bs h i inside.All t = (h, t)
  later_told b bs h i (inside.Outside n) t = let p : suc i + t.0 ≡ n = t.1 in (suc t.0, omega arith, later {b = b} h t.2)

  told : (i : ℕ) (bs : List RoundedBox) → boxes_check_of bs ≡ Ok tt → Told bs i (first_outside_from i bs area)
  told i [] e = tt
  told i (b ∷ bs) e = go (contains_of area b) refl (told (suc i) bs g.1)
    where
      g : (box_check_of b ≡ Ok tt) × (boxes_check_of bs ≡ Ok tt)
      g = both_pass (box_check_of b) (boxes_check_of bs) e

      go : (t : Bool) → contains_of area b ≡ t → Told bs (suc i) (first_outside_from (suc i) bs area)
          → Told (b ∷ bs) i (cond t (first_outside_from (suc i) bs area) (inside.Outside i))
      go true c h = later_told b bs (rw (g.0, c)) i (first_outside_from (suc i) bs area) h
      go false c h = (0, omega arith, here {b = b} (rw (g.0, c)) (unrefused bs g.1))

-- ---- the answer

module _ (bs : List RoundedBox) (safe : RoundedBox) (fringe : Float) where
  abbrev refusal : Check
  refusal = inside_check_of bs safe fringe

  -- the call's check is the list's and that of the safe area's coverage
  parts : refusal ≡ Ok tt → (length bs ≤ 4096) × (boxes_check_of bs ≡ Ok tt) × (coverage_check_of safe fringe ≡ Ok tt)
  parts e =
      let outer = both_pass (list_check_of bs and_then box_check_of safe) (fringe_check_of fringe) e in
      let inner = both_pass (list_check_of bs) (box_check_of safe) outer.0 in
      (few bs inner.0, (both_pass (count_check_of (length bs)) (boxes_check_of bs) inner.0).1, rw inner.1 outer.1)

  joined : length bs ≤ 4096 → boxes_check_of bs ≡ Ok tt → coverage_check_of safe fringe ≡ Ok tt → refusal ≡ Ok tt
  joined l e c = let g = both_pass (box_check_of safe) (fringe_check_of fringe) c in rw (le-ltb _ _ l, e, g.0) g.1

  -- what each answer says
  abbrev Read : Result (Option Inside) Fault → Type 0
  Read (Ok (Some inside.All)) = (length bs ≤ 4096) × (area : ClipCoverage) × (coverage_call safe fringe ≡ Ok (Some area)) × All (Contained area) bs
  Read (Ok (Some (inside.Outside n))) = (length bs ≤ 4096) × (area : ClipCoverage) × (coverage_call safe fringe ≡ Ok (Some area)) × FirstOutside area bs n
  Read (Ok None) = (length bs ≤ 4096) × All Unrefused bs × (coverage_call safe fringe ≡ Ok None)
  Read (Err f) = refusal ≡ Err f

  of_list : (area : ClipCoverage) → length bs ≤ 4096 → coverage_call safe fringe ≡ Ok (Some area) → (r : Inside) → Told area bs 0 r → Read (Ok (Some r))
  of_list area l k inside.All t = (l, area, k, t)
  of_list area l k (inside.Outside n) t = let p : t.0 ≡ n = omega arith in (l, area, k, rw p at t.2)

  read : Read (inside_call bs safe fringe)
  read = go refusal refl (coverage_of safe fringe) refl
    where
      go : (c : Check) → refusal ≡ c → (m : Option ClipCoverage) → coverage_of safe fringe ≡ m → Read (answer_unless c (inside_by m bs))
      go (Err f) e m k = e
      go (Ok _) e None k = let p = parts e in (p.0, unrefused bs p.1, rw (p.2, k))
      go (Ok tt) e (Some area) k =
          let p = parts e in
          of_list area p.0 (rw (p.2, k)) (first_outside_from 0 bs area) (told area 0 bs p.1)

  reads : (r : Result (Option Inside) Fault) → inside_call bs safe fringe ≡ r → Read r
  reads r e = subst Read e read

  module _ (area : ClipCoverage) (l : length bs ≤ 4096) (k : coverage_call safe fringe ≡ Ok (Some area)) where
    -- where the boxes pass, the answer is the list's
    answers : boxes_check_of bs ≡ Ok tt → inside_call bs safe fringe ≡ Ok (Some (first_outside_from 0 bs area))
    answers e = let g = done (coverage_check_of safe fringe) (coverage_of safe fringe) (Some area) k in rw (joined l e g.0, g.1)

    says_inside : All (Contained area) bs → inside_call bs safe fringe ≡ Ok (Some inside.All)
    says_inside h = let p = contained_pass area 0 bs h in answers p.0 ∙ ap (λ r. Ok (Some r)) p.1

    says_outside : (n : ℕ) → FirstOutside area bs n → inside_call bs safe fringe ≡ Ok (Some (inside.Outside n))
    says_outside n h = let p = first_passes area 0 n bs h in let z : 0 + n ≡ n = omega arith in answers p.0 ∙ ap (λ r. Ok (Some r)) (p.1 ∙ ap inside.Outside z)

  says_no_box : length bs ≤ 4096 → All Unrefused bs → coverage_call safe fringe ≡ Ok None → inside_call bs safe fringe ≡ Ok None
  says_no_box l h k =
      let g = done (coverage_check_of safe fringe) (coverage_of safe fringe) None k in
      rw (joined l (all_pass bs h) g.0, g.1)

  within : (n : ℕ) → inside_call bs safe fringe ≡ Ok (Some (inside.Outside n)) → (n < length bs) × (n < 4096)
  within n e =
      let g = reads (Ok (Some (inside.Outside n))) e in
      let l = place_within g.1 n bs g.3 in
      (l, lt_of_lt_of_le l g.0)

  refuses : (f : Fault) → refusal ≡ Err f → inside_call bs safe fringe ≡ Err f
  refuses f e = rw e

  twelve : inside_call bs safe fringe ≡ Err TooManyBoxes → 4096 < length bs
  twelve e =
      let of-area = of_first _ (fringe_check_of fringe) (of_numbers (in_range_of fringe)) (reads (Err TooManyBoxes) e) in
      too_many_exactly_when.only bs (of_first (list_check_of bs) (box_check_of safe) (of_box safe) of-area)

pub all_inside_exactly_when : AllInsideExactlyWhen
all_inside_exactly_when = record { only = λ bs safe fringe. reads bs safe fringe (Ok (Some inside.All)); always = says_inside }

pub outside_exactly_when : OutsideExactlyWhen
outside_exactly_when = record {
  only = λ bs safe fringe n. reads bs safe fringe (Ok (Some (inside.Outside n)));
  always = λ bs safe fringe n area l k. says_outside bs safe fringe area l k n;
  within = within;
}

pub no_box_exactly_when : NoBoxExactlyWhen
no_box_exactly_when = record { only = λ bs safe fringe. reads bs safe fringe (Ok None); always = says_no_box }

pub refused_exactly_when : RefusedExactlyWhen
refused_exactly_when = record { only = λ bs safe fringe f. reads bs safe fringe (Err f); always = refuses }

pub twelve_exactly_when : TwelveExactlyWhen
twelve_exactly_when = record { only = twelve; always = λ bs safe fringe l. rw (lt-ltb 4096 (length bs) l) }

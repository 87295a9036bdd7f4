-- What the code's answers say of what is read, and its loops turn by turn. Assumes nothing.
use mathlib.Core.Path.{◌≡◌, refl, sym, ap, ◌∙◌, subst}
use mathlib.Core.Bool.{Bool, true, false}
use mathlib.Core.List.{List, [], ◌∷◌}
use Prim.Native.Nat.{ℕ, zero, suc, ◌+◌, ◌-◌, ◌≤◌, ◌<◌}
use native.Mathlib.Omega.{arith}
use native.Mathlib.Nat.{add_assoc, add-zero}
use lib.Dec.{ltb}
use lib.IntN.{ℤ, pos, negsuc}
use lib.ListN.{length, get_or, drop, length-drop}
use borrow.Author.Tests.{ltb-true, ltb-false, lt-ltb, le-ltb}
use Rattle.fault.specs.declared.Fault.{Fault}
use Rattle.fault.specs.declared.Fault.TheVariants.{ListEndsEarly, CountOutOfRange, CoordinateOutOfRange}
use Rattle.word_list.specs.Words.{Point, Group, points_of, points_in, Read, ok, fault, and_then, beyond}
use Rattle.word_list.specs.Words.{read_count, read_coordinate, read_point, read_points, read_contour, read_contours, read_group, read_groups, read_words}
use Rattle.word_reader.specs.Reader.{counted_of, checked_of}
use Rattle.words.specs.Scan.{scan_of}
use Rattle.word_list.specs.Words.{group_points}
use Rattle.words.specs.declared.Scan.{Scan}
use Rattle.std.specs.Prelude.{Result, Ok, Err}
use Rattle.std.specs.Result.{IsErrAnd}
use Rattle.std.proofs.lemmas.Result.{err_from_is_err_and}
use Rattle.fault.specs.Check.{Check}
use Rattle.word_reader.proofs.Reader.{at_end, at_word}
use Rattle.word_list.proofs.Ends.{Ended, ended_contour, ended_group, placed}
use Rattle.word_list.proofs.Few.{contour_few, group_few}

-- ---- what the exit of a `?` returns: the error that it met
pub exits : {A : Type 0} (r : Result A Fault) (f : Fault) → IsErrAnd r (λ e. e ≡ f) → r ≡ Err f
exits r f h = let p = err_from_is_err_and r h in p.1 ∙ ap (λ (e : Fault). Err e) p.2

-- ---- what an answer says
abbrev pub Scanned : Type 0
Scanned = Result Scan Fault

abbrev pub scanned : ℕ → ℕ → Scanned
scanned at points = Ok (record { at = at; points = points })

pub counted_count : (r : Read ℕ) (n : ℕ) → counted_of r ≡ Ok n → (rest : List ℤ) × (r ≡ ok n rest)
counted_count (ok m rest) n e = (rest, cc)
counted_count (fault f) n e = let z : ◌≡◌ {A = ℕ} 0 1 = cc in absurd (omega arith)

pub counted_fault : (r : Read ℕ) (f : Fault) → counted_of r ≡ Err f → r ≡ fault f
counted_fault (ok m rest) f e = let z : ◌≡◌ {A = ℕ} 0 1 = cc in absurd (omega arith)
counted_fault (fault g) f e = cc

module _ {A : Type 0} where
  pub checked_fault : (r : Read A) (f : Fault) → checked_of r ≡ Err f → r ≡ fault f
  checked_fault (ok a rest) f e = let z : ◌≡◌ {A = ℕ} 0 1 = cc in absurd (omega arith)
  checked_fault (fault g) f e = cc

  pub record Went (total : ℕ) (points : A → ℕ) (before : ℕ) (r : Read A) (k p : ℕ) : Type 0 where
    pub value : A
    pub rest : List ℤ
    pub read : r ≡ ok value rest
    pub place : k ≡ total - length rest
    pub count : p ≡ before + points value

  pub scan_at : (total : ℕ) (points : A → ℕ) (before : ℕ) (r : Read A) (k p : ℕ) → scan_of total points before r ≡ scanned k p → Went total points before r k p
  scan_at total points before (ok a rest) k p e =
      let s : ◌≡◌ {A = Scan} (record { at = total - length rest; points = before + points a }) (record { at = k; points = p }) = cc in
      record { value = a; rest = rest; read = refl; place = sym (ap (λ (s : Scan). s.at) s); count = sym (ap (λ (s : Scan). s.points) s) }
  scan_at total points before (fault f) k p e = let z : ◌≡◌ {A = ℕ} 0 1 = cc in absurd (omega arith)

  pub scan_fault : (total : ℕ) (points : A → ℕ) (before : ℕ) (r : Read A) (f : Fault) → scan_of total points before r ≡ Err f → r ≡ fault f
  scan_fault total points before (ok a rest) f e = let z : ◌≡◌ {A = ℕ} 0 1 = cc in absurd (omega arith)
  scan_fault total points before (fault g) f e = cc

-- ---- the coordinate at a place
pub coordinate_missing : (ws : List ℤ) (at : ℕ) → length ws ≤ at → Err ListEndsEarly ≡ checked_of (read_coordinate (drop at ws))
unfolding read_coordinate
coordinate_missing ws at h = rw (at_end ws at h) refl

pub coordinate_far : (ws : List ℤ) (at : ℕ) → at < length ws → beyond (get_or ws at (pos 0)) ≡ true → Err CoordinateOutOfRange ≡ checked_of (read_coordinate (drop at ws))
unfolding read_coordinate
coordinate_far ws at h e = rw (at_word ws at h, e) refl

pub coordinate_good : (ws : List ℤ) (at : ℕ) → at < length ws → beyond (get_or ws at (pos 0)) ≡ false → read_coordinate (drop at ws) ≡ ok (get_or ws at (pos 0)) (drop (at + 1) ws)
unfolding read_coordinate
coordinate_good ws at h e = rw (at_word ws at h, e) refl

pub coordinate_next : (ws : List ℤ) (at : ℕ) → checked_of (read_coordinate (drop at ws)) ≡ Ok tt
    → (at < length ws) × (beyond (get_or ws at (pos 0)) ≡ false)
coordinate_next ws at e = go (ltb at (length ws)) (beyond (get_or ws at (pos 0))) refl refl
  where
    not_good : {f : Fault} → ◌≡◌ {A = Check} (Err f) (Ok tt) → ⊥
    not_good {f} h = let z : ◌≡◌ {A = ℕ} 0 1 = cc in omega arith

    go : (b d : Bool) → ltb at (length ws) ≡ b → beyond (get_or ws at (pos 0)) ≡ d → (at < length ws) × (d ≡ false)
    go false d p q = absurd (not_good (coordinate_missing ws at (ltb-false at (length ws) p) ∙ e))
    go true true p q = absurd (not_good (coordinate_far ws at (ltb-true at (length ws) p) q ∙ e))
    go true false p q = (ltb-true at (length ws) p, refl)

-- ---- a pair of coordinates
checked_map : {A B : Type 0} (f : A → B) (r : Read A) → checked_of (and_then r (λ a rest. ok (f a) rest)) ≡ checked_of r
unfolding and_then
checked_map f (ok a rest) = refl
checked_map f (fault g) = refl

pub point_first : (ws : List ℤ) (at : ℕ) (f : Fault) → Err f ≡ checked_of (read_coordinate (drop at ws)) → Err f ≡ checked_of (read_point (drop at ws))
unfolding read_point and_then
point_first ws at f e = rw (checked_fault (read_coordinate (drop at ws)) f (sym e)) refl

pub point_second : (ws : List ℤ) (at : ℕ) → checked_of (read_coordinate (drop at ws)) ≡ Ok tt → checked_of (read_coordinate (drop (at + 1) ws)) ≡ checked_of (read_point (drop at ws))
unfolding read_point
point_second ws at e =
    let n = coordinate_next ws at e in
    rw (coordinate_good ws at n.0 n.1) (unfold and_then in sym (checked_map (λ (y : ℤ). record { x = get_or ws at (pos 0); y = y }) (read_coordinate (drop (at + 1) ws))))

-- the point whose words stand at a place
abbrev pub point_at : List ℤ → ℕ → Point
point_at ws at = record { x = get_or ws at (pos 0); y = get_or ws (at + 1) (pos 0) }

pub record PointThere (ws : List ℤ) (at : ℕ) : Type 0 where
  pub within : at + 2 ≤ length ws
  pub x_in_limit : beyond (get_or ws at (pos 0)) ≡ false
  pub y_in_limit : beyond (get_or ws (at + 1) (pos 0)) ≡ false

pub point_read : (ws : List ℤ) (at : ℕ) → PointThere ws at → read_point (drop at ws) ≡ ok (point_at ws at) (drop (at + 2) ws)
unfolding read_point and_then
point_read ws at h =
    rw (coordinate_good ws at (omega (arith, h.within)) h.x_in_limit, coordinate_good ws (at + 1) (omega (arith, h.within)) h.y_in_limit)
    (let e : at + 1 + 1 ≡ at + 2 = omega arith in ap (λ (k : ℕ). ok (point_at ws at) (drop k ws)) e)

pub point_there : (ws : List ℤ) (at : ℕ) → checked_of (read_point (drop at ws)) ≡ Ok tt → PointThere ws at
point_there ws at e = go (checked_of (read_coordinate (drop at ws))) refl
  where
    go : (r : Check) → checked_of (read_coordinate (drop at ws)) ≡ r → PointThere ws at
    go (Ok u) h =
        let n = coordinate_next ws at h in
        let m = coordinate_next ws (at + 1) (point_second ws at h ∙ e) in
        record { within = omega (arith, m.0); x_in_limit = n.1; y_in_limit = m.1 }
    go (Err f) h = let s = point_first ws at f (sym h) ∙ e in let z : ◌≡◌ {A = ℕ} 0 1 = cc in absurd (omega arith)

-- ---- lists of points, contours and groups: one is read, and then the others
pub scan_cons : {A : Type 0} (total : ℕ) (points : List A → ℕ) (before w : ℕ) (a : A) → ((l : List A) → points (a ∷ l) ≡ w + points l) → (r : Read (List A))
    → scan_of total points before (and_then r (λ l rest. ok (a ∷ l) rest)) ≡ scan_of total points (before + w) r
unfolding and_then
scan_cons total points before w a h (ok l rest) = ap (λ (n : ℕ). scanned (total - length rest) n) (ap (λ (n : ℕ). before + n) (h l) ∙ sym (add_assoc before w (points l)))
scan_cons total points before w a h (fault f) = refl

abbrev scan_points : List ℤ → ℕ → ℕ → ℕ → Scanned
scan_points ws n before at = scan_of (length ws) length before (read_points n (drop at ws))

pub points_none : (ws : List ℤ) (n before at : ℕ) → n ≤ 0 → at ≤ length ws → scanned at before ≡ scan_points ws n before at
unfolding read_points
points_none ws zero before at h l =
    let e : length ws - length (drop at ws) ≡ at = omega (arith, length-drop at ws) in
    sym (ap (λ (k : ℕ). scanned k (before + 0)) e ∙ ap (λ (n : ℕ). scanned at n) (add-zero before))
points_none ws (suc n) before at h l = absurd (omega arith)

pub points_step : (ws : List ℤ) (n before at : ℕ) → 0 < n → PointThere ws at → scan_points ws n before at ≡ scan_points ws (n - 1) (before + 1) (at + 2)
unfolding read_points
points_step ws zero before at h p = absurd (omega arith)
points_step ws (suc n) before at h p =
    let e : suc n - 1 ≡ n = omega arith in
    rw (e, point_read ws at p) (unfold and_then in scan_cons (length ws) length before 1 (point_at ws at) (λ l. omega arith) (read_points n (drop (at + 2) ws)))

pub points_fault : (ws : List ℤ) (n before at : ℕ) (f : Fault) → 0 < n → read_point (drop at ws) ≡ fault f → scan_points ws n before at ≡ Err f
unfolding read_points and_then
points_fault ws zero before at f h e = absurd (omega arith)
points_fault ws (suc n) before at f h e = rw e refl

-- where the points stand: those behind `at` are to come
pub record PointsAt (ws : List ℤ) (from n before at remaining : ℕ) : Type 0 where
  pub within : at ≤ length ws
  pub few : remaining ≤ n
  pub same : scan_points ws n before from ≡ scan_points ws remaining (before + (n - remaining)) at

module _ {ws : List ℤ} {from n before : ℕ} where
  module _ {at remaining : ℕ} (s : PointsAt ws from n before at remaining) where
    pub points_stop : 0 < remaining → {r : Check} {f : Fault} → r ≡ checked_of (read_point (drop at ws)) → r ≡ Err f
        → Err f ≡ scan_points ws n before from
    points_stop h {f = f} is e =
        let x = checked_fault (read_point (drop at ws)) f (sym is ∙ e) in
        sym (s.same ∙ points_fault ws remaining (before + (n - remaining)) at f h x)

    pub points_more : 0 < remaining → PointThere ws at → PointsAt ws from n before (at + 2) (remaining - 1)
    points_more h p =
        let f = s.few in
        let e : before + (n - remaining) + 1 ≡ before + (n - (remaining - 1)) = omega arith in
        let one = points_step ws remaining (before + (n - remaining)) at h p in
        record { within = p.within; few = omega arith; same = s.same ∙ rw e at one }

    pub points_end : remaining ≤ 0 → scanned at (before + n) ≡ scan_points ws n before from
    points_end h =
        let e : before + (n - remaining) ≡ before + n = omega arith in
        let none = points_none ws remaining (before + (n - remaining)) at h s.within in
        rw e at none ∙ sym (rw e at s.same)

-- ---- contours
abbrev scan_contours : List ℤ → ℕ → ℕ → ℕ → Scanned
scan_contours ws n before at = scan_of (length ws) points_of before (read_contours n before (drop at ws))

pub contours_none : (ws : List ℤ) (n before at : ℕ) → n ≤ 0 → at ≤ length ws → scanned at before ≡ scan_contours ws n before at
unfolding read_contours points_of
contours_none ws zero before at h l =
    let e : length ws - length (drop at ws) ≡ at = omega (arith, length-drop at ws) in
    sym (ap (λ (k : ℕ). scanned k (before + 0)) e ∙ ap (λ (n : ℕ). scanned at n) (add-zero before))
contours_none ws (suc n) before at h l = absurd (omega arith)

-- where a contour's reading leads
pub record Onward (ws : List ℤ) (least at next points : ℕ) : Type 0 where
  pub forward : at + least ≤ next
  pub within : next ≤ length ws
  pub few : points ≤ 2048

module _ (ws : List ℤ) (n before at next more : ℕ) (some : 0 < n) (inside : at ≤ length ws)
    (w : Went (length ws) length before (read_contour before (drop at ws)) next more) where
  contour_placed : (w.rest ≡ drop next ws) × (at + 1 ≤ next)
  contour_placed =
      let p = placed 1 at ws w.value w.rest inside (subst (Ended 1 (drop at ws)) w.read (ended_contour before (drop at ws))) in
      (p.0 ∙ ap (λ (k : ℕ). drop k ws) (sym w.place), omega (arith, p.1, w.place))

  pub contour_onward : Onward ws 1 at next more
  contour_onward = record {
    forward = contour_placed.1;
    within = omega (arith, w.place);
    few = omega (arith, w.count, contour_few before (drop at ws) w.value w.rest w.read);
  }

  pub contours_step : scan_contours ws n before at ≡ scan_contours ws (n - 1) more next
  unfolding read_contours points_of
  contours_step = go n some
    where
      others : ℕ → Read (List (List Point))
      others m = read_contours m (before + length w.value) w.rest

      tail : (m : ℕ) → scan_of (length ws) points_of before (and_then (others m) (λ l rest. ok (w.value ∷ l) rest)) ≡ scan_contours ws m more next
      tail m =
          scan_cons (length ws) points_of before (length w.value) w.value (λ l. refl) (others m)
          ∙ ap (λ (k : ℕ). scan_of (length ws) points_of k (read_contours m k w.rest)) (sym w.count)
          ∙ ap (λ (l : List ℤ). scan_of (length ws) points_of more (read_contours m more l)) contour_placed.0

      go : (n : ℕ) → 0 < n → scan_contours ws n before at ≡ scan_contours ws (n - 1) more next
      go zero h = absurd (omega arith)
      go (suc m) h = let e : suc m - 1 ≡ m = omega arith in rw (e, w.read) (unfold and_then in tail m)

pub contours_fault : (ws : List ℤ) (n before at : ℕ) (f : Fault) → 0 < n → read_contour before (drop at ws) ≡ fault f → scan_contours ws n before at ≡ Err f
unfolding read_contours and_then
contours_fault ws zero before at f h e = absurd (omega arith)
contours_fault ws (suc n) before at f h e = rw e refl

-- where the contours stand: those behind `at` are to come
pub record ContoursAt (ws : List ℤ) (from n before at points remaining : ℕ) : Type 0 where
  pub within : at ≤ length ws
  pub few : points ≤ 2048
  pub same : scan_contours ws n before from ≡ scan_contours ws remaining points at

module _ {ws : List ℤ} {from n before at points remaining : ℕ} (s : ContoursAt ws from n before at points remaining) where
  abbrev scan_next : Scanned
  scan_next = scan_of (length ws) length points (read_contour points (drop at ws))

  pub contours_stop : 0 < remaining → {r : Scanned} {f : Fault} → r ≡ scan_next → r ≡ Err f → Err f ≡ scan_contours ws n before from
  contours_stop h {f = f} is e =
      let x = scan_fault (length ws) length points (read_contour points (drop at ws)) f (sym is ∙ e) in
      sym (s.same ∙ contours_fault ws remaining points at f h x)

  pub contours_more : 0 < remaining → {r : Scanned} {next more : ℕ} → r ≡ scan_next → r ≡ scanned next more
      → ContoursAt ws from n before next more (remaining - 1)
  contours_more h {next = next} {more} is e =
      let w = scan_at (length ws) length points (read_contour points (drop at ws)) next more (sym is ∙ e) in
      let o = contour_onward ws remaining points at next more h s.within w in
      record { within = o.within; few = o.few; same = s.same ∙ contours_step ws remaining points at next more h s.within w }

  pub contours_end : remaining ≤ 0 → scanned at points ≡ scan_contours ws n before from
  contours_end h = contours_none ws remaining points at h s.within ∙ sym s.same

-- ---- a group
scan_map : {A B : Type 0} (total : ℕ) (points : A → ℕ) (count : B → ℕ) (before : ℕ) (f : A → B) → ((a : A) → count (f a) ≡ points a) → (r : Read A)
    → scan_of total count before (and_then r (λ a rest. ok (f a) rest)) ≡ scan_of total points before r
unfolding and_then
scan_map total points count before f h (ok a rest) = ap (λ (n : ℕ). scanned (total - length rest) (before + n)) (h a)
scan_map total points count before f h (fault g) = refl

-- the word behind a count
pub count_next : (ws : List ℤ) (at n : ℕ) (rest : List ℤ) → read_count (drop at ws) ≡ ok n rest → (at < length ws) × (rest ≡ drop (at + 1) ws)
unfolding read_count
count_next ws at n rest e = go (ltb at (length ws)) refl
  where
    word : (z : ℤ) (more : List ℤ) → read_count (z ∷ more) ≡ ok n rest → rest ≡ more
    word (pos m) more h = cc
    word (negsuc m) more h = let z : ◌≡◌ {A = ℕ} 0 1 = cc in absurd (omega arith)

    none : read_count [] ≡ ok n rest → ⊥
    none h = let z : ◌≡◌ {A = ℕ} 0 1 = cc in omega arith

    go : (b : Bool) → ltb at (length ws) ≡ b → (at < length ws) × (rest ≡ drop (at + 1) ws)
    go true h =
        let l = ltb-true at (length ws) h in
        (l, word (get_or ws at (pos 0)) (drop (at + 1) ws) (ap read_count (sym (at_word ws at l)) ∙ e))
    go false h = absurd (none (ap read_count (sym (at_end ws at (ltb-false at (length ws) h))) ∙ e))

-- a count stands at a place
pub record CountThere (ws : List ℤ) (at n : ℕ) : Type 0 where
  pub within : at < length ws
  pub read : read_count (drop at ws) ≡ ok n (drop (at + 1) ws)

module _ (ws : List ℤ) (at : ℕ) {r : Result ℕ Fault} (is : r ≡ counted_of (read_count (drop at ws))) where
  pub count_there : {n : ℕ} → r ≡ Ok n → CountThere ws at n
  count_there {n} e =
      let c = counted_count (read_count (drop at ws)) n (sym is ∙ e) in
      let q = count_next ws at n c.0 c.1 in
      record { within = q.0; read = c.1 ∙ ap (ok n) q.1 }

  pub count_refused : {f : Fault} → r ≡ Err f → read_count (drop at ws) ≡ fault f
  count_refused {f} e = counted_fault (read_count (drop at ws)) f (sym is ∙ e)

abbrev scan_group : List ℤ → ℕ → ℕ → Scanned
scan_group ws before at = scan_of (length ws) group_points before (read_group before (drop at ws))

-- where the rule word is missing, so is the count
pub group_fault : (ws : List ℤ) (at before : ℕ) (f : Fault) → read_count (drop (at + 1) ws) ≡ fault f → Err f ≡ scan_group ws before at
unfolding read_group and_then read_count
group_fault ws at before f e = go (ltb at (length ws)) refl
  where
    go : (b : Bool) → ltb at (length ws) ≡ b → Err f ≡ scan_group ws before at
    go true h = rw (at_word ws at (ltb-true at (length ws) h), e) refl
    go false h =
        let l = ltb-false at (length ws) h in
        let none = ap read_count (sym (at_end ws (at + 1) (omega arith))) ∙ e in
        let same : f ≡ ListEndsEarly = cc in
        rw (at_end ws at l, same) refl

pub group_contours : (at before : ℕ) {ws : List ℤ} {n : ℕ} → CountThere ws (at + 1) n → {r : Scanned} → r ≡ scan_contours ws n before (at + 2)
    → r ≡ scan_group ws before at
unfolding read_group
group_contours at before {ws} {n} c e =
    let two : at + 1 + 1 ≡ at + 2 = omega arith in
    let h : at < length ws = omega (arith, c.within) in
    let made = scan_map (length ws) points_of group_points before group (λ cs. refl) (read_contours n before (drop (at + 2) ws)) in
    e ∙ rw (at_word ws at h, c.read, two) (unfold and_then in sym made)
  where
    group : List (List Point) → Group
    group cs = record { rule = get_or ws at (pos 0); contours = cs }

-- ---- a contour: its count, and its points
abbrev scan_contour : List ℤ → ℕ → ℕ → Scanned
scan_contour ws before at = scan_of (length ws) length before (read_contour before (drop at ws))

pub contour_count : (ws : List ℤ) (at before : ℕ) (f : Fault) → read_count (drop at ws) ≡ fault f → Err f ≡ scan_contour ws before at
unfolding read_contour and_then
contour_count ws at before f e = rw e refl

module _ {ws : List ℤ} {at n : ℕ} (c : CountThere ws at n) (before : ℕ) where
  pub contour_many : 2048 - before < n → Err CountOutOfRange ≡ scan_contour ws before at
  unfolding read_contour and_then
  contour_many h = rw (c.read, lt-ltb 2048 (before + n) (omega arith)) refl

  pub contour_points : before ≤ 2048 → n ≤ 2048 - before → {r : Scanned} → r ≡ scan_points ws n before (at + 1) → r ≡ scan_contour ws before at
  unfolding read_contour and_then
  contour_points b h e = e ∙ rw (c.read, le-ltb 2048 (before + n) (omega arith)) refl

-- ---- groups: what remains to be read, with enough steps for it
abbrev scan_words : List ℤ → Scanned
scan_words ws = scan_of (length ws) points_in 0 (read_words ws)

pub record Going (ws : List ℤ) (at before : ℕ) : Type 0 where
  pub within : at ≤ length ws
  pub few : before ≤ 2048
  pub fuel : ℕ
  pub enough : length ws - at ≤ fuel
  pub remaining : scan_words ws ≡ scan_of (length ws) points_in before (read_groups fuel before (drop at ws))

pub going_start : (ws : List ℤ) → Going ws 0 0
unfolding read_words
going_start ws = record { within = omega arith; few = omega arith; fuel = length ws; enough = omega arith; remaining = refl }

pub going_end : {ws : List ℤ} {at before : ℕ} → Going ws at before → length ws ≤ at → scanned at before ≡ scan_words ws
unfolding read_groups points_in
going_end {ws} {at} {before} g h = sym (g.remaining ∙ rw (at_end ws at h) (none g.fuel))
  where
    all : scanned (length ws - 0) (before + 0) ≡ scanned at before
    all =
        let e : length ws - 0 ≡ at = omega (arith, g.within) in
        ap (λ (k : ℕ). scanned k (before + 0)) e ∙ ap (λ (n : ℕ). scanned at n) (add-zero before)

    none : (n : ℕ) → scan_of (length ws) points_in before (read_groups n before []) ≡ scanned at before
    none zero = all
    none (suc n) = all

module _ {ws : List ℤ} {at before : ℕ} (g : Going ws at before) (h : at < length ws) {r : Scanned} (is : r ≡ scan_group ws before at) where
  some_fuel : (n : ℕ) × (g.fuel ≡ suc n)
  some_fuel = let e = g.enough in let q : g.fuel ≡ suc (g.fuel - 1) = omega arith in (g.fuel - 1, q)

  open_fuel : scan_words ws ≡ scan_of (length ws) points_in before (read_groups (suc some_fuel.0) before (drop at ws))
  open_fuel = g.remaining ∙ ap (λ (n : ℕ). scan_of (length ws) points_in before (read_groups n before (drop at ws))) some_fuel.1

  -- the list has a word at this place
  one_more : (n : ℕ) → read_groups (suc n) before (drop at ws)
      ≡ and_then (read_group before (drop at ws)) (λ g rest. and_then (read_groups n (before + points_of g.contours) rest) (λ gs more. ok (g ∷ gs) more))
  unfolding read_groups
  one_more n = rw (at_word ws at h) refl

  pub going_fault : {f : Fault} → r ≡ Err f → Err f ≡ scan_words ws
  unfolding and_then
  going_fault {f} e =
      let x = scan_fault (length ws) group_points before (read_group before (drop at ws)) f (sym is ∙ e) in
      sym (open_fuel ∙ ap (scan_of (length ws) points_in before) (one_more some_fuel.0) ∙ rw x refl)

  module _ {next more : ℕ} (e : r ≡ scanned next more) where
    w : Went (length ws) group_points before (read_group before (drop at ws)) next more
    w = scan_at (length ws) group_points before (read_group before (drop at ws)) next more (sym is ∙ e)

    group_placed : (w.rest ≡ drop next ws) × (at + 2 ≤ next)
    group_placed =
        let p = placed 2 at ws w.value w.rest (omega arith) (subst (Ended 2 (drop at ws)) w.read (ended_group before (drop at ws))) in
        (p.0 ∙ ap (λ (k : ℕ). drop k ws) (sym w.place), omega (arith, p.1, w.place))

    pub group_onward : Onward ws 2 at next more
    group_onward = record {
      forward = group_placed.1;
      within = omega (arith, w.place);
      few = omega (arith, w.count, group_few before (drop at ws) w.value w.rest g.few w.read);
    }

    abbrev others : ℕ → Read (List Group)
    others n = read_groups n (before + group_points w.value) w.rest

    read_on : (n : ℕ) → read_groups (suc n) before (drop at ws) ≡ and_then (others n) (λ gs more. ok (w.value ∷ gs) more)
    read_on n = one_more n ∙ rw w.read (unfold and_then in refl)

    pub going_more : Going ws next more
    unfolding points_in
    going_more =
        let f = some_fuel in
        let n = f.0 in
        let o = group_onward in
        record {
          within = o.within;
          few = o.few;
          fuel = n;
          enough = omega (arith, f.1, g.enough);
          remaining = open_fuel
              ∙ ap (scan_of (length ws) points_in before) (read_on n)
              ∙ scan_cons (length ws) points_in before (group_points w.value) w.value (λ l. refl) (others n)
              ∙ ap (λ (k : ℕ). scan_of (length ws) points_in k (read_groups n k w.rest)) (sym w.count)
              ∙ ap (λ (l : List ℤ). scan_of (length ws) points_in more (read_groups n more l)) group_placed.0;
        }

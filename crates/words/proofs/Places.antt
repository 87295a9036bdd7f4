-- A list without a fault, read again by place: what stands at a place and what follows it. Assumes nothing.
use mathlib.Core.Path.{◌≡◌, refl, sym, ap, ◌∙◌, subst}
use mathlib.Core.List.{List, [], ◌∷◌}
use Prim.Native.Nat.{ℕ, zero, suc, ◌+◌, ◌-◌, ◌*◌, ◌≤◌, ◌<◌}
use native.Mathlib.Omega.{arith}
use lib.Dec.{ltb}
use lib.IntN.{ℤ, pos}
use lib.ListN.{length, get_or, drop, length-drop}
use borrow.Author.Tests.{ltb-false, le-ltb}
use Rattle.fault.specs.declared.Fault.{Fault}
use Rattle.fault.specs.declared.Fault.TheVariants.{CountOutOfRange}
use Rattle.word_list.specs.Words.{Point, Group, points_of, points_in, Read, ok, fault, and_then, read_or}
use Rattle.word_list.specs.Words.{read_count, read_point, read_points, read_contour, read_contours, read_group, read_groups, read_words}
use Rattle.word_reader.specs.Reader.{counted_of}
use Rattle.words.specs.Scan.{Fine, points_from, contours_from, end_of, no_group}
use Rattle.std.specs.Prelude.{Result, Ok, Err}
use Rattle.word_list.proofs.Ends.{Both, then_ok, cond_ok, Ended, ended_group, placed}
use Rattle.word_reader.proofs.Reader.{at_end, at_word}
use Rattle.words.proofs.Steps.{point_at, PointThere, point_there, point_read, count_next}
use Rattle.word_list.proofs.Few.{points_length, group_few}

-- what was read without a fault
pub fine_read : {A : Type 0} (other : A) (r : Read A) → Fine r → (rest : List ℤ) × (r ≡ ok (read_or other r) rest)
fine_read other (ok a rest) h = (rest, refl)
fine_read other (fault f) h = absurd h

pub read_fine : {A : Type 0} (r : Read A) (a : A) (rest : List ℤ) → r ≡ ok a rest → Fine r
read_fine r a rest e = rw e tt

pub read_value : {A : Type 0} (other : A) (r : Read A) (a : A) (rest : List ℤ) → r ≡ ok a rest → read_or other r ≡ a
read_value other r a rest e = rw e refl

pub read_end : {A : Type 0} (total : ℕ) (r : Read A) (a : A) (rest : List ℤ) → r ≡ ok a rest → end_of total r ≡ total - length rest
read_end total r a rest e = rw e refl

-- ---- points

-- n points by their places
unfoldable pub points_at : ℕ → List ℤ → ℕ → List Point
points_at zero ws at = []
points_at (suc n) ws at = point_at ws at ∷ points_at n ws (at + 2)

pub record PointsThere (n : ℕ) (ws : List ℤ) (at : ℕ) (ps : List Point) (rest : List ℤ) : Type 0 where
  pub points : ps ≡ points_at n ws at
  pub behind : rest ≡ drop (at + 2 * n) ws
  pub there : (i : ℕ) → i < n → PointThere ws (at + 2 * i)

pub points_there : (n : ℕ) (ws : List ℤ) (at : ℕ) (ps : List Point) (rest : List ℤ) → read_points n (drop at ws) ≡ ok ps rest → PointsThere n ws at ps rest
unfolding read_points points_at
points_there zero ws at ps rest e =
    let q : ps ≡ [] = cc in
    let s : rest ≡ drop at ws = cc in
    let z : at + 2 * 0 ≡ at = omega arith in
    record { points = q; behind = s ∙ ap (λ (k : ℕ). drop k ws) (sym z); there = λ i h. absurd (omega arith) }
points_there (suc n) ws at ps rest e =
    let a = then_ok (read_point (drop at ws)) _ ps rest e in
    let p = point_there ws at (rw a.first refl) in
    let r = sym a.first ∙ point_read ws at p in
    let q : a.value ≡ point_at ws at = cc in
    let s : a.rest ≡ drop (at + 2) ws = cc in
    let b = then_ok (read_points n a.rest) _ ps rest a.second in
    let t = b.second in
    let u : ps ≡ a.value ∷ b.value = cc in
    let v : b.rest ≡ rest = cc in
    let l = points_there n ws (at + 2) b.value b.rest (ap (read_points n) (sym s) ∙ b.first) in
    let z : at + 2 + 2 * n ≡ at + 2 * suc n = omega arith in
    record {
      points = u ∙ ap (λ (p : Point). p ∷ b.value) q ∙ ap (λ (ps : List Point). point_at ws at ∷ ps) l.points;
      behind = sym v ∙ l.behind ∙ ap (λ (k : ℕ). drop k ws) z;
      there = go p l.there;
    }
  where
    go : PointThere ws at → ((i : ℕ) → i < n → PointThere ws (at + 2 + 2 * i)) → (i : ℕ) → i < suc n → PointThere ws (at + 2 * i)
    go p more zero h = let z : at + 2 * 0 ≡ at = omega arith in rw z p
    go p more (suc i) h = let z : at + 2 * suc i ≡ at + 2 + 2 * i = omega arith in rw z (more i (omega arith))

-- they end within the list
reach : (n : ℕ) (ws : List ℤ) (at : ℕ) → at - 1 < length ws → ((i : ℕ) → i < n → PointThere ws (at + 2 * i)) → at + 2 * n ≤ length ws
reach zero ws at h t = omega arith
reach (suc n) ws at h t = let w = (t n (omega arith)).within in omega arith

-- ---- with fewer points before it, the same is read

pub contour_before : (b c : ℕ) → c ≤ b → (ws : List ℤ) (ps : List Point) (rest : List ℤ) → read_contour b ws ≡ ok ps rest → read_contour c ws ≡ ok ps rest
unfolding read_contour
contour_before b c l ws ps rest e =
    let a = then_ok (read_count ws) _ ps rest e in
    let k = cond_ok (ltb 2048 (b + a.value)) CountOutOfRange (read_points a.value a.rest) ps rest a.second in
    let m = ltb-false 2048 (b + a.value) k.0 in
    rw a.first (unfold and_then in rw (le-ltb 2048 (c + a.value) (omega arith)) k.1)

pub contours_before : (n b c : ℕ) → c ≤ b → (ws : List ℤ) (cs : List (List Point)) (rest : List ℤ) → read_contours n b ws ≡ ok cs rest → read_contours n c ws ≡ ok cs rest
unfolding read_contours
contours_before zero b c l ws cs rest e = e
contours_before (suc n) b c l ws cs rest e =
    let x = then_ok (read_contour b ws) _ cs rest e in
    let y = then_ok (read_contours n (b + length x.value) x.rest) _ cs rest x.second in
    let f = contour_before b c l ws x.value x.rest x.first in
    let g = contours_before n (b + length x.value) (c + length x.value) (omega arith) x.rest y.value y.rest y.first in
    rw f (unfold and_then in rw g y.second)

pub group_before : (b c : ℕ) → c ≤ b → (ws : List ℤ) (g : Group) (rest : List ℤ) → read_group b ws ≡ ok g rest → read_group c ws ≡ ok g rest
unfolding read_group
group_before b c l [] g rest e = e
group_before b c l (w ∷ ws) g rest e =
    let x = then_ok (read_count ws) _ g rest e in
    let y = then_ok (read_contours x.value b x.rest) _ g rest x.second in
    let f = contours_before x.value b c l x.rest y.value y.rest y.first in
    rw x.first (unfold and_then in rw f y.second)

-- ---- a contour and the others

-- what `n` contours from a place on begin with: a contour of `count` points, and the others
pub record ContourThere (n : ℕ) (ws : List ℤ) (at count : ℕ) : Type 0 where
  pub points : Fine (read_points count (drop (at + 1) ws))
  pub within : at + 1 + 2 * count ≤ length ws
  pub size : length (points_from ws (at + 1) count) ≡ count
  pub others : Fine (read_contours (n - 1) 0 (drop (at + 1 + 2 * count) ws))
  pub whole : contours_from ws at n ≡ points_from ws (at + 1) count ∷ contours_from ws (at + 1 + 2 * count) (n - 1)
  pub end : end_of (length ws) (read_contours n 0 (drop at ws)) ≡ end_of (length ws) (read_contours (n - 1) 0 (drop (at + 1 + 2 * count) ws))

pub record NextContour (n : ℕ) (ws : List ℤ) (at : ℕ) : Type 0 where
  pub count : ℕ
  pub read : counted_of (read_count (drop at ws)) ≡ Ok count
  pub there : ContourThere n ws at count

pub next_contour : (n : ℕ) (ws : List ℤ) (at : ℕ) → 0 < n → Fine (read_contours n 0 (drop at ws)) → NextContour n ws at
unfolding read_contours read_contour
next_contour zero ws at h f = absurd (omega arith)
next_contour (suc n) ws at h f =
    let r = fine_read [] (read_contours (suc n) 0 (drop at ws)) f in
    let cs = contours_from ws at (suc n) in
    let x = then_ok (read_contour 0 (drop at ws)) _ cs r.0 r.1 in
    let y = then_ok (read_contours n (0 + length x.value) x.rest) _ cs r.0 x.second in
    let k = then_ok (read_count (drop at ws)) _ x.value x.rest x.first in
    let m = k.value in
    let p = cond_ok (ltb 2048 (0 + m)) CountOutOfRange (read_points m k.rest) x.value x.rest k.second in
    let b = count_next ws at m k.rest k.first in
    let q : read_points m (drop (at + 1) ws) ≡ ok x.value x.rest = ap (read_points m) (sym b.1) ∙ p.1 in
    let v = read_value [] (read_points m (drop (at + 1) ws)) x.value x.rest q in
    let j = points_there m ws (at + 1) x.value x.rest q in
    let o = contours_before n (0 + length x.value) 0 (omega arith) x.rest y.value y.rest y.first in
    let s = y.second in
    let u : cs ≡ x.value ∷ y.value = cc in
    let w : y.rest ≡ r.0 = cc in
    let z : suc n - 1 ≡ n = omega arith in
    let others = read_contours (suc n - 1) 0 (drop (at + 1 + 2 * m) ws) in
    let c : others ≡ ok y.value y.rest = rw z (ap (read_contours n 0) (sym j.behind) ∙ o) in
    let more = read_value [] others y.value y.rest c in
    record {
      count = m;
      read = ap counted_of k.first;
      there = record {
        points = read_fine (read_points m (drop (at + 1) ws)) x.value x.rest q;
        within = let k = b.0 in reach m ws (at + 1) (omega arith) j.there;
        size = ap length v ∙ points_length m (drop (at + 1) ws) x.value x.rest q;
        others = read_fine others y.value y.rest c;
        whole = u ∙ ap (λ (c : List Point). c ∷ y.value) (sym v)
            ∙ ap (λ (cs : List (List Point)). points_from ws (at + 1) m ∷ cs) (sym more);
        end = read_end (length ws) (read_contours (suc n) 0 (drop at ws)) cs r.0 r.1
            ∙ ap (λ (l : List ℤ). length ws - length l) (sym w)
            ∙ sym (read_end (length ws) others y.value y.rest c);
      };
    }

-- its count word says how many points it has, and is not refused
module _ (n : ℕ) (ws : List ℤ) (at : ℕ) (some : 0 < n) (fine : Fine (read_contours n 0 (drop at ws))) {r : Result ℕ Fault}
    (is : r ≡ counted_of (read_count (drop at ws))) where
  pub contour_there : {m : ℕ} → r ≡ Ok m → ContourThere n ws at m
  contour_there {m} e =
      let c = next_contour n ws at some fine in
      let told = c.read in
      let same : c.count ≡ m = cc in
      subst (ContourThere n ws at) same c.there

  pub contour_counted : {f : Fault} → r ≡ Err f → ⊥
  contour_counted e =
      let told = (next_contour n ws at some fine).read in
      let z : ◌≡◌ {A = ℕ} 0 1 = cc in
      omega arith

pub no_contour : (n : ℕ) (ws : List ℤ) (at : ℕ) → n ≤ 0 → at ≤ length ws
    → (contours_from ws at n ≡ []) × (end_of (length ws) (read_contours n 0 (drop at ws)) ≡ at)
unfolding read_contours
no_contour zero ws at h l = (refl, omega (arith, length-drop at ws))
no_contour (suc n) ws at h l = absurd (omega arith)

-- ---- a group: its rule word, its count and its contours
pub record GroupThere (ws : List ℤ) (at : ℕ) : Type 0 where
  pub count : ℕ
  pub rule : at < length ws
  pub read : counted_of (read_count (drop (at + 1) ws)) ≡ Ok count
  pub contours : Fine (read_contours count 0 (drop (at + 2) ws))
  pub within : at + 2 ≤ length ws
  pub whole : read_or no_group (read_group 0 (drop at ws)) ≡ record { rule = get_or ws at (pos 0); contours = contours_from ws (at + 2) count }
  pub end : end_of (length ws) (read_group 0 (drop at ws)) ≡ end_of (length ws) (read_contours count 0 (drop (at + 2) ws))

group_words : (w : ℤ) (ws : List ℤ) (g : Group) (rest : List ℤ) → read_group 0 (w ∷ ws) ≡ ok g rest
    → Both (read_count ws) (λ n more. and_then (read_contours n 0 more) (λ cs last. ok (record { rule = w; contours = cs }) last)) g rest
unfolding read_group
group_words w ws g rest e = then_ok (read_count ws) _ g rest e

pub group_there : (ws : List ℤ) (at : ℕ) → at < length ws → Fine (read_group 0 (drop at ws)) → GroupThere ws at
group_there ws at h f =
    let r = fine_read no_group (read_group 0 (drop at ws)) f in
    let g = read_or no_group (read_group 0 (drop at ws)) in
    let e : read_group 0 (get_or ws at (pos 0) ∷ drop (at + 1) ws) ≡ ok g r.0 = ap (read_group 0) (sym (at_word ws at h)) ∙ r.1 in
    let x = group_words (get_or ws at (pos 0)) (drop (at + 1) ws) g r.0 e in
    let m = x.value in
    let b = count_next ws (at + 1) m x.rest x.first in
    let j : at + 1 + 1 ≡ at + 2 = omega arith in
    let y = then_ok (read_contours m 0 x.rest) _ g r.0 x.second in
    let d : read_contours m 0 (drop (at + 2) ws) ≡ ok y.value y.rest = ap (read_contours m 0) (sym (b.1 ∙ ap (λ (k : ℕ). drop k ws) j)) ∙ y.first in
    let s = y.second in
    let u : g ≡ record { rule = get_or ws at (pos 0); contours = y.value } = cc in
    let w : y.rest ≡ r.0 = cc in
    record {
      count = m;
      rule = h;
      read = ap counted_of x.first;
      contours = read_fine (read_contours m 0 (drop (at + 2) ws)) y.value y.rest d;
      within = omega (arith, b.0);
      whole = u ∙ ap (λ (cs : List (List Point)). record { rule = get_or ws at (pos 0); contours = cs }) (sym (read_value [] (read_contours m 0 (drop (at + 2) ws)) y.value y.rest d));
      end = read_end (length ws) (read_group 0 (drop at ws)) g r.0 r.1
          ∙ ap (λ (l : List ℤ). length ws - length l) (sym w)
          ∙ sym (read_end (length ws) (read_contours m 0 (drop (at + 2) ws)) y.value y.rest d);
    }

-- ---- the groups that remain from a place on
pub record Remaining (ws : List ℤ) (at : ℕ) (gs : List Group) : Type 0 where
  pub fuel : ℕ
  pub before : ℕ
  pub rest : List ℤ
  pub enough : length ws - at ≤ fuel
  pub read : read_groups fuel before (drop at ws) ≡ ok gs rest

pub remaining_start : (ws : List ℤ) (gs : List Group) (rest : List ℤ) → read_words ws ≡ ok gs rest → Remaining ws 0 gs
unfolding read_words
remaining_start ws gs rest e = record { fuel = length ws; before = 0; rest = rest; enough = omega arith; read = e }

pub remaining_end : (ws : List ℤ) (at : ℕ) (gs : List Group) → length ws ≤ at → Remaining ws at gs → gs ≡ []
unfolding read_groups
remaining_end ws at gs h l = go l.fuel (ap (read_groups l.fuel l.before) (sym (at_end ws at h)) ∙ l.read)
  where
    go : (n : ℕ) → read_groups n l.before [] ≡ ok gs l.rest → gs ≡ []
    go zero e = cc
    go (suc n) e = cc

pub record NextGroup (ws : List ℤ) (at : ℕ) (gs : List Group) : Type 0 where
  pub others : List Group
  pub fine : Fine (read_group 0 (drop at ws))
  pub whole : gs ≡ read_or no_group (read_group 0 (drop at ws)) ∷ others
  pub forward : at + 2 ≤ end_of (length ws) (read_group 0 (drop at ws))
  pub within : end_of (length ws) (read_group 0 (drop at ws)) ≤ length ws
  pub remaining : Remaining ws (end_of (length ws) (read_group 0 (drop at ws))) others

pub next_group : (ws : List ℤ) (at : ℕ) (gs : List Group) → at < length ws → Remaining ws at gs → NextGroup ws at gs
next_group ws at gs h l = go l.fuel l.enough l.read
  where
    one_more : (n : ℕ) → read_groups (suc n) l.before (drop at ws)
        ≡ and_then (read_group l.before (drop at ws)) (λ g rest. and_then (read_groups n (l.before + points_of g.contours) rest) (λ gs more. ok (g ∷ gs) more))
    one_more n = unfold read_groups in rw (at_word ws at h) refl

    go : (n : ℕ) → length ws - at ≤ n → read_groups n l.before (drop at ws) ≡ ok gs l.rest → NextGroup ws at gs
    go zero enough e = absurd (omega arith)
    go (suc n) enough e =
        let x = then_ok (read_group l.before (drop at ws)) _ gs l.rest (sym (one_more n) ∙ e) in
        let y = then_ok (read_groups n (l.before + points_of x.value.contours) x.rest) _ gs l.rest x.second in
        let f = group_before l.before 0 (omega arith) (drop at ws) x.value x.rest x.first in
        let v = read_value no_group (read_group 0 (drop at ws)) x.value x.rest f in
        let p = placed 2 at ws x.value x.rest (omega arith) (subst (Ended 2 (drop at ws)) x.first (ended_group l.before (drop at ws))) in
        let k = read_end (length ws) (read_group 0 (drop at ws)) x.value x.rest f in
        let s = y.second in
        let u : gs ≡ x.value ∷ y.value = cc in
        record {
          others = y.value;
          fine = read_fine (read_group 0 (drop at ws)) x.value x.rest f;
          whole = u ∙ ap (λ (g : Group). g ∷ y.value) (sym v);
          forward = omega (arith, p.1, k);
          within = omega (arith, k);
          remaining = record {
            fuel = n;
            before = l.before + points_of x.value.contours;
            rest = y.rest;
            enough = omega (arith, enough, p.1, k);
            read = ap (read_groups n (l.before + points_of x.value.contours)) (sym (p.0 ∙ ap (λ (k : ℕ). drop k ws) (sym k))) ∙ y.first;
          };
        }

-- a list has at most 2,048 points
groups_few : (n before : ℕ) (ws : List ℤ) (gs : List Group) (rest : List ℤ) → before ≤ 2048 → read_groups n before ws ≡ ok gs rest → before + points_in gs ≤ 2048
unfolding read_groups points_in
groups_few zero before ws gs rest l e = let q : gs ≡ [] = cc in rw q (omega arith)
groups_few (suc n) before [] gs rest l e = let q : gs ≡ [] = cc in rw q (omega arith)
groups_few (suc n) before (w ∷ ws) gs rest l e =
    let x = then_ok (read_group before (w ∷ ws)) _ gs rest e in
    let y = then_ok (read_groups n (before + points_of x.value.contours) x.rest) _ gs rest x.second in
    let s = y.second in
    let q : gs ≡ x.value ∷ y.value = cc in
    let f = group_few before (w ∷ ws) x.value x.rest l x.first in
    let g = groups_few n (before + points_of x.value.contours) x.rest y.value y.rest f y.first in
    rw q (omega arith)

pub words_few : (ws : List ℤ) (gs : List Group) (rest : List ℤ) → read_words ws ≡ ok gs rest → points_in gs ≤ 2048
unfolding read_words
words_few ws gs rest e = let g = groups_few (length ws) 0 ws gs rest (omega arith) e in omega arith

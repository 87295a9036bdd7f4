-- The reading of word lists is the inverse of their writing (specs/Writer.antt). Assumes nothing.
use mathlib.Core.Path.{◌≡◌, refl, sym, ap, ◌∙◌}
use mathlib.Core.Bool.{false}
use mathlib.Core.List.{List, [], ◌∷◌, ◌++◌, append_assoc, append-nil}
use Prim.Native.Nat.{ℕ, zero, suc, ◌+◌, ◌≤◌}
use native.Mathlib.Omega.{arith}
use lib.Dec.{ltb}
use lib.IntN.{ℤ, pos, negsuc}
use lib.ListN.{length, length-append}
use borrow.Author.Tests.{le-ltb}
use Rattle.fault.specs.declared.Fault.TheVariants.{CountOutOfRange, CoordinateOutOfRange}
use Rattle.word_list.specs.Words.{Point, Group, points_of, points_in, ok, and_then, read_count, beyond}
use Rattle.word_list.specs.Words.{read_coordinate, read_point, read_points, read_contour, read_contours, read_group, read_groups, read_words}
use Rattle.word_list.specs.Writer.{points_words, contour_words, contours_words, group_words, words_of, PointsInLimit, ContoursInLimit, GroupsInLimit, Allowed, ReadsWhatIsWritten}
use Rattle.word_list.proofs.Ends.{then_ok, cond_ok}
use Rattle.word_list.proofs.Few.{points_length, group_few}
use Rattle.word_list.specs.Words.{group_points}

-- ---- what was written is read, whatever stands behind it
points_back : (ps : List Point) (rest : List ℤ) → PointsInLimit ps → read_points (length ps) (points_words ps ++ rest) ≡ ok ps rest
unfolding read_points read_point read_coordinate and_then points_words PointsInLimit
points_back [] rest h = refl
points_back (p ∷ ps) rest h = rw (h.0.0, h.0.1, points_back ps rest h.1) refl

contour_back : (before : ℕ) (c : List Point) (rest : List ℤ) → PointsInLimit c → before + length c ≤ 2048 → read_contour before (contour_words c ++ rest) ≡ ok c rest
unfolding read_contour read_count and_then
contour_back before c rest h l = rw (le-ltb 2048 (before + length c) l) (points_back c rest h)

contours_back : (before : ℕ) (cs : List (List Point)) (rest : List ℤ) → ContoursInLimit cs → before + points_of cs ≤ 2048
    → read_contours (length cs) before (contours_words cs ++ rest) ≡ ok cs rest
unfolding read_contours and_then contours_words ContoursInLimit points_of
contours_back before [] rest h l = refl
contours_back before (c ∷ cs) rest h l =
    rw (append_assoc (points_words c) (contours_words cs) rest, contour_back before c (contours_words cs ++ rest) h.0 (omega arith), contours_back (before + length c) cs rest h.1 (omega arith))
    refl

group_back : (before : ℕ) (g : Group) (rest : List ℤ) → ContoursInLimit g.contours → before + group_points g ≤ 2048 → read_group before (group_words g ++ rest) ≡ ok g rest
unfolding read_group read_count and_then
group_back before g rest h l = rw (contours_back before g.contours rest h l) refl

groups_back : (n before : ℕ) (gs : List Group) → GroupsInLimit gs → before + points_in gs ≤ 2048 → length gs ≤ n → read_groups n before (words_of gs) ≡ ok gs []
unfolding read_groups words_of GroupsInLimit points_in
groups_back zero before [] h l m = refl
groups_back (suc n) before [] h l m = refl
groups_back zero before (g ∷ gs) h l m = absurd (omega arith)
groups_back (suc n) before (g ∷ gs) h l m =
    rw (group_back before g (words_of gs) h.0 (omega arith)) (unfold and_then in rw (groups_back n (before + group_points g) gs h.1 (omega arith) (omega arith)) refl)

no_more : (gs : List Group) → length gs ≤ length (words_of gs)
unfolding words_of
no_more [] = omega arith
no_more (g ∷ gs) = omega (arith, no_more gs, length-append (contours_words g.contours) (words_of gs))

back : (gs : List Group) → Allowed gs → read_words (words_of gs) ≡ ok gs []
unfolding read_words
back gs a = groups_back (length (words_of gs)) 0 gs a.in_limit (omega (arith, a.few)) (no_more gs)

-- ---- what is read was written
coordinate_forth : (ws : List ℤ) (w : ℤ) (rest : List ℤ) → read_coordinate ws ≡ ok w rest → (ws ≡ w ∷ rest) × (beyond w ≡ false)
unfolding read_coordinate
coordinate_forth [] w rest e = let z : ◌≡◌ {A = ℕ} 0 1 = cc in absurd (omega arith)
coordinate_forth (v ∷ ws) w rest e =
    let a = cond_ok (beyond v) CoordinateOutOfRange (ok v ws) w rest e in
    let s = a.1 in
    let q : v ≡ w = cc in
    let r : ws ≡ rest = cc in
    (ap (λ (l : List ℤ). v ∷ l) r ∙ ap (λ (x : ℤ). x ∷ rest) q, ap beyond (sym q) ∙ a.0)

count_forth : (ws : List ℤ) (n : ℕ) (rest : List ℤ) → read_count ws ≡ ok n rest → ws ≡ pos n ∷ rest
unfolding read_count
count_forth [] n rest e = let z : ◌≡◌ {A = ℕ} 0 1 = cc in absurd (omega arith)
count_forth (pos m ∷ ws) n rest e = let q : m ≡ n = cc in let r : ws ≡ rest = cc in ap (λ (l : List ℤ). pos m ∷ l) r ∙ ap (λ (k : ℕ). pos k ∷ rest) q
count_forth (negsuc m ∷ ws) n rest e = let z : ◌≡◌ {A = ℕ} 0 1 = cc in absurd (omega arith)

points_forth : (n : ℕ) (ws : List ℤ) (ps : List Point) (rest : List ℤ) → read_points n ws ≡ ok ps rest → (ws ≡ points_words ps ++ rest) × PointsInLimit ps
unfolding read_points read_point points_words PointsInLimit
points_forth zero ws ps rest e = let q : ps ≡ [] = cc in let r : ws ≡ rest = cc in rw q (r, tt)
points_forth (suc n) ws ps rest e =
    let a = then_ok (read_point ws) _ ps rest e in
    let b = then_ok (read_points n a.rest) _ ps rest a.second in
    let x = then_ok (read_coordinate ws) _ a.value a.rest a.first in
    let y = then_ok (read_coordinate x.rest) _ a.value a.rest x.second in
    let p : Point = record { x = x.value; y = y.value } in
    let i = coordinate_forth ws x.value x.rest x.first in
    let j = coordinate_forth x.rest y.value y.rest y.first in
    let k = points_forth n a.rest b.value b.rest b.first in
    let s = b.second in
    let t = y.second in
    let v : a.value ≡ p = cc in
    let q : ps ≡ p ∷ b.value = cc in
    let r : b.rest ≡ rest = cc in
    let m : y.rest ≡ a.rest = cc in
    rw q (i.0 ∙ ap (λ (l : List ℤ). x.value ∷ l) (j.0 ∙ ap (λ (l : List ℤ). y.value ∷ l) (m ∙ k.0 ∙ ap (λ (l : List ℤ). points_words b.value ++ l) r)), ((i.1, j.1), k.1))

contour_forth : (before : ℕ) (ws : List ℤ) (c : List Point) (rest : List ℤ) → read_contour before ws ≡ ok c rest → (ws ≡ contour_words c ++ rest) × PointsInLimit c
unfolding read_contour
contour_forth before ws c rest e =
    let a = then_ok (read_count ws) _ c rest e in
    let b = cond_ok (ltb 2048 (before + a.value)) CountOutOfRange (read_points a.value a.rest) c rest a.second in
    let k = points_forth a.value a.rest c rest b.1 in
    let l = points_length a.value a.rest c rest b.1 in
    (count_forth ws a.value a.rest a.first ∙ ap (λ (m : ℕ). pos m ∷ a.rest) (sym l) ∙ ap (λ (l : List ℤ). pos (length c) ∷ l) k.0, k.1)

contours_forth : (n before : ℕ) (ws : List ℤ) (cs : List (List Point)) (rest : List ℤ) → read_contours n before ws ≡ ok cs rest
    → (ws ≡ contours_words cs ++ rest) × ContoursInLimit cs × (length cs ≡ n)
unfolding read_contours contours_words ContoursInLimit
contours_forth zero before ws cs rest e = let q : cs ≡ [] = cc in let r : ws ≡ rest = cc in rw q (r, tt, refl)
contours_forth (suc n) before ws cs rest e =
    let a = then_ok (read_contour before ws) _ cs rest e in
    let b = then_ok (read_contours n (before + length a.value) a.rest) _ cs rest a.second in
    let i = contour_forth before ws a.value a.rest a.first in
    let k = contours_forth n (before + length a.value) a.rest b.value b.rest b.first in
    let s = b.second in
    let q : cs ≡ a.value ∷ b.value = cc in
    let r : b.rest ≡ rest = cc in
    rw q (
      i.0 ∙ ap (λ (l : List ℤ). contour_words a.value ++ l) (k.0 ∙ ap (λ (l : List ℤ). contours_words b.value ++ l) r)
          ∙ sym (append_assoc (contour_words a.value) (contours_words b.value) rest),
      (i.1, k.1),
      ap suc k.2,
    )

group_forth : (before : ℕ) (ws : List ℤ) (g : Group) (rest : List ℤ) → read_group before ws ≡ ok g rest → (ws ≡ group_words g ++ rest) × ContoursInLimit g.contours
unfolding read_group
group_forth before [] g rest e = let z : ◌≡◌ {A = ℕ} 0 1 = cc in absurd (omega arith)
group_forth before (w ∷ ws) g rest e =
    let a = then_ok (read_count ws) _ g rest e in
    let b = then_ok (read_contours a.value before a.rest) _ g rest a.second in
    let k = contours_forth a.value before a.rest b.value b.rest b.first in
    let s = b.second in
    let q : g ≡ record { rule = w; contours = b.value } = cc in
    let r : b.rest ≡ rest = cc in
    rw q (
      ap (λ (l : List ℤ). w ∷ l)
          (count_forth ws a.value a.rest a.first ∙ ap (λ (m : ℕ). pos m ∷ a.rest) (sym k.2)
          ∙ ap (λ (l : List ℤ). pos (length b.value) ∷ l) (k.0 ∙ ap (λ (l : List ℤ). contours_words b.value ++ l) r)),
      k.1,
    )

-- groups: their words, and that none is left where enough are read
pub record Written (n before : ℕ) (ws : List ℤ) (gs : List Group) (rest : List ℤ) : Type 0 where
  pub words : ws ≡ words_of gs ++ rest
  pub in_limit : GroupsInLimit gs
  pub few : before + points_in gs ≤ 2048
  pub all : length ws ≤ n → rest ≡ []

groups_forth : (n before : ℕ) (ws : List ℤ) (gs : List Group) (rest : List ℤ) → before ≤ 2048 → read_groups n before ws ≡ ok gs rest → Written n before ws gs rest
unfolding read_groups words_of GroupsInLimit points_in
groups_forth zero before [] gs rest l e =
    let q : gs ≡ [] = cc in
    let r : [] ≡ rest = cc in
    rw q (record { words = r; in_limit = tt; few = omega arith; all = λ h. sym r })
groups_forth zero before (w ∷ ws) gs rest l e =
    let q : gs ≡ [] = cc in
    let r : w ∷ ws ≡ rest = cc in
    rw q (record { words = r; in_limit = tt; few = omega arith; all = λ h. absurd (omega arith) })
groups_forth (suc n) before [] gs rest l e =
    let q : gs ≡ [] = cc in
    let r : [] ≡ rest = cc in
    rw q (record { words = r; in_limit = tt; few = omega arith; all = λ h. sym r })
groups_forth (suc n) before (w ∷ ws) gs rest l e =
    let a = then_ok (read_group before (w ∷ ws)) _ gs rest e in
    let g = a.value in
    let b = then_ok (read_groups n (before + group_points g) a.rest) _ gs rest a.second in
    let i = group_forth before (w ∷ ws) g a.rest a.first in
    let k = groups_forth n (before + group_points g) a.rest b.value b.rest (group_few before (w ∷ ws) g a.rest l a.first) b.first in
    let s = b.second in
    let q : gs ≡ g ∷ b.value = cc in
    let r : b.rest ≡ rest = cc in
    let m : length (w ∷ ws) ≡ length (group_words g) + length a.rest = ap length i.0 ∙ length-append (group_words g) a.rest in
    let d : length (group_words g) ≡ suc (suc (length (contours_words g.contours))) = refl in
    rw q (record {
      words = i.0 ∙ ap (λ (l : List ℤ). group_words g ++ l) (k.words ∙ ap (λ (l : List ℤ). words_of b.value ++ l) r) ∙ sym (append_assoc (group_words g) (words_of b.value) rest);
      in_limit = (i.1, k.in_limit);
      few = omega (arith, k.few);
      all = λ h. sym r ∙ k.all (omega (arith, m, d, h));
    })

forth : (ws : List ℤ) (gs : List Group) (rest : List ℤ) → read_words ws ≡ ok gs rest → (rest ≡ []) × (ws ≡ words_of gs) × Allowed gs
unfolding read_words
forth ws gs rest e =
    let k = groups_forth (length ws) 0 ws gs rest (omega arith) e in
    let none = k.all (omega arith) in
    (none, k.words ∙ ap (λ (l : List ℤ). words_of gs ++ l) none ∙ append-nil (words_of gs), record { in_limit = k.in_limit; few = omega (arith, k.few) })

pub reads_what_is_written : ReadsWhatIsWritten
reads_what_is_written = record { back = back; forth = forth }

-- How many points are read: as many as a count says, and no more than the list's limit. Assumes nothing.
use mathlib.Core.Path.{◌≡◌, refl, ap}
use mathlib.Core.List.{List, [], ◌∷◌}
use Prim.Native.Nat.{ℕ, zero, suc, ◌+◌, ◌≤◌}
use native.Mathlib.Omega.{arith}
use lib.Dec.{ltb}
use lib.IntN.{ℤ}
use lib.ListN.{length}
use borrow.Author.Tests.{ltb-false}
use Rattle.fault.specs.declared.Fault.TheVariants.{CountOutOfRange}
use Rattle.word_list.specs.Words.{Point, Group, points_of, group_points, ok}
use Rattle.word_list.specs.Words.{read_count, read_point, read_points, read_contour, read_contours, read_group}
use Rattle.word_list.proofs.Ends.{then_ok, cond_ok}

pub points_length : (n : ℕ) (ws : List ℤ) (ps : List Point) (rest : List ℤ) → read_points n ws ≡ ok ps rest → length ps ≡ n
unfolding read_points
points_length zero ws ps rest e = let q : ps ≡ [] = cc in rw q refl
points_length (suc n) ws ps rest e =
    let a = then_ok (read_point ws) _ ps rest e in
    let b = then_ok (read_points n a.rest) _ ps rest a.second in
    let s = b.second in
    let q : ps ≡ a.value ∷ b.value = cc in
    rw q (ap suc (points_length n a.rest b.value b.rest b.first))

-- the points of a contour, of contours and of a group stay within the list's limit
pub contour_few : (before : ℕ) (ws : List ℤ) (c : List Point) (rest : List ℤ) → read_contour before ws ≡ ok c rest → before + length c ≤ 2048
unfolding read_contour
contour_few before ws c rest e =
    let a = then_ok (read_count ws) _ c rest e in
    let b = cond_ok (ltb 2048 (before + a.value)) CountOutOfRange (read_points a.value a.rest) c rest a.second in
    omega (arith, ltb-false 2048 (before + a.value) b.0, points_length a.value a.rest c rest b.1)

pub contours_few : (n before : ℕ) (ws : List ℤ) (cs : List (List Point)) (rest : List ℤ) → before ≤ 2048
    → read_contours n before ws ≡ ok cs rest → before + points_of cs ≤ 2048
unfolding read_contours points_of
contours_few zero before ws cs rest l e = let q : cs ≡ [] = cc in rw q (omega arith)
contours_few (suc n) before ws cs rest l e =
    let a = then_ok (read_contour before ws) _ cs rest e in
    let b = then_ok (read_contours n (before + length a.value) a.rest) _ cs rest a.second in
    let s = b.second in
    let q : cs ≡ a.value ∷ b.value = cc in
    let k = contour_few before ws a.value a.rest a.first in
    let f = contours_few n (before + length a.value) a.rest b.value b.rest k b.first in
    rw q (omega arith)

pub group_few : (before : ℕ) (ws : List ℤ) (g : Group) (rest : List ℤ) → before ≤ 2048 → read_group before ws ≡ ok g rest → before + group_points g ≤ 2048
unfolding read_group
group_few before [] g rest l e = let z : ◌≡◌ {A = ℕ} 0 1 = cc in absurd (omega arith)
group_few before (w ∷ ws) g rest l e =
    let a = then_ok (read_count ws) _ g rest e in
    let b = then_ok (read_contours a.value before a.rest) _ g rest a.second in
    let s = b.second in
    let q : g ≡ record { rule = w; contours = b.value } = cc in
    rw q (contours_few a.value before a.rest b.value b.rest l b.first)

-- A drawing's cell, from those of its groups: bytes add up to 255, shares to 1, and the errors add up. Assumes nothing.
use mathlib.Core.Path.{◌≡◌, refl, sym, ap, ◌∙◌}
use mathlib.Core.List.{List, [], ◌∷◌}
use Prim.Native.Nat.{ℕ, zero, suc, ◌+◌, ◌≤◌, ◌<◌, min}
use native.Mathlib.Nat.{not-suc-le-zero, le_of_suc-le-suc}
use native.Mathlib.Decide.{dec_le}
use native.Mathlib.Omega.{arith}
use lib.ListN.{length, get_or, replicate, length-replicate, get_or-replicate}
use Rattle.fraction.specs.Fraction.{Fraction, ◌≤ᶠ◌, ◌≈ᶠ◌, natᶠ, ◌/2^◌, ◌+ᶠ◌, ◌*ᶠ◌, minᶠ, Near}
use Rattle.fraction.proofs.Linear.{at_le, at_eq, eq_at, add_at, scale_at, over, lit≈}
use Rattle.fraction.proofs.Order.{of_eq, sym≈, trans≈, mul_cong}
use Rattle.fraction.proofs.Near.{near_weaken, near_same, near_add, near_refl}
use Rattle.fraction.proofs.Clamp.{min_at, min_left, min_right, near_min}
use Rattle.rounding.proofs.Round.{near_to}
use Rattle.word_list.specs.Words.{Group, even_odd}
use Rattle.winding.specs.Winding.{exact_edges, mean_winding, group_share}
use Rattle.winding.specs.Drawn.{sum_of_shares, drawn_share}
use Rattle.sweep.specs.Bytes.{add_bytes}
use Rattle.cells.specs.declared.Size.{Size}
use Rattle.coverage.specs.Drawing.{group_row, add_groups, drawing_row}
use Rattle.coverage.proofs.Places.{length_added}
use Rattle.bound.specs.Counted.{count_at, allowed_difference_at}
use Rattle.bound.proofs.Entries.{none_plus, plus_none}
use Rattle.bound.proofs.Share.{share_range, near_nonneg}
use Rattle.bound.proofs.GroupRow.{GroupOk}

-- ---- bytes added
add_get : (l bs : List ℕ) (c : ℕ) → c < length l → length bs ≡ length l → get_or (add_bytes l bs) c 0 ≡ min (get_or l c 0 + get_or bs c 0) 255
unfolding add_bytes
add_get [] bs c k e = absurd (not-suc-le-zero k)
add_get (a ∷ l) [] c k e = absurd (none (length l) e)
  where
    none : (n : ℕ) → 0 ≡ suc n → ⊥
    none n e = omega arith
add_get (a ∷ l) (b ∷ bs) zero k e = refl
add_get (a ∷ l) (b ∷ bs) (suc c) k e = add_get l bs c (le_of_suc-le-suc k) (omega (arith, e))

abbrev pub GroupsOk : Size → ℕ → List Group → Type 0
GroupsOk size row [] = Unit {0}
GroupsOk size row (g ∷ gs) = GroupOk size row g × GroupsOk size row gs

module _ (size : Size) (row : ℕ) where
  -- a cell's byte after the groups, from v on
  abbrev cell : List Group → ℕ → ℕ → ℕ
  cell [] c v = v
  cell (g ∷ gs) c v = cell gs c (min (v + get_or (group_row size g row) c 0) 255)

  groups_get : (gs : List Group) (line : List ℕ) (c : ℕ) → length line ≡ size.width → c < size.width → GroupsOk size row gs → get_or (add_groups size row line gs) c 0 ≡ cell gs c (get_or line c 0)
  unfolding add_groups
  groups_get [] line c e k ok = refl
  groups_get (g ∷ gs) line c e k ok =
      groups_get gs (add_bytes line (group_row size g row)) c (length_added line (group_row size g row) ∙ e) k ok.1
      ∙ ap (λ (v : ℕ). cell gs c v) (add_get line (group_row size g row) c (omega (arith, e)) (ok.0.wide ∙ sym e))

  row_get : (gs : List Group) (c : ℕ) → c < size.width → GroupsOk size row gs → get_or (drawing_row size gs row) c 0 ≡ cell gs c 0
  row_get gs c k ok = groups_get gs (replicate size.width 0) c (length-replicate size.width 0) k ok ∙ ap (λ (v : ℕ). cell gs c v) (get_or-replicate size.width c 0 0 k)

  -- ---- the errors
  nat_min : (v b : ℕ) → minᶠ (natᶠ v +ᶠ natᶠ b) (natᶠ 255) ≈ᶠ natᶠ (min (v + b) 255)
  unfolding ◌+ᶠ◌
  nat_min v b = go (dec_le (v + b) 255)
    where
      go : Dec (v + b ≤ 255) → minᶠ (natᶠ v +ᶠ natᶠ b) (natᶠ 255) ≈ᶠ natᶠ (min (v + b) 255)
      go (yes h) = trans≈ (min_left (natᶠ v +ᶠ natᶠ b) (natᶠ 255) (record { le = omega arith })) (record { eq = omega arith })
      go (no h) = trans≈ (min_right (natᶠ v +ᶠ natᶠ b) (natᶠ 255) (record { le = omega arith })) (record { eq = omega arith })

  -- 255 min (σ, 1) + 255 s, at most 255, is 255 min (σ + s, 1)
  cap : (σ s : Fraction) → natᶠ 0 ≤ᶠ s → minᶠ (natᶠ 255 *ᶠ minᶠ σ (natᶠ 1) +ᶠ natᶠ 255 *ᶠ s) (natᶠ 255) ≈ᶠ natᶠ 255 *ᶠ minᶠ (σ +ᶠ s) (natᶠ 1)
  cap σ s p = over (σ ∷ s ∷ natᶠ 0 ∷ natᶠ 1 ∷ natᶠ 255 ∷ natᶠ 255 *ᶠ minᶠ σ (natᶠ 1) ∷ natᶠ 255 *ᶠ s ∷ natᶠ 255 *ᶠ minᶠ (σ +ᶠ s) (natᶠ 1) ∷ []) (λ N n X Y O I C A B D.
      eq_at N (min_at N n (add_at N A B) C) D n (omega (
        arith,
        O.is,
        I.is,
        C.is,
        at_le N O Y p,
        scale_at N (natᶠ 255) (min_at N n X I) A,
        scale_at N (natᶠ 255) Y B,
        scale_at N (natᶠ 255) (min_at N n (add_at N X Y) I) D,
      )))

  share_nonneg : (g : Group) (c : ℕ) → natᶠ 0 ≤ᶠ group_share g c row
  share_nonneg g c = (share_range (even_odd g) (mean_winding (exact_edges g.contours) c row)).0

  assoc : (x y z : Fraction) → x +ᶠ y +ᶠ z ≈ᶠ x +ᶠ (y +ᶠ z)
  assoc x y z = over (x ∷ y ∷ z ∷ []) (λ N m X Y Z. eq_at N (add_at N (add_at N X Y) Z) (add_at N X (add_at N Y Z)) m (omega arith))

  min_cong : {x y : Fraction} → x ≈ᶠ y → minᶠ x (natᶠ 1) ≈ᶠ minᶠ y (natᶠ 1)
  min_cong {x} {y} e = over (x ∷ y ∷ natᶠ 1 ∷ []) (λ N n X Y I. eq_at N (min_at N n X I) (min_at N n Y I) n (omega (arith, at_eq N X Y e)))

  cell_near : (gs : List Group) (c v : ℕ) (σ A : Fraction) → c < size.width → GroupsOk size row gs → Near (natᶠ v) (natᶠ 255 *ᶠ minᶠ σ (natᶠ 1)) A
      → Near (natᶠ (cell gs c v)) (natᶠ 255 *ᶠ minᶠ (σ +ᶠ sum_of_shares gs c row) (natᶠ 1)) (A +ᶠ allowed_difference_at gs c row)
  unfolding sum_of_shares
  cell_near [] c v σ A l k n = near_weaken (near_to (mul_cong (natᶠ 255) (min_cong (sym≈ (plus_none σ)))) n) (of_eq (sym≈ (plus_none A)))
  cell_near (g ∷ gs) c v σ A l k n =
      let b = get_or (group_row size g row) c 0 in
      let s = group_share g c row in
      let B = natᶠ (count_at (exact_edges g.contours) c row) +ᶠ 1 /2^ 1 in
      let sum = near_add n (k.0.near c l) in
      let capped = near_same (nat_min v b) (near_to (cap σ s (share_nonneg g c)) (near_min (natᶠ 255) (near_nonneg sum) sum)) in
      let rest = cell_near gs c (min (v + b) 255) (σ +ᶠ s) (A +ᶠ B) l k.1 capped in
      near_weaken (near_to (mul_cong (natᶠ 255) (min_cong (assoc σ s (sum_of_shares gs c row)))) rest) (of_eq (assoc A B (allowed_difference_at gs c row)))

  -- ---- THE DRAWING'S CELL
  pub row_near : (gs : List Group) (c : ℕ) → c < size.width → GroupsOk size row gs → Near (natᶠ (get_or (drawing_row size gs row) c 0)) (natᶠ 255 *ᶠ drawn_share gs c row) (allowed_difference_at gs c row)
  row_near gs c k ok = rw (row_get gs c k ok)
      (near_weaken (near_to (mul_cong (natᶠ 255) (min_cong (none_plus (sum_of_shares gs c row)))) (cell_near gs c 0 (natᶠ 0) (natᶠ 0) k ok start)) (of_eq (none_plus (allowed_difference_at gs c row))))
    where
      start : Near (natᶠ 0) (natᶠ 255 *ᶠ minᶠ (natᶠ 0) (natᶠ 1)) (natᶠ 0)
      start = near_to {y = natᶠ 0} (unfold ◌*ᶠ◌ minᶠ in lit≈ tt) (near_refl (natᶠ 0))

-- The loop over an outline's points, and its four corners. Assumes nothing.
use mathlib.Core.Path.{◌≡◌, refl, ◌∙◌}
use mathlib.Core.Bool.{true, false}
use mathlib.Core.List.{List, [], ◌∷◌, ◌++◌, append-nil}
use Prim.Native.Nat.{ℕ, ◌+◌, ◌-◌, ◌%◌, ◌≤◌, ◌<◌}
use native.Mathlib.Nat.{le_antisymm, mod-lt}
use native.Mathlib.Numerals.{add-one}
use native.Mathlib.Omega.{arith}
use lib.ListN.{length, get_or, set, take, length-append, length-set}
use lib.Ieee.{Float}
use Rattle.std.specs.Prelude.{None}
use Rattle.std.proofs.lemmas.List.{take_more_set, get_or_default}
use Rattle.geometry.specs.declared.Position.{Position}
use Rattle.fit.specs.Fit.{turns_of, turns_at_of, corners_below, corners_of, four_of}
use Rattle.outline.specs.Contour.{origin}
use Rattle.fit.specs.Kept.{Turned}

-- ---- where the outline turns
module _ (points : List Position) (i : ℕ) (h : i < length points) where
  abbrev n : ℕ
  n = length points

  pub before_lt : (i + n - 1) % n < n
  before_lt = let some : 0 < n = omega arith in mod-lt (i + n - 1) some

  pub after_lt : (i + 1) % n < n
  after_lt = let some : 0 < n = omega arith in mod-lt (i + 1) some

  pub turns_here : (size : Float) (d : Position)
      → turns_of (get_or points ((i + n - 1) % n) d) (get_or points i d) (get_or points ((i + 1) % n) d) size ≡ turns_at_of points n size i
  unfolding turns_at_of
  turns_here size d =
      rw (
        get_or_default points ((i + n - 1) % n) d origin before_lt,
        get_or_default points i d origin h,
        get_or_default points ((i + 1) % n) d origin after_lt,
      )

-- the turning points among the first i, m of them
pub record Cornered (points : List Position) (size : Float) (kept : List Position) (m i : ℕ) : Type 0 where
  pub most : i ≤ length points
  pub few : m ≤ i
  pub counted : m ≡ length (corners_below points (length points) size i)
  pub found : m ≤ 4 → take m kept ≡ corners_below points (length points) size i
  pub wide : length kept ≡ 4

pub corner_none : {points : List Position} {size : Float} {kept : List Position} → length kept ≡ 4 → Cornered points size kept 0 0
unfolding corners_below
corner_none wide = record { most = omega arith; few = omega arith; counted = refl; found = λ h. refl; wide = wide }

module _ {points : List Position} {size : Float} {kept : List Position} {m i : ℕ} (s : Cornered points size kept m i) where
  pub corner_all : length points ≤ i → Turned points size m kept
  corner_all h =
      let all = le_antisymm s.most h in
      record { counted = s.counted ∙ rw all refl; corners = λ l. s.found l ∙ rw all refl }

  module _ (h : i < length points) where
    module _ (e : turns_at_of points (length points) size i ≡ true) where
      one_more : corners_below points (length points) size (i + 1) ≡ corners_below points (length points) size i ++ (get_or points i origin ∷ [])
      unfolding corners_below
      one_more = rw (add-one i, e) refl

      more : m + 1 ≡ length (corners_below points (length points) size (i + 1))
      more = rw (one_more, length-append, s.counted) refl

      pub corner_here : m < 4 → (d : Position) → Cornered points size (set kept m (get_or points i d)) (m + 1) (i + 1)
      corner_here l d =
          let few = s.few in
          let inside : m < length kept = rw s.wide l in
          record {
            most = omega arith;
            few = omega arith;
            counted = more;
            found =
                λ k. take_more_set kept m (get_or points i d) inside
                ∙ rw (one_more, s.found (omega arith), get_or_default points i d origin h) refl;
            wide = rw length-set s.wide;
          }

      pub corner_past : 4 ≤ m → Cornered points size kept (m + 1) (i + 1)
      corner_past l =
          let few = s.few in
          record { most = omega arith; few = omega arith; counted = more; found = λ k. absurd (omega arith); wide = s.wide }

    module _ (e : turns_at_of points (length points) size i ≡ false) where
      no_more : corners_below points (length points) size (i + 1) ≡ corners_below points (length points) size i
      unfolding corners_below
      no_more = rw (add-one i, e) (append-nil (corners_below points (length points) size i))

      pub corner_not : Cornered points size kept m (i + 1)
      corner_not =
          let few = s.few in
          record {
            most = omega arith;
            few = omega arith;
            counted = s.counted ∙ rw no_more refl;
            found = λ k. s.found k ∙ rw no_more refl;
            wide = s.wide;
          }

-- ---- exactly four

not_four : (l : List Position) (size : Float) → (length l ≡ 4 → ⊥) → None ≡ four_of l size
not_four [] size h = refl
not_four (p ∷ []) size h = refl
not_four (p ∷ q ∷ []) size h = refl
not_four (p ∷ q ∷ r ∷ []) size h = refl
not_four (p ∷ q ∷ r ∷ s ∷ []) size h = absurd (h refl)
not_four (p ∷ q ∷ r ∷ s ∷ t ∷ l) size h = refl

pub not_four_in : {points : List Position} {size : Float} {m : ℕ} {kept : List Position} → Turned points size m kept → (m ≡ 4 → ⊥)
    → None ≡ four_of (corners_of points size) size
not_four_in {points} {size} t h = not_four (corners_of points size) size (λ e. h (t.counted ∙ e))

-- the first four of a list
pub first_four : (l : List Position) (d : Position) → 4 ≤ length l → take 4 l ≡ get_or l 0 d ∷ get_or l 1 d ∷ get_or l 2 d ∷ get_or l 3 d ∷ []
first_four [] d h = absurd (omega arith)
first_four (p ∷ []) d h = absurd (omega arith)
first_four (p ∷ q ∷ []) d h = absurd (omega arith)
first_four (p ∷ q ∷ r ∷ []) d h = absurd (omega arith)
first_four (p ∷ q ∷ r ∷ s ∷ l) d h = refl

-- The loop that keeps the ends of the segments, as long as all are lines. Assumes nothing.
use mathlib.Core.Path.{◌≡◌, refl, sym, ap, ◌∙◌, subst}
use mathlib.Core.Bool.{Bool, true, cond}
use mathlib.Core.List.{List, [], ◌∷◌, ◌++◌}
use Prim.Native.Nat.{ℕ, ◌+◌, ◌≤◌, ◌<◌}
use native.Mathlib.Omega.{arith}
use lib.ListN.{length, set, take, length-append, length-set}
use lib.Ieee.{Float}
use Rattle.geometry.specs.declared.Position.{Position}
use Rattle.path.specs.declared.Verb.{Verb}
use Rattle.path.specs.declared.Verb.TheVariants as verb
use Rattle.outline.specs.declared.Segment.{Segment}
use Rattle.outline.specs.declared.Segment.TheVariants as segment
use Rattle.outline.specs.declared.Walk.{Walk}
use Rattle.std.specs.Prelude.{Some}
use Rattle.outline.specs.Outline.{most_points, most_verbs}
use Rattle.outline.specs.Contour.{Contour, new_contour, pushed_of, contour_step_of, contour_of, line_points_of, all_lines_of}
use Rattle.outline.specs.Kept.{walk_of, Ended}
use Rattle.outline.proofs.Walking.{lines_and_line, lines_and_curve}
use Rattle.std.proofs.lemmas.List.{take-set, take_more_set}
use Rattle.outline.proofs.Contouring.{Holds, Walking, moved, lined, curved, most, ended_at, ended_few}

-- the ends but the last are stored
pub record Ends (points : List Position) (k : Contour) : Type 0 where
  pub ends : all_lines_of k.segments ≡ true → take (length k.segments) points ++ (k.last ∷ []) ≡ k.start ∷ line_points_of k.segments
  pub wide : length points ≡ most_points

pub no_ends : {points : List Position} → length points ≡ most_points → Ends points new_contour
no_ends wide = record { ends = λ h. refl; wide = wide }

points_and_line : (ss : List Segment) (x y : Float) → line_points_of (ss ++ (segment.Line x y ∷ [])) ≡ line_points_of ss ++ (record { x = x; y = y } ∷ [])
points_and_line [] x y = refl
points_and_line (segment.Line a b ∷ ss) x y = ap (λ (l : List Position). record { x = a; y = b } ∷ l) (points_and_line ss x y)
points_and_line (segment.Cubic a b c d e f ∷ ss) x y = points_and_line ss x y

-- ---- one verb, the last end stored first

module _ {points : List Position} (k : Contour) (e : Ends points k) (few : length k.segments ≤ most_verbs) where
  abbrev n : ℕ
  n = length k.segments

  abbrev points₁ : List Position
  points₁ = set points n k.last

  room : n < length points
  room = rw e.wide (omega arith)

  with_ends : {k₁ : Contour} → (all_lines_of k₁.segments ≡ true → take (length k₁.segments) points₁ ++ (k₁.last ∷ []) ≡ k₁.start ∷ line_points_of k₁.segments)
      → Ends points₁ k₁
  with_ends h = record { ends = h; wide = rw length-set e.wide }

  -- the same segments and the same last position
  still : Ends points₁ k
  still = with_ends (λ h. rw take-set (e.ends h))

  pub all_stored : all_lines_of k.segments ≡ true → take (n + 1) points₁ ≡ k.start ∷ line_points_of k.segments
  all_stored h = take_more_set points n k.last room ∙ e.ends h

  by_line : (x y : Float) → Ends points₁ (pushed_of k (segment.Line x y) (record { x = x; y = y }))
  by_line x y =
      with_ends
      (λ h. rw (length-append, points_and_line)
      (ap (λ (l : List Position). l ++ (record { x = x; y = y } ∷ [])) (all_stored (sym (lines_and_line k.segments x y) ∙ h))))

  by_curve : (a b c d x y : Float) → Ends points₁ (pushed_of k (segment.Cubic a b c d x y) (record { x = x; y = y }))
  by_curve a b c d x y = with_ends (λ h. absurd (subst (λ (t : Bool). cond t ⊥ Unit) (sym (lines_and_curve k.segments a b c d x y) ∙ h) tt))

  pub ends_after : (v : Verb) → Holds (Ends points₁) (contour_step_of k v)
  ends_after (verb.MoveTo x y) = moved k (Ends points₁) (λ p none. with_ends (λ h. rw none refl)) (record { x = x; y = y })
  ends_after (verb.LineTo x y) = lined k (Ends points₁) still x y (by_line x y)
  ends_after (verb.BezierTo a b c d x y) = curved k (Ends points₁) a b c d x y (by_curve a b c d x y)
  ends_after verb.Solid = still
  ends_after verb.Hole = still
  ends_after verb.Close = with_ends still.ends

-- ---- the loop

module _ {points : List Position} {verbs : List ℕ} {positions : List Float} {w : Walk} {i at : ℕ} (s : Walking (Ends points) verbs positions w i at)
    (small : length verbs ≤ most_verbs) where
  pub ends_kept : (v : Verb) → Holds (Ends (set points w.count w.last)) (contour_step_of s.contour v)
  unfolding walk_of
  ends_kept v = rw s.stands (ends_after s.contour s.kept (most s small) v)

  pub ends_all : length verbs ≤ i → Ended (contour_of verbs positions) (Some w) (set points w.count w.last)
  unfolding walk_of
  ends_all done =
      rw (ended_at s done, s.stands)
      (record { stands = refl; few = ended_few s done small; points = all_stored s.contour s.kept (most s small) })

-- The end of the walk: the contour is closed, and its points and segments are those that are kept. Assumes nothing.
use mathlib.Core.Path.{◌≡◌, refl, sym, ap, ◌∙◌}
use mathlib.Core.Bool.{Bool, true, false, cond}
use mathlib.Core.List.{List, [], ◌∷◌, ◌++◌}
use Prim.Native.Nat.{ℕ, zero, suc, ◌+◌, ◌-◌, ◌≤◌, ◌<◌}
use native.Mathlib.Omega.{arith}
use lib.ListN.{length, take, length-append}
use lib.Seq.{take-append_seam, take-take}
use Rattle.geometry.specs.declared.Position.{Position}
use Rattle.std.specs.Prelude.{Option, Some, None}
use Rattle.shape.specs.declared.RoundedBox.{RoundedBox}
use Rattle.outline.specs.declared.Segment.{Segment}
use Rattle.outline.specs.declared.Segment.TheVariants as segment
use Rattle.outline.specs.declared.Walk.{Walk}
use Rattle.outline.specs.Outline.{most_verbs}
use Rattle.outline.specs.Contour.{Contour, Walked, stopped, reached, same_place_of, line_points_of, all_lines_of}
use Rattle.outline.specs.Kept.{walk_of, count_of, EndedAt, Ended, Stored}
use Rattle.outline.proofs.Walking.{empty_none, empty_some, lines_and_line}
use Rattle.rounded.specs.declared.Fitted.{Fitted}
use Rattle.rounded.specs.Rounded.{rounded_of}
use Rattle.fit.specs.Kept.{Reached}
use Rattle.fit.specs.Fit.{parallelogram_of, closed_of, points_of, whole_of, segments_fitted_of, contour_fitted_of, walked_fitted_of}

lines_take : (ss : List Segment) (m : ℕ) → all_lines_of ss ≡ true → line_points_of (take m ss) ≡ take m (line_points_of ss)
lines_take ss zero h = refl
lines_take [] (suc m) h = refl
lines_take (segment.Line x y ∷ ss) (suc m) h = ap (λ (l : List Position). record { x = x; y = y } ∷ l) (lines_take ss m h)
lines_take (segment.Cubic a b c d x y ∷ ss) (suc m) h = let z : ◌≡◌ {A = ℕ} 0 1 = cc in absurd (omega arith)

all_but_pushed : (ss : List Segment) (s : Segment) → take (length (ss ++ (s ∷ [])) - 1) (ss ++ (s ∷ [])) ≡ ss
all_but_pushed ss s =
    let count : length (ss ++ (s ∷ [])) - 1 ≡ length ss = let e : length (ss ++ (s ∷ [])) ≡ length ss + 1 = length-append ss (s ∷ []) in omega arith in
    rw count (take-append_seam ss (s ∷ []))

-- the first n of n + 1 points
first_points : (points : List Position) (n : ℕ) → take n points ≡ take n (take (n + 1) points)
first_points points n = sym (take-take n (n + 1) points (omega arith))

-- ---- the closed contour, by whether it is back at its start
abbrev closed_by : Contour → Bool → List Segment
closed_by k back = cond back k.segments (k.segments ++ (segment.Line k.start.x k.start.y ∷ []))

closed_lines : (k : Contour) (back : Bool) → all_lines_of (closed_by k back) ≡ all_lines_of k.segments
closed_lines k true = refl
closed_lines k false = lines_and_line k.segments k.start.x k.start.y

-- a contour that has begun has room for a line more
pub room : (n : ℕ) (b : Bool) → n + count_of b ≤ most_verbs → b ≡ true → n < most_verbs
room n b h e = let f : n + count_of true ≤ most_verbs = rw e at h in omega arith

-- how many segments a walk has
pub counted : {w : Walk} (k : Contour) → w ≡ walk_of k → w.count ≡ length k.segments
unfolding walk_of
counted k e = rw e

-- ---- `closed_count`
module _ {w : Walk} (k : Contour) (e : w ≡ walk_of k) {b : Bool}
    (p : b ≡ same_place_of w.last w.start) where
  back : b ≡ same_place_of k.last k.start
  unfolding walk_of
  back = rw e at p

  pub count_back : b ≡ true → w.count ≡ length (closed_of k)
  count_back h = rw (← back, h) (counted k e)

  pub count_on : b ≡ false → w.count + 1 ≡ length (closed_of k)
  count_on h = rw (← back, h, length-append, ← counted k e)

-- ---- `curved`: the closing line is kept behind the segments
module _ {w : Walk} (k : Contour) (e : w ≡ walk_of k) {b : Bool} (p : b ≡ same_place_of w.last w.start) {segments : List Segment} (kept : segments ≡ k.segments) where
  start_is : w.start ≡ k.start
  unfolding walk_of
  start_is = rw e

  pub curved_back : {r : Option Fitted} → b ≡ true → r ≡ rounded_of w.start segments → r ≡ rounded_of k.start (closed_of k)
  curved_back h f = f ∙ rw (← back k e p, h, start_is, kept)

  pub curved_on : {r : Option Fitted} → b ≡ false → r ≡ rounded_of w.start (segments ++ (segment.Line w.start.x w.start.y ∷ [])) → r ≡ rounded_of k.start (closed_of k)
  curved_on h f = f ∙ rw (← back k e p, h, start_is, kept)

-- what is kept of the segments
pub stored_is : {z : Walked} {k : Contour} {segments : List Segment} → z ≡ reached k → Stored z segments → segments ≡ k.segments
stored_is e s = rw e at s

-- ---- `closed`
module _ {k : Contour} {w : Walk} {points : List Position} (h : EndedAt k (Some w) points) where
  pub stands : w ≡ walk_of k
  stands = let e : ◌≡◌ {A = Option Walk} (Some w) (Some (walk_of k)) = h.stands in cc

  pub not_started : w.started ≡ false → None ≡ contour_fitted_of k
  unfolding contour_fitted_of walk_of
  not_started e = let f : k.started ≡ false = rw stands at e in rw f

  module _ (e : w.started ≡ true) {n : ℕ} (counts : n ≡ length (closed_of k)) where
    began : k.started ≡ true
    unfolding walk_of
    began = rw stands at e

    pub none_drawn : n ≡ 0 → None ≡ contour_fitted_of k
    unfolding contour_fitted_of
    none_drawn z = rw (began, empty_none (closed_of k) (sym counts ∙ z))

    module _ (some : n ≡ 0 → ⊥) where
      drawn : contour_fitted_of k ≡ segments_fitted_of k.start (closed_of k)
      unfolding contour_fitted_of
      drawn = rw (began, empty_some (closed_of k) (λ z. some (counts ∙ z)))

      lines_are : (b : Bool) → w.straight ≡ b → all_lines_of (closed_of k) ≡ b
      unfolding walk_of
      lines_are b g = closed_lines k (same_place_of k.last k.start) ∙ rw stands at g

      pub curved_box : w.straight ≡ false → {r : Option Fitted} → r ≡ rounded_of k.start (closed_of k) → r ≡ contour_fitted_of k
      unfolding segments_fitted_of
      curved_box g f = f ∙ sym (drawn ∙ rw (lines_are false g))

      module _ (g : w.straight ≡ true) where
        straight : all_lines_of k.segments ≡ true
        unfolding walk_of
        straight = rw stands at g

        -- the points that are kept are those of the closed contour
        points_are : (back : Bool) (m : ℕ) → m ≡ length (closed_by k back) → (m ≡ 0 → ⊥) → take m points ≡ points_of k.start (closed_by k back)
        points_are true zero l z = absurd (z refl)
        points_are true (suc m) l z =
            let one_less : suc m - 1 ≡ m = omega arith in
            first_points points (suc m)
            ∙ ap (take (suc m)) (rw (← l) at (h.points straight))
            ∙ rw (← l, one_less) (ap (λ (t : List Position). k.start ∷ t) (sym (lines_take k.segments m straight)))
        points_are false m l z = rw (all_but_pushed, l, length-append) (h.points straight)

        pub straight_box : {b : Option RoundedBox} → b ≡ parallelogram_of w.start (take n points) → {r : Option Fitted} → r ≡ whole_of b
            → r ≡ contour_fitted_of k
        unfolding segments_fitted_of walk_of
        straight_box f q =
            let at-start : ◌≡◌ {A = Position} w.start k.start = rw stands in
            let same = points_are (same_place_of k.last k.start) n counts some in
            q ∙ rw (f, at-start, same) (sym (drawn ∙ rw (lines_are true g)))

-- ---- `fit_with_cut_unchecked`
never : {w : Walk} → ◌≡◌ {A = Option Walk} (Some w) None → ⊥
never e = let z : ◌≡◌ {A = ℕ} 0 1 = cc in omega arith

pub ended_stop : (points : List Position) (z : Walked) → Ended z None points → None ≡ walked_fitted_of z
ended_stop points stopped h = refl
ended_stop points (reached k) h =
    let e : ◌≡◌ {A = Option Walk} None (Some (walk_of k)) = h.stands in
    let z : ◌≡◌ {A = ℕ} 0 1 = cc in
    absurd (omega arith)

-- a walk that ended has a contour
pub record Led (z : Walked) (w : Walk) (points : List Position) : Type 0 where
  pub contour : Contour
  pub led : z ≡ reached contour
  pub ended : EndedAt contour (Some w) points

pub ended_led : {w : Walk} {points : List Position} (z : Walked) → Ended z (Some w) points → Led z w points
ended_led stopped h = absurd (never h)
ended_led (reached k) h = record { contour = k; led = refl; ended = h }

module _ {z : Walked} {w : Walk} {points : List Position} (l : Led z w points) where
  pub led_reached : Reached z w
  led_reached = record { contour = l.contour; led = l.led; stands = stands l.ended }

  pub led_few : w.count + count_of w.started ≤ most_verbs
  unfolding walk_of
  led_few = rw (stands l.ended) l.ended.few

  pub led_fitted : {r : Option Fitted} → r ≡ contour_fitted_of l.contour → r ≡ walked_fitted_of z
  led_fitted f = rw l.led f

-- One verb of the walk: what the code keeps of a contour follows the contour. Assumes nothing.
use mathlib.Core.Path.{◌≡◌, refl, ap}
use mathlib.Core.Bool.{Bool, true, false, not, ◌||◌}
use mathlib.Core.List.{List, [], ◌∷◌, ◌++◌}
use native.Mathlib.Omega.{arith}
use lib.ListN.{length, length-append}
use lib.Ieee.{Float}
use Rattle.geometry.specs.declared.Position.{Position}
use Rattle.outline.specs.declared.Segment.{Segment}
use Rattle.outline.specs.declared.Segment.TheVariants as segment
use Rattle.outline.specs.declared.Walk.{Walk}
use Rattle.std.specs.Prelude.{Some, None}
use Rattle.outline.specs.Contour.{Contour, empty_of, same_place_of, move_of, pushed_of, push_of, draw_of, all_lines_of}
use Rattle.outline.specs.Kept.{walk_of, walk_pushed_of, shut_of, step_of}

-- ---- lists of segments

pub empty_none : (ss : List Segment) → length ss ≡ 0 → empty_of ss ≡ true
empty_none [] h = refl
empty_none (s ∷ ss) h = absurd (omega arith)

pub empty_some : (ss : List Segment) → (length ss ≡ 0 → ⊥) → empty_of ss ≡ false
empty_some [] h = absurd (h refl)
empty_some (s ∷ ss) h = refl

pub lines_and_line : (ss : List Segment) (x y : Float) → all_lines_of (ss ++ (segment.Line x y ∷ [])) ≡ all_lines_of ss
lines_and_line [] x y = refl
lines_and_line (segment.Line a b ∷ ss) x y = lines_and_line ss x y
lines_and_line (segment.Cubic a b c d e f ∷ ss) x y = refl

pub lines_and_curve : (ss : List Segment) (a b c d x y : Float) → all_lines_of (ss ++ (segment.Cubic a b c d x y ∷ [])) ≡ false
lines_and_curve [] a b c d x y = refl
lines_and_curve (segment.Line p q ∷ ss) a b c d x y = lines_and_curve ss a b c d x y
lines_and_curve (segment.Cubic p q r s t u ∷ ss) a b c d x y = refl

-- ---- what is kept of a contour with one segment more

module _ (k : Contour) (x y : Float) where
  abbrev p : Position
  p = record { x = x; y = y }

  pub kept_line : walk_pushed_of (walk_of k) p (all_lines_of k.segments) ≡ walk_of (pushed_of k (segment.Line x y) p)
  unfolding walk_pushed_of walk_of
  kept_line = rw (lines_and_line, length-append)

  pub kept_curve : (a b c d : Float) → walk_pushed_of (walk_of k) p false ≡ walk_of (pushed_of k (segment.Cubic a b c d x y) p)
  unfolding walk_pushed_of walk_of
  kept_curve a b c d = rw (lines_and_curve, length-append)

-- ---- `move_to`

module _ (w : Walk) (p : Position) (k : Contour) (e : w ≡ walk_of k) where
  pub move_first : w.count ≡ 0
      → Some (record { started = true; closed = w.closed; straight = w.straight; start = p; last = p; count = w.count }) ≡ step_of (move_of k p)
  unfolding move_of walk_of
  move_first h = let none : length k.segments ≡ 0 = rw e at h in rw (empty_none k.segments none, e)

  pub move_second : (w.count ≡ 0 → ⊥) → None ≡ step_of (move_of k p)
  unfolding move_of walk_of
  move_second h = let some : length k.segments ≡ 0 → ⊥ = rw e at h in rw (empty_some k.segments some)

-- ---- `draw`

module _ {w : Walk} (k : Contour) (e : w ≡ walk_of k) {b : Bool} (p : b ≡ shut_of w) where
  shut_is : b ≡ (k.closed || not k.started)
  unfolding shut_of walk_of
  shut_is = rw e at p

  pub draw_shut : (s : Segment) → b ≡ true → None ≡ step_of (draw_of k s)
  unfolding draw_of
  draw_shut s h = rw (← shut_is, h)

  draw_in : (s : Segment) → b ≡ false → draw_of k s ≡ push_of k s
  unfolding draw_of
  draw_in s h = rw (← shut_is, h)

  module _ (h : b ≡ false) {s : Segment} {x y : Float} where
    module _ (g : s ≡ segment.Line x y) {t : Bool} (q : t ≡ same_place_of (record { x = x; y = y }) w.last) where
      same_is : t ≡ same_place_of (record { x = x; y = y }) k.last
      unfolding walk_of
      same_is = rw e at q

      pub draw_same : t ≡ true → Some w ≡ step_of (draw_of k s)
      draw_same l = rw (draw_in s h, g, ← same_is, l, e)

      pub draw_line : t ≡ false → {r : Walk} → r ≡ walk_pushed_of w (record { x = x; y = y }) w.straight → Some r ≡ step_of (draw_of k s)
      unfolding walk_of
      draw_line l {r} m = rw (draw_in s h, g, ← same_is, l, m, e) (ap (λ (v : Walk). Some v) (kept_line k x y))

    pub draw_curve : {a b c d : Float} → s ≡ segment.Cubic a b c d x y → {r : Walk} → r ≡ walk_pushed_of w (record { x = x; y = y }) false
        → Some r ≡ step_of (draw_of k s)
    draw_curve {a} {b} {c} {d} g {r} m = rw (draw_in s h, g, m, e) (ap (λ (v : Walk). Some v) (kept_curve k x y a b c d))

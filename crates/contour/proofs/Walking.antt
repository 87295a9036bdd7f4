-- The walk around a contour, point by point. Assumes nothing.
use mathlib.Core.Path.{◌≡◌, refl, sym, ap, ◌∙◌, subst}
use mathlib.Core.Bool.{Bool, true, false, ◌||◌}
use mathlib.Core.List.{List, [], ◌∷◌, ◌++◌, append_assoc, append-nil}
use Prim.Native.Nat.{ℕ, zero, suc, ◌+◌, ◌-◌, ◌*◌, ◌≤◌, ◌<◌}
use native.Mathlib.Omega.{arith}
use lib.Dec.{T, ltb}
use lib.IntN.{ℤ, pos, negsuc}
use lib.ListN.{drop}
use lib.Ieee.{Float, binary32, in_float}
use borrow.Author.Tests.{ltb-false, lt-ltb, le-leb}
use Rattle.word_list.specs.Words.{beyond, Point, read_points}
use Rattle.words.specs.Scan.{Fine, points_from}
use Rattle.words.proofs.Steps.{point_at, PointThere}
use Rattle.words.proofs.Places.{fine_read, points_at, points_there}
use Rattle.edge.specs.declared.Edge.{Edge}
use Rattle.edge.specs.Edges.{edge_between}
use Rattle.edge.specs.Floats.{Pushed}
use Rattle.edge.proofs.Pushing.{pushed_none, pushed_more}
use Rattle.contour.specs.Contours.{coordinate_of, edge_of, walk_of, last_of, contour_of}

pub positive : (n : ℕ) → (n ≡ 0 → ⊥) → 0 < n
positive zero h = absurd (h refl)
positive (suc n) h = omega arith

-- a coordinate within its limit is a float
pub in_limit_float : (w : ℤ) → beyond w ≡ false → T (in_float binary32 w)
unfolding beyond in_float
in_limit_float (pos n) h = let l : n ≤ 1048576 = ltb-false 1048576 n h in subst T (sym (le-leb n 16777216 (omega arith))) tt
in_limit_float (negsuc n) h = let l : n ≤ 1048575 = ltb-false 1048575 n (or_left (ltb 1048575 n) h) in subst T (sym (lt-ltb n 16777216 (omega arith))) tt
  where
    or_left : (b : Bool) → (b || false) ≡ false → b ≡ false
    or_left true e = e
    or_left false e = refl

last_at : (n : ℕ) (ws : List ℤ) (at : ℕ) → last_of (point_at ws at) (points_at n ws (at + 2)) ≡ point_at ws (at + 2 * n)
unfolding last_of points_at
last_at zero ws at = let z : at + 2 * 0 ≡ at = omega arith in ap (point_at ws) (sym z)
last_at (suc n) ws at = let z : at + 2 + 2 * n ≡ at + 2 * suc n = omega arith in last_at n ws (at + 2) ∙ ap (point_at ws) z

-- it starts at the last point
from_last : (height m : ℕ) (ws : List ℤ) (at : ℕ) → 0 < m
    → contour_of height (points_at m ws at) ≡ walk_of height (point_at ws (at + 2 * (m - 1))) (points_at m ws at)
unfolding contour_of points_at
from_last height zero ws at h = absurd (omega arith)
from_last height (suc m) ws at h =
    let z : at + 2 * m ≡ at + 2 * (suc m - 1) = omega arith in
    ap (λ (p : Point). walk_of height p (point_at ws at ∷ points_at m ws (at + 2))) (last_at m ws at ∙ ap (point_at ws) z)

one_edge : (height : ℕ) (p : Point) (m : ℕ) (ws : List ℤ) (next : ℕ)
    → walk_of height p (points_at (suc m) ws next) ≡ edge_of height p (point_at ws next) ++ walk_of height (point_at ws next) (points_at m ws (next + 2))
unfolding walk_of points_at
one_edge height p m ws next = refl

no_edge : (height : ℕ) (p : Point) (ws : List ℤ) (next : ℕ) → walk_of height p (points_at 0 ws next) ≡ []
unfolding walk_of points_at
no_edge height p ws next = refl

-- where the walk stands: at a point, with the edges up to it stored, and the others to come
pub record Walk (height : ℕ) (ws : List ℤ) (at n : ℕ) (fs : List Float) (edges before : ℕ)
    (next : ℕ) (gs : List Float) (x y : Float) (count : ℕ) : Type 0 where
  pub done : ℕ
  pub within : done ≤ n
  pub place : next ≡ at + 2 * done
  pub point : Point
  pub x_is : x ≡ coordinate_of point.x
  pub y_is : y ≡ coordinate_of point.y
  pub new : List Edge
  pub pushed : Pushed fs gs edges before count done new
  pub whole : contour_of height (points_at n ws at) ≡ new ++ walk_of height point (points_at (n - done) ws next)

module _ {height : ℕ} {ws : List ℤ} {at n : ℕ} {fs : List Float} {edges before : ℕ} where
  pub walk_start : 0 < n → {x y : Float} → x ≡ coordinate_of (point_at ws (at + 2 * (n - 1))).x → y ≡ coordinate_of (point_at ws (at + 2 * (n - 1))).y
      → Walk height ws at n fs edges before at fs x y before
  walk_start h p q = record {
    done = 0;
    within = omega arith;
    place = omega arith;
    point = point_at ws (at + 2 * (n - 1));
    x_is = p;
    y_is = q;
    new = [];
    pushed = pushed_none;
    whole = let z : n - 0 ≡ n = omega arith in rw z (from_last height n ws at h);
  }

  module _ {next : ℕ} {gs : List Float} {x y : Float} {count : ℕ} (w : Walk height ws at n fs edges before next gs x y count) where
    -- one point further
    module _ (more : next < at + 2 * n) {hs : List Float} {r : ℕ} {to-x to-y : Float}
        (is_x : to-x ≡ coordinate_of (point_at ws next).x) (is_y : to-y ≡ coordinate_of (point_at ws next).y)
        (stored : Pushed gs hs edges count r 1 (edge_between height x y to-x to-y)) where
      abbrev edge : List Edge
      edge = edge_between height x y to-x to-y

      abbrev behind : List Edge
      behind = walk_of height (point_at ws next) (points_at (n - (w.done + 1)) ws (next + 2))

      between : edge ≡ edge_of height w.point (point_at ws next)
      between = rw (w.x_is, w.y_is, is_x, is_y)

      step : walk_of height w.point (points_at (n - w.done) ws next) ≡ edge ++ behind
      step =
          let d : n - w.done ≡ suc (n - (w.done + 1)) = omega arith in
          rw d (one_edge height w.point (n - (w.done + 1)) ws next ∙ ap (λ (es : List Edge). es ++ behind) (sym between))

      pub walk_more : Walk height ws at n fs edges before (next + 2) hs to-x to-y r
      walk_more = record {
        done = w.done + 1;
        within = omega arith;
        place = omega arith;
        point = point_at ws next;
        x_is = is_x;
        y_is = is_y;
        new = w.new ++ edge;
        pushed = pushed_more w.pushed stored;
        whole = w.whole ∙ ap (λ (es : List Edge). w.new ++ es) step ∙ sym (append_assoc w.new edge behind);
      }

    pub walk_end : at + 2 * n ≤ next → Pushed fs gs edges before count n (contour_of height (points_at n ws at))
    walk_end h =
        let d : w.done ≡ n = omega arith in
        let z : n - w.done ≡ 0 = omega arith in
        let none : walk_of height w.point (points_at (n - w.done) ws next) ≡ [] = rw z (no_edge height w.point ws next) in
        let e : contour_of height (points_at n ws at) ≡ w.new = w.whole ∙ ap (λ (es : List Edge). w.new ++ es) none ∙ append-nil w.new in
        rw (e, sym d) w.pushed

-- ---- points that are read without a fault

-- what the walk needs at each step
pub record Inside (ws : List ℤ) (at n next : ℕ) : Type 0 where
  pub there : PointThere ws next
  pub steps : next + 2 ≤ at + 2 * n

module _ (ws : List ℤ) (at n : ℕ) (fine : Fine (read_points n (drop at ws))) where
  -- the points that stand there are those that are read
  pub points_read : (points_from ws at n ≡ points_at n ws at) × ((i : ℕ) → i < n → PointThere ws (at + 2 * i))
  points_read =
      let r = fine_read [] (read_points n (drop at ws)) fine in
      let p = points_there n ws at (points_from ws at n) r.0 r.1 in
      (p.points, p.there)

  pub walk_inside : {height : ℕ} {fs gs : List Float} {edges before next count : ℕ} {x y : Float}
      → Walk height ws at n fs edges before next gs x y count → next < at + 2 * n → Inside ws at n next
  walk_inside w h = record { there = rw w.place (points_read.1 w.done (omega arith)); steps = omega arith }

  -- the whole contour lies within the list
  pub last_there : 0 < n → Inside ws at n (at + 2 * (n - 1))
  last_there h = record { there = points_read.1 (n - 1) (omega arith); steps = omega arith }

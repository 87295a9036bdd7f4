-- The contours of a group, one after another. Assumes nothing.
use mathlib.Core.Path.{◌≡◌, refl, sym, ap, ◌∙◌}
use mathlib.Core.List.{List, [], ◌∷◌, ◌++◌, append_assoc, append-nil}
use Prim.Native.Nat.{ℕ, ◌+◌, ◌-◌, ◌*◌, ◌≤◌}
use native.Mathlib.Omega.{arith}
use lib.IntN.{ℤ}
use lib.ListN.{length, drop}
use lib.Ieee.{Float}
use Rattle.word_list.specs.Words.{Point, read_contours, points_of}
use Rattle.words.specs.Scan.{Fine, points_from, contours_from, end_of}
use Rattle.words.proofs.Places.{ContourThere, no_contour}
use Rattle.edge.specs.declared.Edge.{Edge}
use Rattle.edge.specs.Floats.{Pushed}
use Rattle.edge.proofs.Pushing.{pushed_none, pushed_more}
use Rattle.contour.specs.Contours.{contour_of, edges_of}

one_contour : (height : ℕ) (c : List Point) (cs : List (List Point)) → edges_of height (c ∷ cs) ≡ contour_of height c ++ edges_of height cs
unfolding edges_of
one_contour height c cs = refl

no_contours : (height : ℕ) → edges_of height [] ≡ []
unfolding edges_of
no_contours height = refl

points_of_lem : (c : List Point) (cs : List (List Point)) → points_of (c ∷ cs) ≡ length c + points_of cs
unfolding points_of
points_of_lem c cs = refl

points_none : points_of [] ≡ 0
unfolding points_of
points_none = refl

-- where the contours stand: the edges of some are stored, and the others are to come
pub record Going (height : ℕ) (ws : List ℤ) (from n : ℕ) (fs : List Float) (edges : ℕ) (gs : List Float) (at count remaining : ℕ) : Type 0 where
  pub within : at ≤ length ws
  pub long : length gs ≡ length fs
  pub fine : Fine (read_contours remaining 0 (drop at ws))
  pub done : ℕ
  pub new : List Edge
  pub pushed : Pushed fs gs edges 0 count done new
  pub few : points_of (contours_from ws from n) ≡ done + points_of (contours_from ws at remaining)
  pub whole : edges_of height (contours_from ws from n) ≡ new ++ edges_of height (contours_from ws at remaining)
  pub end : end_of (length ws) (read_contours n 0 (drop from ws)) ≡ end_of (length ws) (read_contours remaining 0 (drop at ws))

module _ {height : ℕ} {ws : List ℤ} {from n : ℕ} {fs : List Float} {edges : ℕ} where
  pub going_start : Fine (read_contours n 0 (drop from ws)) → from ≤ length ws → Going height ws from n fs edges fs from 0 n
  going_start f l = record {
    within = l;
    long = refl;
    fine = f;
    done = 0;
    new = [];
    pushed = pushed_none;
    few = omega arith;
    whole = refl;
    end = refl;
  }

  module _ {gs : List Float} {at count remaining : ℕ} (g : Going height ws from n fs edges gs at count remaining) where
    -- the next contour, of m points
    module _ {m : ℕ} (c : ContourThere remaining ws at m) where
      abbrev points : List Point
      points = points_from ws (at + 1) m

      abbrev others : List (List Point)
      others = contours_from ws (at + 1 + 2 * m) (remaining - 1)

      few_more : points_of (contours_from ws from n) ≡ g.done + m + points_of others
      few_more = let a = g.few in let b = ap points_of c.whole ∙ points_of_lem points others in let s = c.size in omega arith

      pub next_room : edges + 5 * points_of (contours_from ws from n) ≤ length fs → edges + 5 * (count + m) ≤ length gs
      next_room l = let a = few_more in let f = g.pushed.few in let k = g.long in omega arith

      pub going_more : {hs : List Float} {r : ℕ} → length hs ≡ length gs → Pushed gs hs edges count r m (contour_of height points)
          → Going height ws from n fs edges hs (at + 1 + 2 * m) r (remaining - 1)
      going_more k p = record {
        within = c.within;
        long = k ∙ g.long;
        fine = c.others;
        done = g.done + m;
        new = g.new ++ contour_of height points;
        pushed = pushed_more g.pushed p;
        few = few_more;
        whole = g.whole ∙ ap (λ (cs : List (List Point)). g.new ++ edges_of height cs) c.whole
            ∙ ap (λ (es : List Edge). g.new ++ es) (one_contour height points others)
            ∙ sym (append_assoc g.new (contour_of height points) (edges_of height others));
        end = g.end ∙ c.end;
      }

    pub going_end : remaining ≤ 0
        → Pushed fs gs edges 0 count (points_of (contours_from ws from n)) (edges_of height (contours_from ws from n))
        × (at ≡ end_of (length ws) (read_contours n 0 (drop from ws)))
    going_end l =
        let z = no_contour remaining ws at l g.within in
        let p = ap points_of z.0 ∙ points_none in
        let a : points_of (contours_from ws from n) ≡ g.done = omega (arith, g.few) in
        let e : edges_of height (contours_from ws from n) ≡ g.new =
        g.whole ∙ ap (λ (cs : List (List Point)). g.new ++ edges_of height cs) z.0
        ∙ ap (λ (es : List Edge). g.new ++ es) (no_contours height) ∙ append-nil g.new in
        (rw (a, e) g.pushed, sym (g.end ∙ z.1))

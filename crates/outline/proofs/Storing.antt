-- The loop that keeps the segments. Assumes nothing.
use mathlib.Core.Path.{◌≡◌, refl, sym, ap, ◌∙◌}
use mathlib.Core.List.{List, [], ◌∷◌, ◌++◌}
use Prim.Native.Nat.{ℕ, ◌≤◌, ◌<◌}
use native.Mathlib.Omega.{arith}
use lib.ListN.{length, length-append}
use lib.Ieee.{Float}
use Rattle.path.specs.declared.Verb.{Verb}
use Rattle.path.specs.declared.Verb.TheVariants as verb
use Rattle.outline.specs.declared.Segment.{Segment}
use Rattle.outline.specs.declared.Walk.{Walk}
use Rattle.outline.specs.Contour.{Contour, Walked, stopped, reached, contour_step_of, contour_of}
use Rattle.std.specs.Prelude.{Option, Some}
use Rattle.outline.specs.Kept.{walk_of, step_of, candidate_of, Stored}
use Rattle.outline.proofs.Contouring.{Holds, Walking, moved, lined, curved, ended_at}

-- the segments of a contour
abbrev pub Pieces : List Segment → Contour → Type 0
Pieces segments k = segments ≡ k.segments

-- a verb adds its segment, or none
data Adds (before : List Segment) (s : Segment) (after : List Segment) : Type 0 where
  none : after ≡ before → Adds before s after
  one : after ≡ before ++ (s ∷ []) → Adds before s after

adds_after : (k : Contour) (v : Verb) → Holds (λ k₁. Adds k.segments (candidate_of v) k₁.segments) (contour_step_of k v)
adds_after k (verb.MoveTo x y) = moved k (λ k₁. Adds k.segments (candidate_of (verb.MoveTo x y)) k₁.segments) (λ p e. none refl) (record { x = x; y = y })
adds_after k (verb.LineTo x y) = lined k (λ k₁. Adds k.segments (candidate_of (verb.LineTo x y)) k₁.segments) (none refl) x y (one refl)
adds_after k (verb.BezierTo a b c d x y) = curved k (λ k₁. Adds k.segments (candidate_of (verb.BezierTo a b c d x y)) k₁.segments) a b c d x y (one refl)
adds_after k verb.Solid = none refl
adds_after k verb.Hole = none refl
adds_after k verb.Close = none refl

counts : {w : Walk} (k : Contour) → w ≡ walk_of k → w.count ≡ length k.segments
unfolding walk_of
counts k e = rw e

module _ {segments : List Segment} (k : Contour) (kept : Pieces segments k) {w : Walk} (stands : w ≡ walk_of k) (s : Segment) {next : Walk} where
  follows : (k₁ : Contour) → Some next ≡ step_of (reached k₁) → next.count ≡ length k₁.segments
  follows k₁ e =
      let same : next ≡ walk_of k₁ = let z : ◌≡◌ {A = Option Walk} (Some next) (Some (walk_of k₁)) = e in cc in
      counts k₁ same

  adds_one : (z : Walked) → Some next ≡ step_of z → Holds (λ k₁. Adds k.segments s k₁.segments) z → w.count < next.count
      → Holds (Pieces (segments ++ (s ∷ []))) z
  adds_one stopped e a l = tt
  adds_one (reached k₁) e (none h) l =
      let m = follows k₁ e in
      let n = counts k stands in
      let same = ap length h in
      absurd (omega arith)
  adds_one (reached k₁) e (one h) l = rw kept (sym h)

  adds_none : (z : Walked) → Some next ≡ step_of z → Holds (λ k₁. Adds k.segments s k₁.segments) z → next.count ≤ w.count
      → Holds (Pieces segments) z
  adds_none stopped e a l = tt
  adds_none (reached k₁) e (none h) l = kept ∙ sym h
  adds_none (reached k₁) e (one h) l =
      let m = follows k₁ e in
      let n = counts k stands in
      let more = ap length h ∙ length-append k.segments (s ∷ []) in
      absurd (omega arith)

-- ---- the loop

module _ {segments : List Segment} {verbs : List ℕ} {positions : List Float} {w : Walk} {i at : ℕ}
    (s : Walking (Pieces segments) verbs positions w i at) (v : Verb) {r : Option Walk}
    (told : (k : Contour) → w ≡ walk_of k → r ≡ step_of (contour_step_of k v)) {next : Walk} (h : r ≡ Some next) where
  pub piece_kept : {g : Segment} → g ≡ candidate_of v → w.count < next.count → Holds (Pieces (segments ++ (g ∷ []))) (contour_step_of s.contour v)
  piece_kept e l =
      rw e (adds_one s.contour s.kept s.stands (candidate_of v) (contour_step_of s.contour v) (sym h ∙ told s.contour s.stands) (adds_after s.contour v) l)

  pub pieces_kept : next.count ≤ w.count → Holds (Pieces segments) (contour_step_of s.contour v)
  pieces_kept l = adds_none s.contour s.kept s.stands (candidate_of v) (contour_step_of s.contour v) (sym h ∙ told s.contour s.stands) (adds_after s.contour v) l

pub pieces_all : {segments : List Segment} {verbs : List ℕ} {positions : List Float} {w : Walk} {i at : ℕ}
    → Walking (Pieces segments) verbs positions w i at → length verbs ≤ i → Stored (contour_of verbs positions) segments
pieces_all s done = rw (ended_at s done) s.kept

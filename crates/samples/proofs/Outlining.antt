-- An outline's points and its anchors, a segment at a time. Assumes nothing.
use mathlib.Core.Path.{◌≡◌, refl, sym, ap, ◌∙◌}
use mathlib.Core.List.{List, [], ◌∷◌, ◌++◌, append_assoc, append-nil}
use Prim.Native.Nat.{ℕ, zero, suc, ◌+◌, ◌≤◌, ◌<◌}
use native.Mathlib.Numerals.{add-one}
use lib.ListN.{length, get_or, drop}
use lib.Seq.{drop-cons}
use Rattle.std.proofs.lemmas.List.{drop_all}
use Rattle.geometry.specs.declared.Position.{Position}
use Rattle.outline.specs.declared.Segment.{Segment}
use Rattle.samples.specs.Samples.{end_of, sample_of, curve_samples_of, segment_samples_of, outline_from, ends_of}

-- ---- a curve's samples

module _ (from c1 c2 end : Position) where
  -- the first i
  unfoldable pub samples_below : ℕ → List Position
  samples_below zero = []
  samples_below (suc i) = samples_below i ++ (sample_of from c1 c2 end (suc i) ∷ [])

  pub samples_none : (b : List Position) → b ≡ b ++ samples_below 0
  unfolding samples_below
  samples_none b = sym (append-nil b)

  pub samples_next : (b : List Position) (i : ℕ) {p : Position} → p ≡ sample_of from c1 c2 end (i + 1) → (b ++ samples_below i) ++ (p ∷ []) ≡ b ++ samples_below (i + 1)
  unfolding samples_below
  samples_next b i e = rw (e, add-one i) (append_assoc b (samples_below i) (sample_of from c1 c2 end (suc i) ∷ []))

  pub samples_all : (b : List Position) → (b ++ samples_below 7) ++ (end ∷ []) ≡ b ++ curve_samples_of from c1 c2 end
  unfolding samples_below
  samples_all b = append_assoc b (samples_below 7) (end ∷ [])

-- ---- what is left of an outline and of its anchors, before a segment and behind it

pub outline_left : (from : Position) (segments : List Segment) (i : ℕ) (d : Segment) → i < length segments
    → outline_from from (drop i segments) ≡ segment_samples_of from (get_or segments i d) ++ outline_from (end_of (get_or segments i d)) (drop (i + 1) segments)
unfolding outline_from
outline_left from segments i d more = rw (drop-cons segments i d more, add-one i)

pub ends_left : (segments : List Segment) (i : ℕ) (d : Segment) → i < length segments
    → ends_of (drop i segments) ≡ end_of (get_or segments i d) ∷ ends_of (drop (i + 1) segments)
unfolding ends_of
ends_left segments i d more = rw (drop-cons segments i d more, add-one i)

-- past the last segment nothing is left
pub outline_none : {points all : List Position} (from : Position) (segments : List Segment) {i : ℕ} → length segments ≤ i
    → points ++ outline_from from (drop i segments) ≡ all → points ≡ all
unfolding outline_from
outline_none {points} {all} from segments {i} done e = sym (append-nil points) ∙ (rw (drop_all i segments done) at e)

pub ends_none : {points all : List Position} (segments : List Segment) {i : ℕ} → length segments ≤ i
    → points ++ ends_of (drop i segments) ≡ all → points ≡ all
unfolding ends_of
ends_none {points} {all} segments {i} done e = sym (append-nil points) ∙ (rw (drop_all i segments done) at e)

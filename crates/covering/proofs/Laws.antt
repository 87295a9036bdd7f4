-- The touch of one box read from the documents' words (specs/Laws.antt). Assumes nothing.
use Rattle.std.specs.Prelude.{Option, Some, None}
use mathlib.Core.Path.{◌≡◌, refl, sym, subst}
use mathlib.Core.Bool.{true, true≢false}
use lib.Dec.{T}
use lib.Ieee.{Float, of_bits, of_fields, odd, lt, le}
use lib.Ieee.Bits.{is_true}
use lib.Count.{count_trailing_zeros}
use Rattle.rounding.proofs.Compare.{le_trans}
use Rattle.float.specs.Ops.{f0, f½}
use Rattle.geometry.specs.declared.Position.{Position}
use Rattle.shape.specs.Outline.{outline_point_of, all_below}
use Rattle.clip_coverage.specs.declared.ClipCoverage.{ClipCoverage}
use Rattle.clip_coverage.specs.Distance.{distance_of, holds_point_of, contains_of}
use Rattle.covering.specs.Coverage.{coverage_of}
use Rattle.covering.specs.Touches.{touches_by, touches_of}
use Rattle.covering.specs.Laws.{TouchesExactlyWhen, TouchesAsContains, on_or_inside_by, on_or_inside_of, StillTouched}

held : (m : Option ClipCoverage) (p : Position) → touches_by m p ≡ true → (k : ClipCoverage) × (m ≡ Some k) × (le (distance_of k p) f½ ≡ true)
unfolding holds_point_of
held (Some k) p e = (k, refl, e)
held None p e = absurd (true≢false (sym e))

pub touches_exactly_when : TouchesExactlyWhen
unfolding touches_of holds_point_of
touches_exactly_when = record {
  only = λ b fringe p e. held (coverage_of b fringe) p e;
  always = λ b fringe p k e d. subst (λ (m : Option ClipCoverage). touches_by m p ≡ true) (sym e) d;
}

pub touches_as_contains : TouchesAsContains
unfolding touches_of
touches_as_contains b other fringe k e =
    subst (λ (m : Option ClipCoverage). contains_of k other ≡ all_below (λ i. touches_by m (outline_point_of other i)) 36) (sym e) refl

-- ---- the rule before
widened : (x : Float) → T (le x f0) → T (le x f½)
unfolding of_bits of_fields odd count_trailing_zeros le lt
widened x h = le_trans x f0 f½ tt tt h tt

still : (m : Option ClipCoverage) (p : Position) → on_or_inside_by m p ≡ true → touches_by m p ≡ true
unfolding holds_point_of
still (Some k) p e = is_true _ (widened (distance_of k p) (subst T (sym e) tt))
still None p e = e

pub still_touched : StillTouched
unfolding touches_of on_or_inside_of
still_touched b fringe p e = still (coverage_of b fringe) p e

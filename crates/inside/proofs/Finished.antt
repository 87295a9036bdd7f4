-- The walk over a list finds what the call is to answer. Assumes nothing.
use Prim.Native.Nat.{ℕ, suc}
use mathlib.Core.Path.{◌≡◌, refl, ap}
use mathlib.Core.Bool.{Bool, true, false, not, cond}
use mathlib.Core.List.{List, [], ◌∷◌}
use lib.Ieee.{Float}
use Rattle.std.specs.Prelude.{Option, Some, None, Ok, Err}
use Rattle.fault.specs.Check.{Check, answer_unless, ◌and_then◌}
use Rattle.shape.specs.declared.RoundedBox.{RoundedBox}
use Rattle.shape.specs.Checks.{box_check_of, fringe_check_of}
use Rattle.clip_coverage.specs.declared.ClipCoverage.{ClipCoverage}
use Rattle.clip_coverage.specs.Distance.{contains_of}
use Rattle.covering.specs.Coverage.{coverage_of}
use Rattle.boxes.specs.Checks.{list_check_of}
use Rattle.boxes.specs.First.{first_from, first_place_of}
use Rattle.inside.specs.declared.Inside.TheVariants as inside
use Rattle.inside.specs.Inside.{first_outside_from, inside_by, inside_call}
use Rattle.inside.specs.Finish.{lies_outside_of, inside_of, answer_of, finish_of}

if_outside : (t : Bool) (n : ℕ) (r : Option ℕ) → inside_of (cond (not t) (Some n) r) ≡ cond t (inside_of r) (inside.Outside n)
if_outside true n r = refl
if_outside false n r = refl

as_found : (n : ℕ) (bs : List RoundedBox) (area : ClipCoverage) → inside_of (first_from n bs (lies_outside_of (Some area))) ≡ first_outside_from n bs area
as_found n [] area = refl
as_found n (b ∷ bs) area =
    rw (← as_found (suc n) bs area) (if_outside (contains_of area b) n (first_from (suc n) bs (lies_outside_of (Some area))))

by_coverage : (area : Option ClipCoverage) (bs : List RoundedBox) → answer_of area (first_from 0 bs (lies_outside_of area)) ≡ inside_by area bs
by_coverage (Some area) bs = ap Some (as_found 0 bs area)
by_coverage None bs = refl

module _ (bs : List RoundedBox) (safe : RoundedBox) (fringe : Float) where
  abbrev outside : RoundedBox → Bool
  outside b = lies_outside_of (coverage_of safe fringe) b

  finished : (c : Check) → finish_of (answer_unless c (first_from 0 bs outside)) (coverage_of safe fringe) safe fringe
      ≡ answer_unless (c and_then box_check_of safe and_then fringe_check_of fringe) (inside_by (coverage_of safe fringe) bs)
  finished (Ok _) = rw (by_coverage (coverage_of safe fringe) bs)
  finished (Err f) = refl

  -- the walk over the list and its end give what the call is to answer
  pub finishes : finish_of (first_place_of bs outside) (coverage_of safe fringe) safe fringe ≡ inside_call bs safe fringe
  finishes = finished (list_check_of bs)

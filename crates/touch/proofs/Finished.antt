-- The walk over a list finds what the call is to answer. Assumes nothing.
use Prim.Native.Nat.{ℕ, suc}
use mathlib.Core.Path.{◌≡◌, refl, ap}
use mathlib.Core.Bool.{cond}
use mathlib.Core.List.{List, [], ◌∷◌}
use lib.Ieee.{Float}
use Rattle.std.specs.Prelude.{Some, Ok, Err}
use Rattle.fault.specs.Check.{Check, answer_unless, ◌and_then◌}
use Rattle.geometry.specs.declared.Position.{Position}
use Rattle.shape.specs.declared.RoundedBox.{RoundedBox}
use Rattle.shape.specs.Checks.{fringe_check_of, point_check_of}
use Rattle.covering.specs.Touches.{touches_of}
use Rattle.boxes.specs.Checks.{list_check_of}
use Rattle.boxes.specs.First.{first_from, first_place_of}
use Rattle.touch.specs.Touch.{first_touched_from, touch_call}
use Rattle.touch.specs.Finish.{finish_of}

module _ (fringe : Float) (p : Position) where
  pub as_found : (k : ℕ) (bs : List RoundedBox) → first_from k bs (λ b. touches_of b fringe p) ≡ first_touched_from k bs fringe p
  as_found k [] = refl
  as_found k (b ∷ bs) = ap (cond (touches_of b fringe p) (Some k)) (as_found (suc k) bs)

  finished : (bs : List RoundedBox) (c : Check) → finish_of (answer_unless c (first_from 0 bs (λ b. touches_of b fringe p))) fringe p
      ≡ answer_unless (c and_then fringe_check_of fringe and_then point_check_of p) (first_touched_from 0 bs fringe p)
  finished bs (Ok _) = rw (as_found 0 bs)
  finished bs (Err f) = refl

  -- the walk over the list and its end give what the call is to answer
  pub finishes : (bs : List RoundedBox) → finish_of (first_place_of bs (λ b. touches_of b fringe p)) fringe p ≡ touch_call bs fringe p
  finishes bs = finished bs (list_check_of bs)

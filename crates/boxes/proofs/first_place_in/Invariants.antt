-- `boxes::first_place_in` meets its contract: the place found so far, and the boxes that are left, give the answer.
-- Assumes nothing.
use Rattle.std.proofs.Common.{◌≡◌, ◌≤◌, ◌<◌, Bool, ℕ}
use Rattle.std.specs.Prelude.{Some}
use Rattle.shape.specs.declared.RoundedBox.{RoundedBox}
use Rattle.boxes.specs.First.{Tells, first_place_of}
use Rattle.boxes.specs.Lent.{boxes_in}
use Rattle.boxes.proofs.Walking.{result_of}
use Rattle.boxes.proofs.Lent.{left}
use Rattle.boxes.proofs.first_place_in.Given as goal

abbrev pub invariant-loop-place : goal.invariant-loop-place
invariant-loop-place g l = record {
  few : l.n ≤ 4096;
  below : (k : ℕ) → l.found ≡ Some k → k < l.place;
  so_far : (test : RoundedBox → Bool) → Tells (goal.F-post g l.asks) test
      → first_place_of (boxes_in l.floats l.n) test ≡ result_of l.found l.place (left l.floats l.n l.place) test;
}

-- `boxes::first_place` meets its contract: the place found so far, and the boxes that are left, give the answer.
-- Assumes nothing.
use Rattle.std.proofs.Common.{◌≡◌, ◌≤◌, ◌<◌, length, drop, Bool, ℕ}
use Rattle.std.specs.Prelude.{Some}
use Rattle.shape.specs.declared.RoundedBox.{RoundedBox}
use Rattle.boxes.specs.First.{Tells, first_place_of}
use Rattle.boxes.proofs.Walking.{result_of}
use Rattle.boxes.proofs.first_place.Given as goal

abbrev pub invariant-loop-place : goal.invariant-loop-place
invariant-loop-place g l = record {
  few : length l.boxes ≤ 4096;
  below : (k : ℕ) → l.found ≡ Some k → k < l.place;
  so_far : (test : RoundedBox → Bool) → Tells (goal.F-post g l.asks) test
      → first_place_of l.boxes test ≡ result_of l.found l.place (drop l.place l.boxes) test;
}

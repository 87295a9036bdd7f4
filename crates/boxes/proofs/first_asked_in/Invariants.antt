-- `boxes::first_asked_in` meets its contract: the place found so far, and the boxes that are left, give the answer.
-- Assumes nothing.
use Rattle.std.proofs.Common.{◌≡◌, ◌≤◌, ◌<◌, ℕ}
use Rattle.std.specs.Prelude.{Some}
use Rattle.boxes.specs.First.{first_place_of}
use Rattle.boxes.specs.Lent.{boxes_in}
use Rattle.boxes.proofs.Walking.{result_of}
use Rattle.boxes.proofs.Lent.{left}
use Rattle.boxes.proofs.first_asked_in.Given as goal

abbrev pub invariant-loop-i : goal.invariant-loop-i
invariant-loop-i g l = record {
  few : l.n ≤ 4096;
  below : (k : ℕ) → l.found ≡ Some k → k < l.i;
  so_far : first_place_of (boxes_in l.floats l.n) (g.A.Ask.asks l.ask)
      ≡ result_of l.found l.i (left l.floats l.n l.i) (g.A.Ask.asks l.ask);
}

-- `boxes::first_asked` meets its contract: the place found so far, and the boxes that are left, give the answer.
-- Assumes nothing.
use Rattle.std.proofs.Common.{◌≡◌, ◌≤◌, ◌<◌, length, drop, ℕ}
use Rattle.std.specs.Prelude.{Some}
use Rattle.boxes.specs.First.{first_place_of}
use Rattle.boxes.proofs.Walking.{result_of}
use Rattle.boxes.proofs.first_asked.Given as goal

abbrev pub invariant-loop-i : goal.invariant-loop-i
invariant-loop-i g l = record {
  few : length l.boxes ≤ 4096;
  below : (k : ℕ) → l.found ≡ Some k → k < l.i;
  so_far : first_place_of l.boxes (g.A.Ask.asks l.ask) ≡ result_of l.found l.i (drop l.i l.boxes) (g.A.Ask.asks l.ask);
}

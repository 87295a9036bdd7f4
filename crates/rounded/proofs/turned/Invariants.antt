-- `rounded::turned` meets its contract: the turns passed so far, and the last angle. Assumes nothing.
use Prim.Native.Nat.{◌+◌}
use mathlib.Core.Path.{◌≡◌}
use lib.ListN.{get_or, take}
use Rattle.std.specs.Float.{nan}
use Rattle.samples.specs.Folds.{pairs_of}
use Rattle.rounded.specs.Turning.{angle_of, step_of, turned_by, no_turn}
use Rattle.rounded.proofs.turned.Given as goal

abbrev pub invariant-loop-p : goal.invariant-loop-p
invariant-loop-p l =
    (l.t ≡ pairs_of (λ t p q. turned_by t (step_of (angle_of l.a p) (angle_of l.a q))) no_turn (take (l.p-index + 1) l.outline))
    × (l.last ≡ angle_of l.a (get_or l.outline l.p-index (record { x = nan; y = nan })))

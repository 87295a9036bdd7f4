-- What a check of an outline that passes says. Assumes nothing.
use mathlib.Core.Path.{◌≡◌}
use mathlib.Core.List.{List}
use Prim.Native.Nat.{ℕ, ◌≤◌}
use borrow.Author.Tests.{leb-true, eqb-true}
use lib.Ieee.{Float}
use lib.ListN.{length}
use Rattle.std.specs.Prelude.{Ok}
use Rattle.fault.proofs.Passing.{both_pass, test_passes}
use Rattle.shape.specs.Checks.{numbers_check_of}
use Rattle.outline.specs.Outline.{most_verbs, verbs_check_of, floats_needed_of, all_in_range_of, outline_check_of}

pub pass_means : (verbs : List ℕ) (positions : List Float) → outline_check_of verbs positions ≡ Ok tt
    → (length verbs ≤ most_verbs) × (floats_needed_of verbs ≡ length positions)
unfolding outline_check_of
pass_means verbs positions h =
    let last = both_pass _ (numbers_check_of (all_in_range_of positions)) h in
    let third = both_pass _ _ last.0 in
    let first = both_pass _ (verbs_check_of verbs) third.0 in
    (leb-true _ _ (test_passes _ _ first.0), eqb-true _ _ (test_passes _ _ third.1))

-- `mask::corners_check` meets its contract. Assumes nothing.
use mathlib.Core.Path.{◌≡◌, refl, sym, ◌∙◌}
use mathlib.Core.Bool.{Bool, true, false, ◌||◌}
use mathlib.Core.Logic.{◌⊎◌, inl, inr}
use Rattle.cells.specs.Cells.{too_large}
use Rattle.cells.specs.Corner.{corner_out}
use Rattle.cells.proofs.Sizes.{or_true}
use Rattle.mask.proofs.corners_check.Goals as goal
use Rattle.mask.proofs.corners_check.Goals.{then-is_out_of_range-via-then-is_out_of_range, then-is_out_of_range-via-else-is_out_of_range+then-is_out_of_range-2}
use Rattle.mask.proofs.corners_check.Goals.{then-is_too_large-via-then-is_too_large, then-is_too_large-via-else-is_too_large+then-is_too_large-2}

either_true : (a b : Bool) → (a ≡ true) ⊎ (b ≡ true) → (a || b) ≡ true
either_true a b (inl e) = rw e refl
either_true a b (inr e) = rw e (or_true a)

both_false : (a b : Bool) → a ≡ false → b ≡ false → (a || b) ≡ false
both_false a b e f = rw (e, f) refl

pub returns-then-is_too_large : goal.returns-then-is_too_large
returns-then-is_too_large c =
    let args = c.args in
    let came : (too_large args.own.size ≡ true) ⊎ (too_large args.other.size ≡ true) =
    elim c.then-is_too_large.branch [
      | then-is_too_large-via-then-is_too_large w ↦ inl (sym c.is_too_large.ensures ∙ w.if-is_too_large.true)
      | then-is_too_large-via-else-is_too_large+then-is_too_large-2 w ↦ inr (sym w.is_too_large-else-is_too_large.ensures ∙ w.if-is_too_large-2.true)
    ] in
    rw (either_true (too_large args.own.size) (too_large args.other.size) came) refl

pub returns-then-is_out_of_range : goal.returns-then-is_out_of_range
returns-then-is_out_of_range c =
    let args = c.args in
    let small = both_false (too_large args.own.size) (too_large args.other.size)
    (sym c.is_too_large.ensures ∙ c.if-is_too_large.false) (sym c.is_too_large-else-is_too_large.ensures ∙ c.if-is_too_large-2.false) in
    let came : (corner_out args.own.corner ≡ true) ⊎ (corner_out args.other.corner ≡ true) =
    elim c.then-is_out_of_range.branch [
      | then-is_out_of_range-via-then-is_out_of_range w ↦ inl (sym c.is_out_of_range.ensures ∙ w.if-is_out_of_range.true)
      | then-is_out_of_range-via-else-is_out_of_range+then-is_out_of_range-2 w ↦ inr (sym w.is_out_of_range-else-is_out_of_range.ensures ∙ w.if-is_out_of_range-2.true)
    ] in
    rw (small, either_true (corner_out args.own.corner) (corner_out args.other.corner) came) refl

pub returns : goal.returns
returns c =
    let args = c.args in
    let small = both_false (too_large args.own.size) (too_large args.other.size)
    (sym c.is_too_large.ensures ∙ c.if-is_too_large.false) (sym c.is_too_large-else-is_too_large.ensures ∙ c.if-is_too_large-2.false) in
    let own = sym c.is_out_of_range.ensures ∙ c.if-is_out_of_range.false in
    let other = sym c.is_out_of_range-else-is_out_of_range.ensures ∙ c.if-is_out_of_range-2.false in
    rw (small, both_false (corner_out args.own.corner) (corner_out args.other.corner) own other) refl

-- `rounded::turned` meets its contract: the turns passed so far, and the last angle. Assumes nothing.
use mathlib.Core.Path.{◌≡◌, refl, ap, ◌∙◌}
use mathlib.Core.List.{List, [], ◌∷◌}
use Prim.Native.Nat.{ℕ, ◌+◌, ◌-◌, ◌<◌}
use native.Mathlib.Numerals.{add-one}
use native.Mathlib.Omega.{arith}
use lib.ListN.{length, get_or, take, drop}
use Rattle.std.proofs.lemmas.List.{take_all}
use Rattle.std.specs.Float.{nan}
use Rattle.geometry.specs.declared.Position.{Position}
use Rattle.samples.proofs.Folds.{pairs_one, pairs_next}
use Rattle.rounded.specs.Turning.{angle_of}
use Rattle.rounded.proofs.turned.Goals as goal

-- a place of all points but the first
abbrev rest : List Position → List Position
rest points = take (length points - 1) (drop 1 points)

inside : (points : List Position) (i : ℕ) → i < length (rest points) → i + 1 < length points
inside [] i l = absurd (omega arith)
inside (p ∷ ps) i l = let m : i < length ps = rw (take_all (length (p ∷ ps) - 1) ps (omega arith)) at l in omega arith

at_next : (points : List Position) (i : ℕ) (d : Position) → i < length (rest points) → get_or (rest points) i d ≡ get_or points (i + 1) d
at_next [] i d l = absurd (omega arith)
at_next (p ∷ ps) i d l = rw (take_all (length (p ∷ ps) - 1) ps (omega arith), add-one i) refl

pub loop-p-init : goal.loop-p-init
loop-p-init c = (c.none-t.ensures ∙ pairs_one _ _ _ c.requires, c.angle-last.ensures)

pub loop-p-preserved : goal.loop-p-preserved
loop-p-preserved c =
    let outline = c.args.outline.now in
    let i = c.loop-p.p-index in
    let none : Position = record { x = nan; y = nan } in
    let next = c.angle-next.ensures ∙ ap (angle_of c.args.a) (at_next outline i none c.loop-p-test.true) in (
      c.turned_by-t.ensures ∙ rw (c.step.ensures, c.loop-p.invariant.1, next, pairs_next _ _ outline i none (inside outline i c.loop-p-test.true), ← c.loop-p.invariant.0) refl,
      next,
    )

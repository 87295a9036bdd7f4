-- `geometry::Transform2D::inverse` meets its contract: the test picks the definition's case, and the rest is the
-- callees' contracts. Assumes nothing.
use Rattle.geometry.specs.Frame.{inverse_of, collapsed_of, determinant_of}
use mathlib.Core.Bool.{true, false}
use mathlib.Core.Path.{◌≡◌, ◌∙◌}
use Rattle.geometry.proofs.Transform2D.inverse.Goals as goal

pub returns-then-collapsed : goal.returns-then-collapsed
unfolding inverse_of
returns-then-collapsed c =
    let none : collapsed_of (determinant_of c.args.self) ≡ true = cc in
    c.identity.ensures ∙ simp none

pub returns : goal.returns
unfolding inverse_of
returns c =
    let some : collapsed_of (determinant_of c.args.self) ≡ false = cc in
    simp some (cc)

-- `contour::coordinate` meets its contract. Assumes nothing.
use mir.Syntax.{w32}
use mir.Val.{SFits}
use mir.ValLaws.{to_z-of_z}
use borrow.Author.Rules.{rules}
use Rattle.contour.proofs.Walking.{in_limit_float}
use Rattle.contour.proofs.coordinate.Goals as goal

pub int_to_float-result : goal.int_to_float-result
int_to_float-result c =
    let x = c.in-Some.x in
    let fits : SFits w32 c.in-Some.x = search rules in
    rw (to_z-of_z w32 x fits) (in_limit_float x (c.requires x c.in-Some.is))

-- `outline::Walk::draw` meets its contract. Assumes nothing.
use Rattle.outline.proofs.Walking.{draw_line, draw_curve}
use Rattle.outline.proofs.Walk.draw.Goals as goal

pub returns-else-same_place : goal.returns-else-same_place
returns-else-same_place c =
    λ k e.
    draw_line k e c.shut.ensures c.if-shut.false c.in-Line.is c.same_place.ensures c.if-same_place.false
    c.pushed.ensures

pub returns-in-Cubic : goal.returns-in-Cubic
returns-in-Cubic c =
    λ k e. draw_curve k e c.shut.ensures c.if-shut.false c.in-Cubic.is c.pushed-in-Cubic.ensures

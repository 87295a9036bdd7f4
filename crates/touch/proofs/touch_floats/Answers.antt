-- `touch::touch_floats` meets its contract. Assumes nothing.
use Rattle.boxes.specs.Lent.{boxes_in}
use Rattle.touch.specs.Touch.{point_of}
use Rattle.touch.proofs.Finished.{finishes}
use Rattle.touch.proofs.touch_floats.Goals as goal

pub returns : goal.returns
returns c =
    let a = c.args in
    rw (c.finish.ensures, c.first_asked_in-found.ensures.first) (finishes a.fringe (point_of a.x a.y) (boxes_in a.floats.now a.n))

-- `touch::touch` meets its contract. Assumes nothing.
use Rattle.touch.specs.Touch.{point_of}
use Rattle.touch.proofs.Finished.{finishes}
use Rattle.touch.proofs.touch.Goals as goal

pub returns : goal.returns
returns c =
    let a = c.args in
    rw (c.finish.ensures, c.first_asked-found.ensures.first) (finishes a.fringe (point_of a.x a.y) a.boxes.now)

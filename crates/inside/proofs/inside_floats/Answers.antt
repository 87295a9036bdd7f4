-- `inside::inside_floats` meets its contract. Assumes nothing.
use Rattle.boxes.specs.Lent.{boxes_in}
use Rattle.inside.proofs.Finished.{finishes}
use Rattle.inside.proofs.inside_floats.Goals as goal

pub returns : goal.returns
returns c =
    let a = c.args in
    rw (c.finish.ensures, c.first_asked_in-found.ensures.first, c.coverage_unchecked-area.ensures)
    (finishes (boxes_in a.floats.now a.n) a.safe a.fringe)

-- `inside::all_inside` meets its contract. Assumes nothing.
use Rattle.inside.proofs.Finished.{finishes}
use Rattle.inside.proofs.all_inside.Goals as goal

pub returns : goal.returns
returns c =
    let a = c.args in
    rw (c.finish.ensures, c.first_asked-found.ensures.first, c.coverage_unchecked-area.ensures) (finishes a.boxes.now a.safe a.fringe)

-- `edge::push_down` meets its contract. Assumes nothing.
use Rattle.edge.specs.Edges.{sloped_of}
use Rattle.edge.proofs.Pushing.{pushed_none, pushed_one}
use Rattle.edge.proofs.push_down.Goals as goal
use Rattle.edge.proofs.push_down.Goals.{then-bottom-via-then-bottom, then-bottom-via-else-bottom+then-top-from_whole}

pub returns-then-bottom : goal.returns-then-bottom
unfolding sloped_of
returns-then-bottom c =
    elim c.then-bottom.branch [
      | then-bottom-via-then-bottom w ↦ rw w.if-bottom.true pushed_none
      | then-bottom-via-else-bottom+then-top-from_whole w ↦ rw (w.if-bottom.false, ← w.from_whole.ensures, w.if-top-from_whole.true) pushed_none
    ]

pub returns : goal.returns
unfolding sloped_of
returns c =
    rw (c.store.ensures, c.if-bottom.false, ← c.from_whole.ensures, c.if-top-from_whole.false)
    (pushed_one c.requires.count_in_bounds)

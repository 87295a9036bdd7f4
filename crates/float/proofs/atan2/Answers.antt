-- `float::atan2` meets its contract. Assumes nothing.
use Rattle.float.specs.Arctan.{atan2_of}
use Rattle.float.proofs.atan2.Goals as goal

pub returns : goal.returns
unfolding atan2_of
returns c =
    rw (
      ← c.abs-ax.ensures,
      ← c.abs-ay.ensures,
      ← c.ratio.ensures,
      ← c.eighth.ensures,
      ← c.steep.ensures,
      ← c.behind.ensures,
      ← c.under.ensures,
    )

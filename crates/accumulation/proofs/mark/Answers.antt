-- `accumulation::mark` meets its contract: the two words that it stores are those of proofs/Marks.antt. Assumes nothing.
use Rattle.accumulation.proofs.Marks.{marked_word}
use Rattle.accumulation.proofs.mark.Goals as goal

pub returns : goal.returns
returns c = let a = c.args in marked_word a.touched.now a.cell a.n c.requires.n_nonzero.0 c.requires.n_nonzero.1 c.requires.cell_bound.0 c.requires.cell_bound.1

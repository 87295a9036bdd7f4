-- `laying::lay_cells` meets its contract: what is left to do is done as before. Assumes nothing.
use mathlib.Core.Path.{refl, sym, ◌∙◌}
use native.Mathlib.Omega.{arith}
use Rattle.laying.proofs.Cells.{laid_more, laid_all}
use Rattle.laying.proofs.lay_cells.Goals as goal

pub loop-i-preserved : goal.loop-i-preserved
loop-i-preserved c =
    c.loop-i.invariant ∙ laid_more c.loop-i.i c.loop-i.cells c.args.others.now (omega arith) (omega arith) ∙ sym (rw c.lay_byte.ensures refl)

pub returns : goal.returns
returns c = sym (c.loop-i.invariant ∙ laid_all c.loop-i.i c.loop-i.cells c.args.others.now (omega arith))

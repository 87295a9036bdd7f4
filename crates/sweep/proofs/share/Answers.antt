-- `sweep::share` meets its contract. Assumes nothing.
use mathlib.Core.Path.{sym}
use Rattle.sweep.specs.Bytes.{share_of}
use Rattle.sweep.proofs.share.Goals as goal

pub returns-then-folded : goal.returns-then-folded
unfolding share_of
returns-then-folded c = simp (c.if-even_odd.true, sym c.modulo_two-folded.ensures, c.if-folded.true)

pub returns-else-folded : goal.returns-else-folded
unfolding share_of
returns-else-folded c = simp (c.if-even_odd.true, sym c.modulo_two-folded.ensures, c.if-folded.false)

pub returns-else-even_odd : goal.returns-else-even_odd
unfolding share_of
returns-else-even_odd c = simp (c.if-even_odd.false, sym c.abs-size.ensures) c.min.ensures

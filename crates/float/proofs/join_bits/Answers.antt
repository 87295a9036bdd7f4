-- `float::join_bits` meets its contract. Assumes nothing.
use Rattle.std.proofs.Common.{sym, ◌∙◌, zero-add}
use Rattle.float.proofs.join_bits.Goals as goal

pub returns-then-negative : goal.returns-then-negative
returns-then-negative c = rw (c.if-negative.true, c.smaller-held.ensures)

pub returns : goal.returns
returns c = rw c.if-negative.false (c.smaller-held.ensures ∙ sym (zero-add _))

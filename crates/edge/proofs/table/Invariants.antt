-- `edge::table` meets its contract: from the last edge to the first, the edges behind are in the table. Assumes
-- nothing.
use Rattle.edge.proofs.Linking.{TableAt}
use Rattle.edge.proofs.table.Given as goal

abbrev pub invariant-loop-i : goal.invariant-loop-i
invariant-loop-i l = TableAt l.initial.floats l.initial.heads l.l l.floats l.heads l.i

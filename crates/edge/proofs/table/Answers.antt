-- `edge::table` meets its contract: from the last edge to the first, the edges behind are in the table. Assumes
-- nothing.
use mathlib.Core.Path.{ap, ◌∙◌}
use Rattle.edge.specs.Edges.{start_row}
use Rattle.edge.proofs.Linking.{table_start, table_link, table_turn}
use Rattle.edge.proofs.table.Goals as goal

pub loop-i-init : goal.loop-i-init
loop-i-init c = table_start c.requires.placed c.requires.by_index

pub link-requires : goal.link-requires
link-requires c =
    let linked = table_link c.requires.placed c.loop-i.invariant c.loop-i-test.true c.requires.by_index_2
    (c.start_row.ensures ∙ ap start_row c.load-e.ensures) in
    record { i_in_bounds = linked.0; row_bound = linked.1 }

pub loop-i-preserved : goal.loop-i-preserved
loop-i-preserved c =
    table_turn c.requires.placed c.loop-i.invariant c.loop-i-test.true c.requires.by_index_2
    (c.start_row.ensures ∙ ap start_row c.load-e.ensures) c.link.ensures.floats_after c.link.ensures.heads_after

use Rattle.bye_table.specs.Mappings.{row_mapping}
use Rattle.bye_graph.specs.Graphs.{statements}
use Rattle.bye_node.proofs.Holding.{node_by}
use Rattle.bye_node.proofs.meeting.node_holds.Goals as goal

pub returns-then-meets_all-clause-meets : goal.returns-then-meets_all-clause-meets
returns-then-meets_all-clause-meets g c =
    node_by (statements c.args.graph.now) (row_mapping c.args.row.now) c.args.node.now c.as_slice-patterns.result.now c.as_slice-conds.result.now c.meets_all.result c.all_hold.result c.as_slice-patterns.ensures c.as_slice-conds.ensures
    c.meets_all.ensures.meets c.if-meets_all.true c.all_hold.ensures

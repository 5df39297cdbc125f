use Rattle.std.proofs.Common.{drop, ◌↔◌}
use Rattle.bye_table.specs.Mappings.{row_mapping}
use Rattle.bye_node.specs.Steps.{beside}
use Rattle.bye_member.proofs.Valued.{AllTrue}
use Rattle.bye_member.proofs.outer.outer_hold.Given as goal

abbrev pub invariant-loop-expr : goal.invariant-loop-expr
invariant-loop-expr l =
    AllTrue (beside (row_mapping l.view.row.now) l.view.names.now l.view.graph.now.terms l.env) (drop l.expr-index l.outer)
    ↔ AllTrue (beside (row_mapping l.view.row.now) l.view.names.now l.view.graph.now.terms l.env) l.outer

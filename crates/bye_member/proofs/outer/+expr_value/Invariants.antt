use Rattle.std.proofs.Common.{◌≡◌, drop, fold, map}
use Rattle.bye_table.specs.Mappings.{row_mapping}
use Rattle.bye_pattern.specs.Conditions.{and_value, or_value}
use Rattle.bye_node.specs.Steps.{beside}
use Rattle.bye_member.proofs.Valued.{item_value}
use Rattle.bye_member.proofs.outer.+expr_value.Given as goal

abbrev pub invariant-loop-next : goal.invariant-loop-next
invariant-loop-next l =
    fold and_value l.all (map (item_value (beside (row_mapping l.view.row.now) l.view.names.now l.view.graph.now.terms l.env)) (drop l.next-index l.next-items))
    ≡ fold and_value l.initial.all (map (item_value (beside (row_mapping l.view.row.now) l.view.names.now l.view.graph.now.terms l.env)) l.next-items)

abbrev pub invariant-loop-next-2 : goal.invariant-loop-next-2
invariant-loop-next-2 l =
    fold or_value l.any (map (item_value (beside (row_mapping l.view.row.now) l.view.names.now l.view.graph.now.terms l.env)) (drop l.next-index l.next-items))
    ≡ fold or_value l.initial.any (map (item_value (beside (row_mapping l.view.row.now) l.view.names.now l.view.graph.now.terms l.env)) l.next-items)

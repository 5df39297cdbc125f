use Rattle.std.proofs.Common.{[], IfOk, IsTrue, ◌↔◌, subst}
use Rattle.bye_graph.specs.Graphs.{statements}
use Rattle.bye_table.specs.Mappings.{row_mapping}
use Rattle.bye_pattern.specs.Algebra.{IsRow}
use Rattle.bye_pattern.specs.Nodes.{tree_of}
use Rattle.bye_pattern.specs.Trees.{alg, plain_select}
use Rattle.bye_pattern.specs.declared.node.Node.{Node}
use Rattle.bye_member.proofs.Ends.{all_selected, if_ok}
use Rattle.bye_member.proofs.answering.is_answer.Goals as goal

pub returns : goal.returns
returns c =
    let g = c.args.graph.now in
    let m = row_mapping c.args.row.now in
    let t = tree_of c.root-root.result.now in
    let law = all_selected g t c.no_exprs-outer.result.now c.in_ok-names.names m c.no_exprs-outer.ensures c.in_ok-names.ensures.vars in
    subst (λ (root : Node). IfOk c.has_answer.result (λ b. IsTrue b ↔ IsRow (statements g) (alg (plain_select [] (tree_of root))) m)) c.root-root.ensures.root
    (if_ok _ (λ b. IsTrue b ↔ IsRow (statements g) (alg (plain_select [] t)) m) c.has_answer.result (λ b h. ((λ k. law.0 (h.0 k)), (λ k. h.1 (law.1 k)))) c.has_answer.ensures)

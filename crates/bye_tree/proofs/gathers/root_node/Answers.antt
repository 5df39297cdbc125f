use Rattle.std.proofs.Common.{map, ◌∙◌}
use Rattle.bye_pattern.specs.Nodes.{tree_of}
use Rattle.bye_pattern.specs.Patterns.{all_vars}
use Rattle.bye_tree.specs.Exprs.{expr_of}
use Rattle.bye_tree.specs.Names.{with_names}
use Rattle.bye_tree.proofs.Chosen.{root_is}
use Rattle.bye_tree.proofs.gathers.root_node.Goals as goal

pub returns : goal.returns
returns c = λ g p.
    root_is g c.args.parts.triples.items (map expr_of c.args.parts.tests.items) (map tree_of c.args.parts.children.items) c.insert_triples.new.self c.in_ok-tests.tests.conds.items
    (map expr_of c.in_ok-tests.tests.outer.items) (tree_of c.node_of.result) p (c.in_ok-insert_triples.ensures ∙ (λ i. with_names (c.new-own.ensures i) (all_vars (c.as_slice.ensures.value i))))
    c.in_ok-tests.ensures c.node_of.ensures

use Rattle.std.proofs.Common.{map}
use Rattle.bye_pattern.specs.Nodes.{tree_of}
use Rattle.bye_tree.specs.Exprs.{expr_of}
use Rattle.bye_tree.proofs.Chosen.{optional_is}
use Rattle.bye_tree.proofs.gathers.optional_node.Goals as goal

pub returns : goal.returns
returns c = λ g p.
    optional_is g c.args.parts.triples.items (map expr_of c.args.parts.tests.items) (map tree_of c.args.parts.children.items) c.new-none.result c.in_ok-tests.tests.conds.items
    (map expr_of c.in_ok-tests.tests.outer.items) (tree_of c.node_of.result) p c.in_ok-tests.ensures c.node_of.ensures

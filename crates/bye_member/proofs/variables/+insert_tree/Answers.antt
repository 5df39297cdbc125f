use Rattle.bye_tree.proofs.Nodes.{seen_on}
use Rattle.bye_member.proofs.Asking.{tree_in}
use Rattle.bye_member.proofs.variables.+insert_tree.Goals as goal

pub loop-child-preserved : goal.loop-child-preserved
loop-child-preserved t c =
    seen_on c.as_slice-child-items.result.now c.loop-child.child-index c.child-item.result c.loop-child.names c.insert_tree.new.names _ c.loop-child-test.true c.child-item.is c.loop-child.invariant
    c.in_ok-insert_tree.ensures

pub returns : goal.returns
returns t c =
    tree_in c.args.node.now c.as_slice.result.now c.as_slice-child-items.result.now c.loop-child.child-index c.args.names.now c.insert_triples.new.self c.loop-child.names
    c.as_slice.ensures c.as_slice-child-items.ensures c.in_ok-insert_triples.ensures c.loop-child-test.false c.loop-child.invariant

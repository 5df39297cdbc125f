use Rattle.bye_node.proofs.Values.{pairs_more}
use Rattle.bye_node.proofs.extending.pairs.Goals as goal

pub loop-i-preserved : goal.loop-i-preserved
loop-i-preserved c =
    pairs_more c.args.names.now c.as_slice-name-items.result.now c.args.graph.now.terms c.args.env.now c.loop-i.i c.name-item.result c.var.result.now c.cell.result _ c.loop-i.pairs.items c.push_pair.new.pairs.items
    c.as_slice-name-items.ensures c.loop-i-test.true c.name-item.is c.var.ensures c.cell.ensures c.cell_term.ensures c.in_ok-push_pair.ensures c.loop-i.invariant

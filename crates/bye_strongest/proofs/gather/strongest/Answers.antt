use Rattle.bye_graph.specs.Graphs.{statements}
use Rattle.bye_strongest.proofs.Numbering.{item_in}
use Rattle.bye_strongest.proofs.Whole.{whole}
use Rattle.bye_strongest.proofs.gather.strongest.Goals as goal

pub returns : goal.returns
returns c =
    whole c.args.level (statements c.args.graph.now) c.args.vars.now c.args.rows.now c.index-rows-0.result c.in_ok-triples.triples.items c.in_ok-conds.conds.items _ c.requires.once
    (item_in c.args.rows.now 0 c.index-rows-0.result c.requires.rows c.index-rows-0.is) c.in_ok-triples.ensures.common c.in_ok-triples.ensures.sorted c.in_ok-conds.ensures c.node_of.ensures

use Rattle.bye_table.specs.Mappings.{row_mapping}
use Rattle.bye_node.proofs.Compiling.{lost_at, shapes_more}
use Rattle.bye_node.proofs.compile.shapes.Goals as goal

pub returns-in-None : goal.returns-in-None
returns-in-None c =
    lost_at c.args.view.names.now c.args.view.graph.now.terms (row_mapping c.args.view.row.now) c.args.patterns.now c.loop-pattern.pattern-index c.pattern-item.result c.loop-pattern-test.true c.pattern-item.is c.in-None.ensures

pub loop-pattern-preserved : goal.loop-pattern-preserved
loop-pattern-preserved c =
    shapes_more c.args.view.names.now c.args.view.graph.now.terms (row_mapping c.args.view.row.now) c.args.patterns.now c.loop-pattern.shapes.items _ c.loop-pattern.pattern-index c.pattern-item.result c.in-Some.shape
    c.loop-pattern-test.true c.pattern-item.is c.loop-pattern.invariant c.in-Some.ensures c.in_ok-push_item-in-Some.ensures.ok

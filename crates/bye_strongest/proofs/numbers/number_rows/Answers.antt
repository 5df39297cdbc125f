use Rattle.bye_strongest.proofs.Numbering.{rows_more}
use Rattle.bye_strongest.proofs.numbers.number_rows.Goals as goal

pub loop-row-preserved : goal.loop-row-preserved
loop-row-preserved c =
    rows_more c.args.graph.now.terms c.args.vars.now c.args.rows.now c.loop-row.out.items c.push_item.new.items.items c.loop-row.row-index c.row-item.result c.in_ok-of_row.field-0 c.loop-row-test.true c.row-item.is
    c.loop-row.invariant c.in_ok-of_row.ensures c.in_ok-push_item.ensures.ok

use Rattle.bye_strongest.proofs.Numbering.{numbers_more}
use Rattle.bye_strongest.proofs.numbers.Numbers.of_row.Goals as goal

pub loop-cell-preserved : goal.loop-cell-preserved
loop-cell-preserved c =
    numbers_more c.args.graph.now.terms c.loop-cell.yielded c.loop-cell.cells.items c.push_item.new.items.items c.in-Some.cell c.number_of.result c.loop-cell.invariant c.number_of.ensures c.in_ok-push_item.ensures.ok

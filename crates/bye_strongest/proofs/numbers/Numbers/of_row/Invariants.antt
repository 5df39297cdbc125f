use Rattle.bye_table.specs.Cells.{found}
use Rattle.bye_strongest.specs.Numbers.{AreNumbers}
use Rattle.bye_strongest.proofs.numbers.Numbers.of_row.Given as goal

abbrev pub invariant-loop-cell : goal.invariant-loop-cell
invariant-loop-cell l = AreNumbers l.graph.terms (found l.yielded) l.cells.items

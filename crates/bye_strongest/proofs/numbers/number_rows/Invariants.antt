use Rattle.std.proofs.Common.{take}
use Rattle.bye_strongest.specs.Numbers.{AreNumberedRows}
use Rattle.bye_strongest.proofs.numbers.number_rows.Given as goal

abbrev pub invariant-loop-row : goal.invariant-loop-row
invariant-loop-row l = AreNumberedRows l.graph.terms l.vars (take l.row-index l.rows) l.out.items

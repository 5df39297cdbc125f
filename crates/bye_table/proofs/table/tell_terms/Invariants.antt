use Rattle.std.proofs.Common.{take}
use Rattle.std.specs.List.{AllByRecursion}
use Rattle.bye_table.specs.Tables.{IsRdfRow}
use Rattle.bye_table.proofs.table.tell_terms.Given as goal

abbrev pub invariant-loop-row : goal.invariant-loop-row
invariant-loop-row l = AllByRecursion IsRdfRow (take l.row-index l.rows)

use Rattle.std.proofs.Common.{take}
use Rattle.bye_table.specs.Tables.{IsRdfRow}
use Rattle.bye_table.proofs.row.Row.as_rdf.Given as goal

abbrev pub invariant-loop-pair : goal.invariant-loop-pair
invariant-loop-pair l = IsRdfRow (take l.pair-index l.self)

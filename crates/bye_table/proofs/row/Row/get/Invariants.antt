use Rattle.std.proofs.Common.{◌≡◌, drop}
use Rattle.bye_table.specs.Mappings.{row_mapping}
use Rattle.bye_table.proofs.row.Row.get.Given as goal

abbrev pub invariant-loop-pair : goal.invariant-loop-pair
invariant-loop-pair l = row_mapping l.self l.variable ≡ row_mapping (drop l.pair-index l.self) l.variable

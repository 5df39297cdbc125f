use Rattle.std.proofs.Common.{◌≡◌, drop}
use Rattle.bye_table.specs.Mappings.{row_mapping}
use Rattle.bye_node.proofs.view.row_value.Given as goal

abbrev pub invariant-loop-pair : goal.invariant-loop-pair
invariant-loop-pair l = row_mapping l.row l.var ≡ row_mapping (drop l.pair-index l.row) l.var

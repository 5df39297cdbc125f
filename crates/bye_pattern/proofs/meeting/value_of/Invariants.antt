use Rattle.std.proofs.Common.{◌≡◌, drop}
use Rattle.bye_table.specs.Mappings.{row_mapping}
use Rattle.bye_pattern.proofs.meeting.value_of.Given as goal

abbrev pub invariant-loop-e : goal.invariant-loop-e
invariant-loop-e l = row_mapping l.row l.name ≡ row_mapping (drop l.e-index l.row) l.name

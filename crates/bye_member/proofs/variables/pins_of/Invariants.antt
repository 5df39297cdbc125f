use Rattle.std.proofs.Common.{take}
use Rattle.bye_table.specs.Mappings.{row_mapping}
use Rattle.bye_member.specs.Answers.{ArePins}
use Rattle.bye_member.proofs.variables.pins_of.Given as goal

abbrev pub invariant-loop-name : goal.invariant-loop-name
invariant-loop-name l = ArePins l.graph.terms l.selected (row_mapping l.row) (take l.name-index l.name-items) l.pins.items

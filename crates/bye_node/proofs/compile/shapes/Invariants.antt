use Rattle.std.proofs.Common.{map, take}
use Rattle.bye_table.specs.Mappings.{row_mapping}
use Rattle.bye_node.specs.Steps.{AreShapes, pattern_in}
use Rattle.bye_node.proofs.compile.shapes.Given as goal

abbrev pub invariant-loop-pattern : goal.invariant-loop-pattern
invariant-loop-pattern l = AreShapes l.view.names.now l.view.graph.now.terms (map (pattern_in (row_mapping l.view.row.now)) (take l.pattern-index l.patterns)) l.shapes.items

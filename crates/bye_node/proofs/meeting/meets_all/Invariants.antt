use Rattle.std.proofs.Common.{ℕ, ◌+◌, ◌*◌, ◌≤◌, length, take}
use Rattle.std.specs.List.{AllByRecursion}
use Rattle.bye_table.specs.Mappings.{row_mapping}
use Rattle.bye_pattern.specs.Patterns.{Meets}
use Rattle.bye_graph.specs.Graphs.{IsDepth, statements}
use Rattle.bye_node.proofs.meeting.meets_all.Given as goal

abbrev pub invariant-loop-pattern : goal.invariant-loop-pattern
invariant-loop-pattern g l = record {
  meets : AllByRecursion (Meets (statements l.graph) (row_mapping l.row)) (take l.pattern-index l.patterns);
  cost : (d : ℕ) → IsDepth (length l.graph.keys) d → l.steps ≤ l.fn.steps + d * l.pattern-index;
}

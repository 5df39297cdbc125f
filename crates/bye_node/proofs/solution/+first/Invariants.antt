use Rattle.std.proofs.Common.{length}
use Rattle.bye_table.specs.Mappings.{row_mapping}
use Rattle.bye_node.proofs.Solving.{IsLeft}
use Rattle.bye_node.proofs.solution.+first.Given as goal

abbrev pub decreases-first : goal.decreases-first
decreases-first g l = length l.shapes.now

abbrev pub invariant-loop-key : goal.invariant-loop-key
invariant-loop-key g l = IsLeft (row_mapping l.view.row.now) l.view.names.now l.view.graph.now l.conds l.fn.shapes l.shape l.fn.env l.env l.rest l.found

abbrev pub decreases-loop-key : goal.decreases-loop-key
decreases-loop-key g l = length l.found

use Rattle.std.proofs.Common.{◌≡◌, ◌++◌, drop}
use Rattle.bye_node.specs.Steps.{pairs}
use Rattle.bye_node.proofs.extending.pairs.Given as goal

abbrev pub invariant-loop-i : goal.invariant-loop-i
invariant-loop-i l = pairs l.names l.graph.terms l.env ≡ l.pairs.items ++ pairs (drop l.i l.names) l.graph.terms (drop l.i l.env)

use Rattle.std.proofs.Common.{sym, subst}
use Rattle.bye_graph.specs.Graphs.{AreMatches}
use Rattle.bye_graph.proofs.Asking.{part_matches}
use Rattle.bye_graph.proofs.Sorted.{sorted_once}
use Rattle.bye_graph.proofs.graph.Graph.find.Goals as goal

pub returns-clause-matches : goal.returns-clause-matches
returns-clause-matches g c =
    subst (AreMatches c.args.self.now.keys c.args.s c.args.p c.args.o) (sym c.new.ensures)
    (part_matches c.span_of-order.result.0 c.span_of-order.result.1 c.args.self.now.keys c.order.result.now c.part_within.result.now c.args.s c.args.p c.args.o c.order.ensures c.span_of-order.ensures c.part_within.ensures.entries
    (sorted_once c.part_within.result.now c.part_within.ensures.strict))

pub returns-clause-cost : goal.returns-clause-cost
returns-clause-cost g c = λ d depth. c.part_within.ensures.cost _ d c.order.ensures.count depth

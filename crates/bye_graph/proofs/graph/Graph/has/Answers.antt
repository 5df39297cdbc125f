use Rattle.bye_graph.proofs.Asking.{has_some, has_none}
use Rattle.bye_graph.proofs.graph.Graph.has.Goals as goal

pub returns-in-Some-clause-found : goal.returns-in-Some-clause-found
returns-in-Some-clause-found g c =
    has_some c.args.self.now.keys c.order.result.now (c.args.s, c.args.p, c.args.o) c.entry_of-entry.result c.first_from.result.0 c.first_from.result.1 c.in-Some.there _ c.order.ensures c.entry_of-entry.ensures
    c.first_from.ensures.before c.first_from.ensures.after c.first_from.ensures.there c.in-Some.is c.eq.ensures

pub returns-in-None-clause-found : goal.returns-in-None-clause-found
returns-in-None-clause-found g c = (
  λ e. cc,
  λ h. absurd (has_none c.args.self.now.keys c.order.result.now (c.args.s, c.args.p, c.args.o) c.entry_of-entry.result c.first_from.result.0 c.first_from.result.1 c.order.ensures c.entry_of-entry.ensures
      c.first_from.ensures.before c.first_from.ensures.after c.first_from.ensures.there c.in-None.is h),
)

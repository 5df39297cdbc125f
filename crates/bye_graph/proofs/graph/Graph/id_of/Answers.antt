use Rattle.std.proofs.Common.{IsSome, ◌↔◌, subst}
use Rattle.bye_graph.specs.Graphs.{GraphValue, StandsIn, statements}
use Rattle.bye_graph.specs.Orders.{keys_of}
use Rattle.bye_graph.proofs.Asking.{standing_by}
use Rattle.bye_graph.proofs.graph.Graph.id_of.Goals as goal

pub returns-clause-exactly : goal.returns-clause-exactly
returns-clause-exactly c =
    let g : GraphValue = record { terms = c.self.inside.terms; keys = keys_of c.self.inside.spo.items } in
    subst (λ g. IsSome c.id_of.result ↔ StandsIn (statements g) c.args.term.now) c.self.view_is (standing_by g c.args.term.now c.id_of.result c.self.invariant.numbered c.id_of.ensures)

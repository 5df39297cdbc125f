use Rattle.std.proofs.Common.{◌↔◌, map, sym, subst}
use Rattle.bye_terms.specs.Members.{In}
use Rattle.bye_graph.specs.declared.entry.Order.TheVariants.{Predicate, Object}
use Rattle.bye_graph.specs.Graphs.{GraphValue, statements}
use Rattle.bye_graph.specs.Orders.{entry_of, keys_of, IsSortedSet}
use Rattle.bye_graph.proofs.Ordering.{graph_made, set_statements}
use Rattle.bye_graph.proofs.builder.GraphBuilder.finish.Goals as goal

pub new-requires : goal.new-requires
new-requires c =
    graph_made c.self.inside.terms c.self.inside.entries.items c.sorted-spo.result.items c.in_ok-pos.pos.items c.in_ok-osp.osp.items c.self.invariant c.sorted-spo.ensures
    (subst (λ xs. IsSortedSet (map (entry_of Predicate) (keys_of xs)) c.in_ok-pos.pos.items) c.as_slice.ensures.value c.in_ok-pos.ensures)
    (subst (λ xs. IsSortedSet (map (entry_of Object) (keys_of xs)) c.in_ok-osp.osp.items) c.as_slice-2.ensures.value c.in_ok-osp.ensures)

pub returns : goal.returns
returns c = λ f.
    let g : GraphValue = record { terms = c.self.inside.terms; keys = keys_of c.sorted-spo.result.items } in
    subst (λ g. In (statements g) f ↔ In c.args.self f) (sym c.new.ensures)
    (subst (λ fs. In (statements g) f ↔ In fs f) c.self.view_is (set_statements c.self.inside.terms c.self.inside.entries.items c.sorted-spo.result.items c.sorted-spo.ensures f))

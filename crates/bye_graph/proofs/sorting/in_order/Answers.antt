use Rattle.std.proofs.Common.{◌∙◌, ap, subst, map}
use Rattle.bye_graph.specs.declared.entry.Order.TheVariants.{Subject}
use Rattle.bye_graph.specs.Orders.{entry_of, key_of, IsSortedSet}
use Rattle.bye_graph.proofs.Ordering.{map_map, take_all}
use Rattle.bye_graph.proofs.sorting.in_order.Goals as goal

pub returns : goal.returns
returns c =
    subst (λ xs. IsSortedSet xs c.sorted.result.items)
    (c.loop-entry.invariant ∙ ap (map (λ x. entry_of c.args.order (key_of Subject x))) (take_all c.args.spo.now c.loop-entry.entry-index c.loop-entry-test.false) ∙ map_map c.args.order c.args.spo.now)
    c.sorted.ensures

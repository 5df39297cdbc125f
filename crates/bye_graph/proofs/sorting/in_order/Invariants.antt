use Rattle.std.proofs.Common.{◌≡◌, map, take}
use Rattle.bye_graph.specs.declared.entry.Order.TheVariants.{Subject}
use Rattle.bye_graph.specs.Orders.{entry_of, key_of}
use Rattle.bye_graph.proofs.sorting.in_order.Given as goal

abbrev pub invariant-loop-entry : goal.invariant-loop-entry
invariant-loop-entry l = l.entries.items ≡ map (λ x. entry_of l.order (key_of Subject x)) (take l.entry-index l.spo)

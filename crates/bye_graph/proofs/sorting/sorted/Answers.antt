use Rattle.std.proofs.Common.{◌∙◌}
use Rattle.std.proofs.lemmas.List.Filters.{dedup_is}
use Rattle.bye_graph.proofs.Ordering.{same_entry, sorted_set}
use Rattle.bye_graph.proofs.sorting.sorted.Goals as goal

pub returns : goal.returns
returns c =
    sorted_set c.args.entries.items c.sort_unstable.new.self.items c.shrink_to_fit.new.self.items c.sort_unstable.ensures.permutation c.sort_unstable.ensures.sorted
    (c.shrink_to_fit.ensures.items ∙ dedup_is same_entry _ _ c.dedup.ensures.filtered)

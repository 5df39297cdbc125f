use Rattle.std.proofs.lemmas.List.Filters.{dedup_is}
use Rattle.bye_strongest.proofs.OneRestriction.{same_restriction, sorted_once}
use Rattle.bye_strongest.proofs.restrictions.each_once.Goals as goal

pub returns : goal.returns
returns c =
    sorted_once c.args.restrictions.items c.sort_unstable.new.self.items c.dedup.new.self.items c.sort_unstable.ensures.permutation (dedup_is same_restriction _ _ c.dedup.ensures.filtered)

use Rattle.bye_strongest.proofs.Restricting.{moved_both}
use Rattle.bye_strongest.proofs.restrictions.grouped.Goals as goal

pub returns : goal.returns
returns c = moved_both c.args.shapes.items c.sort_unstable_by.new.self.items c.sort_unstable_by.ensures.permutation

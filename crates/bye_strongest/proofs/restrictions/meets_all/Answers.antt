use Rattle.bye_strongest.specs.Restrictions.{MeetsRestriction}
use Rattle.bye_strongest.proofs.Restricting.{not_all}
use Rattle.bye_strongest.proofs.restrictions.meets_all.Goals as goal

pub returns-then-not-meets : goal.returns-then-not-meets
returns-then-not-meets g c =
    not_all (MeetsRestriction c.args.graph.now.keys c.args.shape) c.args.restrictions.now c.loop-restriction.restriction-index _ c.meets.result c.loop-restriction-test.true c.meets.ensures c.if-not-meets.true

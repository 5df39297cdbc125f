use Rattle.std.proofs.Common.{take}
use Rattle.std.specs.List.{AllByRecursion}
use Rattle.bye_strongest.specs.Restrictions.{MeetsRestriction}
use Rattle.bye_strongest.proofs.restrictions.meets_all.Given as goal

abbrev pub invariant-loop-restriction : goal.invariant-loop-restriction
invariant-loop-restriction g l = AllByRecursion (MeetsRestriction l.graph.keys l.shape) (take l.restriction-index l.restrictions)

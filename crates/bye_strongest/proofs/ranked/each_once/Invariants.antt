use Rattle.std.proofs.Common.{◌≡◌, ◌++◌, length}
use Rattle.bye_strongest.specs.Ranking.{each_once}
use Rattle.bye_strongest.proofs.ranked.each_once.Given as goal

abbrev pub decreases-loop-one : goal.decreases-loop-one
decreases-loop-one l = length l.rest

abbrev pub invariant-loop-one : goal.invariant-loop-one
invariant-loop-one l = l.out.items ++ each_once l.rest ≡ each_once l.ranked

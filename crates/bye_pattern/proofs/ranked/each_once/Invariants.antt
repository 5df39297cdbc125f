use Rattle.std.proofs.Common.{drop}
use Rattle.bye_pattern.proofs.Orders.{IsOnce}
use Rattle.bye_pattern.proofs.ranked.each_once.Given as goal

abbrev pub invariant-loop-r : goal.invariant-loop-r
invariant-loop-r l = IsOnce l.ranked l.out.items (drop l.r-index l.ranked)

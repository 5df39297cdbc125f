use Rattle.std.proofs.Common.{◌≡◌}
use Rattle.bye_strongest.proofs.ranked.rank.Given as goal

abbrev pub invariant-loop-pattern : goal.invariant-loop-pattern
invariant-loop-pattern l = l.out.items ≡ l.yielded

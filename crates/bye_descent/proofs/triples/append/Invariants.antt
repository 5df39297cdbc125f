use Rattle.std.proofs.Common.{◌≡◌, ◌++◌}
use Rattle.bye_descent.proofs.triples.append.Given as goal

abbrev pub invariant-rounds : goal.invariant-rounds
invariant-rounds g l = l.all.items ≡ l.initial.all.items ++ l.yielded

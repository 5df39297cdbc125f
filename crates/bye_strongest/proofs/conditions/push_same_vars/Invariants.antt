use Rattle.std.proofs.Common.{◌≡◌, ◌++◌, length}
use Rattle.bye_strongest.specs.Conds.{same_vars}
use Rattle.bye_strongest.proofs.conditions.push_same_vars.Given as goal

abbrev pub decreases-loop-one : goal.decreases-loop-one
decreases-loop-one l = length l.rest

abbrev pub invariant-loop-one : goal.invariant-loop-one
invariant-loop-one l = l.out.items ++ same_vars l.rest ≡ l.initial.out.items ++ same_vars l.vars

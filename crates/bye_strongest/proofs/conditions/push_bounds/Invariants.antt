use Rattle.std.proofs.Common.{◌≡◌, ◌++◌, map, take}
use Rattle.bye_pattern.specs.declared.cond.Cond.TheVariants as conds
use Rattle.bye_strongest.proofs.conditions.push_bounds.Given as goal

abbrev pub invariant-loop-var : goal.invariant-loop-var
invariant-loop-var l = l.out.items ≡ l.initial.out.items ++ map conds.Bound (take l.var-index l.vars)

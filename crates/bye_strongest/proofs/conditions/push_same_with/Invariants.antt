use Rattle.std.proofs.Common.{◌≡◌, ◌++◌, map, take}
use Rattle.bye_pattern.specs.declared.cond.Cond.TheVariants as conds
use Rattle.bye_strongest.proofs.conditions.push_same_with.Given as goal

abbrev pub invariant-loop-other : goal.invariant-loop-other
invariant-loop-other l = l.out.items ≡ l.initial.out.items ++ map (conds.SameVar l.one) (take l.other-index l.later)

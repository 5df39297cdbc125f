use Rattle.std.proofs.Common.{◌≡◌, ◌++◌, take}
use Rattle.std.specs.List.{flat_map}
use Rattle.bye_strongest.specs.Conds.{kinds_of}
use Rattle.bye_strongest.proofs.conditions.push_all_kinds.Given as goal

abbrev pub invariant-loop-var : goal.invariant-loop-var
invariant-loop-var l = l.out.items ≡ l.initial.out.items ++ flat_map kinds_of (take l.var-index l.vars)

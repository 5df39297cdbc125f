use Rattle.std.proofs.Common.{◌≡◌, ◌++◌, drop, map}
use Rattle.bye_tree.specs.Names.{with_names}
use Rattle.bye_tree.proofs.judge.enter.Given as goal

abbrev pub invariant-loop-name : goal.invariant-loop-name
invariant-loop-name l = record {
  above_is : map (λ v. v.now) l.above.items ++ drop l.name-index l.name-items ≡ map (λ v. v.now) l.initial.above.items ++ l.name-items;
  seen_is : with_names l.seen (drop l.name-index l.name-items) ≡ with_names l.initial.seen l.name-items;
}

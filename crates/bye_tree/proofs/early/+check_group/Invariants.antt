use Rattle.std.proofs.Common.{◌≡◌, ◌+◌, ◌≤◌, drop, map}
use Rattle.bye_pattern.specs.Trees.{forest_vars}
use Rattle.bye_pattern.specs.Gathered.{optionals}
use Rattle.bye_tree.specs.Names.{with_names}
use Rattle.bye_tree.specs.Written.{elements_of}
use Rattle.bye_tree.proofs.Groups.{Walked}
use Rattle.bye_tree.proofs.early.+check_group.Given as goal

abbrev pub invariant-loop-element : goal.invariant-loop-element
invariant-loop-element l = record {
  few : l.number ≤ l.element-index;
  above_is : map (λ v. v.now) l.above.items ≡ map (λ v. v.now) l.initial.above.items;
  seen_is : with_names l.seen (forest_vars (optionals (elements_of (drop l.element-index l.elements)))) ≡ with_names l.initial.seen (forest_vars (optionals (elements_of l.elements)));
  walked : Walked (map (λ v. v.now) l.initial.above.items) l.initial.seen l.early l.seen (elements_of l.elements) (l.number + 1) (elements_of (drop l.element-index l.elements));
}

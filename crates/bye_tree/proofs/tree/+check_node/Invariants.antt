use Rattle.std.proofs.Common.{◌≡◌, ◌+◌, drop, map}
use Rattle.bye_pattern.specs.Nodes.{forest_of, tree_of}
use Rattle.bye_pattern.specs.Trees.{forest_vars}
use Rattle.bye_tree.specs.Names.{with_names}
use Rattle.bye_tree.proofs.Walked.{Walked}
use Rattle.bye_tree.proofs.tree.+check_node.Given as goal

abbrev pub invariant-loop-index : goal.invariant-loop-index
invariant-loop-index l = record {
  above_is : map (λ v. v.now) l.above.items ≡ map (λ v. v.now) l.initial.above.items;
  seen_is : with_names l.seen (forest_vars (forest_of (map tree_of (drop l.index l.children)))) ≡ with_names l.initial.seen (forest_vars (forest_of (map tree_of l.children)));
  walked : Walked l.own (map (λ v. v.now) l.initial.above.items) l.initial.seen l.seen (forest_of (map tree_of l.children)) (l.index + 1) (forest_of (map tree_of (drop l.index l.children)));
}

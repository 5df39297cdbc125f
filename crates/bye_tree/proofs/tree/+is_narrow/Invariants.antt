use Rattle.std.proofs.Common.{◌↔◌, drop, map}
use Rattle.bye_pattern.specs.Nodes.{forest_of, tree_of}
use Rattle.bye_tree.specs.Trees.{AreNarrow}
use Rattle.bye_tree.proofs.tree.+is_narrow.Given as goal

abbrev pub invariant-loop-child : goal.invariant-loop-child
invariant-loop-child l = AreNarrow (forest_of (map tree_of (drop l.child-index l.children))) ↔ AreNarrow (forest_of (map tree_of l.children))

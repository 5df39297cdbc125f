use Rattle.std.proofs.Common.{◌≡◌, drop, map}
use Rattle.bye_pattern.specs.Nodes.{forest_of, tree_of}
use Rattle.bye_pattern.specs.Trees.{forest_vars}
use Rattle.bye_tree.specs.Names.{with_names}
use Rattle.bye_member.proofs.variables.+insert_tree.Given as goal

abbrev pub invariant-loop-child : goal.invariant-loop-child
invariant-loop-child l =
    with_names l.names (forest_vars (forest_of (map tree_of (drop l.child-index l.child-items)))) ≡ with_names l.initial.names (forest_vars (forest_of (map tree_of l.child-items)))

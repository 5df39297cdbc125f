use Rattle.std.proofs.Common.{◌≡◌, ◌++◌, drop, map}
use Rattle.bye_pattern.specs.Nodes.{forest_of, tree_of}
use Rattle.bye_pattern.specs.Printed.{forest_lines}
use Rattle.bye_grammar.specs.ValidSelects.{AreValidTrees}
use Rattle.bye_printer.proofs.groups.+push_group.Given as goal

abbrev pub invariant-loop-child : goal.invariant-loop-child
invariant-loop-child l = record {
  text : l.out ++ forest_lines l.margin (forest_of (map tree_of (drop l.child-index l.child-items))) ≡ l.initial.out ++ forest_lines l.margin (forest_of (map tree_of l.child-items));
  valid : AreValidTrees (forest_of (map tree_of (drop l.child-index l.child-items))) → AreValidTrees (forest_of (map tree_of l.child-items));
}

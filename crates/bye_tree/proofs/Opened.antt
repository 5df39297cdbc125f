-- One level of a node.
use Rattle.std.proofs.Common.{◌≡◌, map}
use Rattle.bye_pattern.specs.declared.node.Node.{Node, out-Node}
use Rattle.bye_pattern.specs.declared.node.Node.TheFolds.{fold_out-Node}
use Rattle.bye_pattern.specs.Trees.{Tree, node}
use Rattle.bye_pattern.specs.Nodes.{tree_of, tree_step, forest_of}

pub tree_out : (n : Node) → tree_of n ≡ node (out-Node n).triples (out-Node n).conds (forest_of (map tree_of (out-Node n).children))
tree_out n = fold_out-Node Tree tree_step n

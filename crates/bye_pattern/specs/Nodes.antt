-- A node of the program, read as plain data.
use Rattle.std.specs.Prelude.{List, [], ◌∷◌}
use Rattle.bye_pattern.specs.declared.node.Node.{Node}
use Rattle.bye_pattern.specs.declared.node.Node.TheOpen.{Node-F}
use Rattle.bye_pattern.specs.declared.node.Node.TheFolds.{fold-Node}
use Rattle.bye_pattern.specs.Trees.{Tree, node, Forest, leaf, more}

-- the trees of a list, one beside another
abbrev pub forest_of : List Tree → Forest
forest_of [] = leaf
forest_of (t ∷ ts) = more t (forest_of ts)

-- a node whose children are read already
abbrev pub tree_step : Node-F Tree → Tree
tree_step n = node n.triples n.conds (forest_of n.children)

-- the tree that a node is
abbrev pub tree_of : Node → Tree
tree_of = fold-Node Tree tree_step

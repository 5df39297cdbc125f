-- A SELECT of the program, read as plain data.
use Rattle.std.specs.Prelude.{Bool, List, map}
use Rattle.bye_table.specs.Mappings.{Name}
use Rattle.bye_pattern.specs.declared.node.Node.{Node}
use Rattle.bye_pattern.specs.Nodes.{tree_of}
use Rattle.bye_pattern.specs.Trees as plain
use Rattle.bye_tree.specs.declared.expr.Expr.{Expr}
use Rattle.bye_tree.specs.Exprs.{expr_of}

-- the parts of a SELECT of the program
pub record Parts : Type 0 where
  pub distinct : Bool
  pub vars : List Name
  pub tree : Node
  pub outer : List Expr

-- the plain SELECT of these parts
abbrev pub select_of : Parts → plain.Select
select_of s = record { distinct = s.distinct; vars = s.vars; tree = tree_of s.tree; outer = map expr_of s.outer }

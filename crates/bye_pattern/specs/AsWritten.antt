-- The written query that the written text of a select is: each group has its triples first, then its FILTERs, then its OPTIONALs.
use Rattle.std.specs.Prelude.{List, [], ◌∷◌, ◌++◌, Some, map}
use Rattle.bye_pattern.specs.Conditions.{Expr, cond_expr}
use Rattle.bye_pattern.specs.Trees.{Tree, node, Forest, leaf, more, Select}
use Rattle.bye_pattern.specs.Written.{Group, Block, Optional, Filter, done, also, Written}

-- FILTERs before the rest of a group
abbrev pub with_filters : List Expr → Group → Group
with_filters [] g = g
with_filters (e ∷ es) g = also (Filter e) (with_filters es g)

-- the group of a node, with further expressions, and the OPTIONALs of its children
abbrev mutual
  pub tree_group : List Expr → Tree → Group
  tree_group outer (node ps cs f) = also (Block ps) (with_filters (map cond_expr cs ++ outer) (forest_group f))

  pub forest_group : Forest → Group
  forest_group leaf = done
  forest_group (more t f) = also (Optional (tree_group [] t)) (forest_group f)

-- the query of a select
abbrev pub as_written : Select → Written
as_written q = record { distinct = q.distinct; vars = Some q.vars; group = tree_group q.outer q.tree }

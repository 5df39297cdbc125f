-- Trees of groups as plain data, their translation to the algebra (SPARQL 1.1 Query, section 18.2).
use Rattle.std.specs.Prelude.{Bool, true, List, [], ◌++◌, map}
use Rattle.bye_pattern.specs.declared.cond.Cond.{Cond}
use Rattle.bye_table.specs.Mappings.{Name}
use Rattle.bye_pattern.specs.Patterns.{Pattern, all_vars}
use Rattle.bye_pattern.specs.Conditions.{Expr, cond_expr}
use Rattle.bye_pattern.specs.Algebra.{Alg, Bgp, LeftJoin, Filter}

-- a node has triple patterns, plain conditions and child nodes; a child is an OPTIONAL group
mutual
  pub data Tree : Type 0 where
    node : List Pattern → List Cond → Forest → Tree

  pub data Forest : Type 0 where
    leaf : Forest
    more : Tree → Forest → Forest

-- the triple patterns of the root
abbrev pub own_triples : Tree → List Pattern
own_triples (node ps cs f) = ps

-- the conditions of the root
abbrev pub own_conds : Tree → List Cond
own_conds (node ps cs f) = cs

-- the variables of the root's triple patterns
abbrev pub own_vars : Tree → List Name
own_vars t = all_vars (own_triples t)

-- the group without its filter: its patterns, and a LeftJoin for each child in order
abbrev mutual
  pub body : Tree → Alg
  body (node ps cs f) = joined (Bgp ps) f

  pub joined : Alg → Forest → Alg
  joined a leaf = a
  joined a (more t f) = joined (LeftJoin a (body t) (map cond_expr (own_conds t))) f

-- SELECT, with DISTINCT or without, of these variables, over this tree, with the further expressions of its root's FILTERs
pub record Select : Type 0 where
  pub distinct : Bool
  pub vars : List Name
  pub tree : Tree
  pub outer : List Expr

-- SELECT DISTINCT without further expressions
abbrev pub plain_select : List Name → Tree → Select
plain_select vs t = record { distinct = true; vars = vs; tree = t; outer = [] }

-- the root's conditions and the further expressions are applied to the whole
abbrev pub alg : Select → Alg
alg s = Filter (map cond_expr (own_conds s.tree) ++ s.outer) (body s.tree)

-- all variables of the tree's triples
abbrev mutual
  pub tree_vars : Tree → List Name
  tree_vars (node ps cs f) = all_vars ps ++ forest_vars f

  pub forest_vars : Forest → List Name
  forest_vars leaf = []
  forest_vars (more t f) = tree_vars t ++ forest_vars f

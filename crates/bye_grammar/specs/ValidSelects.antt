-- What holds of the parts of each SELECT of the program.
use Rattle.std.specs.Prelude.{◌≡◌, true, List}
use Rattle.std.specs.List.{AllByRecursion}
use Rattle.bye_terms.specs.Names.{is_name}
use Rattle.bye_table.specs.Mappings.{Name}
use Rattle.bye_pattern.specs.declared.cond.Cond.{Cond}
use Rattle.bye_pattern.specs.Conditions.{cond_expr}
use Rattle.bye_pattern.specs.Patterns.{Pattern}
use Rattle.bye_pattern.specs.Trees.{Tree, node, Forest, leaf, more, Select}
use Rattle.bye_grammar.specs.Valid.{IsPattern, IsExpr}

-- patterns and conditions of variables that have names, and of RDF terms that are no blank nodes, in each node
abbrev mutual
  pub IsValidTree : Tree → Type 0
  IsValidTree (node ps cs f) = AllByRecursion IsPattern ps × AllByRecursion (λ c. IsExpr (cond_expr c)) cs × AreValidTrees f

  pub AreValidTrees : Forest → Type 0
  AreValidTrees leaf = Unit {0}
  AreValidTrees (more t f) = IsValidTree t × AreValidTrees f

-- the same of the selected variables, the tree and the outer expressions
pub record IsValidSelect (q : Select) : Type 0 where
  pub vars : AllByRecursion (λ v. is_name v ≡ true) q.vars
  pub tree : IsValidTree q.tree
  pub outer : AllByRecursion IsExpr q.outer

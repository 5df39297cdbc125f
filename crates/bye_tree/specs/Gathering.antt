-- What gathering a written query answers.
use Rattle.std.specs.Prelude.{◌≡◌, Bool, false, List, [], Option, Some, None}
use Rattle.bye_terms.specs.Members.{In, EachOnce}
use Rattle.bye_table.specs.Mappings.{Name}
use Rattle.bye_pattern.specs.Conditions.{Expr}
use Rattle.bye_pattern.specs.Trees.{Tree, tree_vars}
use Rattle.bye_pattern.specs.Written.{Group, Written}
use Rattle.bye_pattern.specs.Selects.{SelectsAll}
use Rattle.bye_pattern.specs.Gathered.{IsBrokenEarly, IsDesignedEarly, gather, gathered_tree, outer_tests}
use Rattle.bye_tree.specs.declared.gather_err.GatherErr.{GatherErr}
use Rattle.bye_tree.specs.declared.gather_err.GatherErr.TheVariants.{Broken, Projected, Memory}

-- the written query of these parts
abbrev pub written : Bool → Option (List Name) → Group → Written
written distinct vars g = record { distinct = distinct; vars = vars; group = g }

-- the tree of the outermost group, and its outer expressions
pub record IsRoot (g : Group) (t : Tree) (outer : List Expr) : Type 0 where
  pub tree_is : t ≡ gathered_tree g
  pub outer_is : outer ≡ outer_tests g

-- some variable of the tree is not selected
abbrev pub LacksVariable : Written → Type 0
LacksVariable w = (v : Name) × In (tree_vars (gather w).tree) v × (In (gather w).vars v → ⊥)

-- the written query keeps the rules, and these variables are selected, all of the tree's without DISTINCT
pub record IsSelected (w : Written) (vars : List Name) : Type 0 where
  pub early : IsDesignedEarly w
  pub vars_are : vars ≡ (gather w).vars
  pub all : SelectsAll (gather w)

-- the named variables are some, and none is named twice
abbrev pub AreNamed : Option (List Name) → Type 0
AreNamed None = Unit {0}
AreNamed (Some vs) = (vs ≡ [] → ⊥) × EachOnce vs

-- why a written query is refused: its first broken rule; or, where it keeps the rules, a variable that is not selected without DISTINCT
abbrev pub IsCause : Written → GatherErr → Type 0
IsCause w (Broken s) = IsBrokenEarly w s.path.items s.rule
IsCause w Projected = IsDesignedEarly w × (w.distinct ≡ false) × LacksVariable w
IsCause w Memory = Unit {0}

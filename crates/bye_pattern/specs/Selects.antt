-- What each SELECT of the program keeps.
use Rattle.std.specs.Prelude.{◌≡◌, false, []}
use Rattle.std.specs.List.{AllByRecursion}
use Rattle.bye_terms.specs.Members.{In, EachOnce}
use Rattle.bye_table.specs.Mappings.{Name}
use Rattle.bye_pattern.specs.Trees.{Select, own_vars, tree_vars}
use Rattle.bye_pattern.specs.Designed.{IsWellDesigned}
use Rattle.bye_pattern.specs.Gathered.{IsOuter}

-- each variable of the tree is selected, where DISTINCT is missing
abbrev pub SelectsAll : Select → Type 0
SelectsAll q = q.distinct ≡ false → (v : Name) → In (tree_vars q.tree) v → In q.vars v

-- It selects a variable, and none twice, over a well-designed tree; without DISTINCT it selects each variable of the tree. So it is
-- what its written text is read as: its outer expressions are no conjunctions, and none is a plain condition over the root's own variables.
pub record IsSelect (q : Select) : Type 0 where
  pub some : q.vars ≡ [] → ⊥
  pub once : EachOnce q.vars
  pub designed : IsWellDesigned q.tree
  pub whole : SelectsAll q
  pub outer : AllByRecursion (IsOuter (own_vars q.tree)) q.outer

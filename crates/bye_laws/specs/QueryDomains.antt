-- Queries of the class with OPTIONAL groups, over trees of domains.
use Rattle.std.specs.Prelude.{List, [], ◌↔◌}
use Rattle.bye_terms.specs.Members.{In, EachOnce}
use Rattle.bye_table.specs.Mappings.{Name, Mapping}
use Rattle.bye_table.specs.Domains.{AreAlike, BindsEach, IsBelow, IsSeen, IsWithin}
use Rattle.bye_table.specs.DomainTrees.{Domain, IsLabel, IsLabelIn, Subdomains, also, domain, label, none}
use Rattle.bye_pattern.specs.declared.level.Level.{Level}
use Rattle.bye_pattern.specs.Patterns.{all_vars}
use Rattle.bye_pattern.specs.Trees.{Forest, Select, Tree, leaf, more, node}
use Rattle.bye_pattern.specs.Optional.{InOptional}
use Rattle.bye_laws.specs.LocalPass.{IsOver}

-- below a node all domains are smaller, and beside one another they are not comparable
abbrev mutual
  pub AreNested : List Mapping → Domain → Type 0
  AreNested rows (domain x ds) = ((y : Name) → IsLabelIn ds y → IsBelow rows y x) × AreNestedIn rows ds

  pub AreNestedIn : List Mapping → Subdomains → Type 0
  AreNestedIn rows none = Unit {0}
  AreNestedIn rows (also d ds) = ((x y : Name) → IsLabel d x → IsLabelIn ds y → (IsWithin rows x y → ⊥) × (IsWithin rows y x → ⊥)) × AreNested rows d × AreNestedIn rows ds

-- a tree with a variable of each class; the order of nodes beside one another plays no part
pub record AreDomains (rows : List Mapping) (d : Domain) : Type 0 where
  pub seen : (x : Name) → IsLabel d x → IsSeen rows x
  pub covers : (v : Name) → IsSeen rows v → (x : Name) × IsLabel d x × AreAlike rows x v
  pub ordered : AreNested rows d
  pub root : BindsEach rows (label d)

-- exactly the variables that some row binds, each once
pub record Selects (rows : List Mapping) (vs : List Name) : Type 0 where
  pub once : EachOnce vs
  pub same : (v : Name) → In vs v ↔ IsSeen rows v

-- each node of the tree of domains is named by a variable that is new at that node of the other tree
abbrev mutual
  pub IsNamedBy : List Name → Domain → Tree → Type 0
  IsNamedBy parent (domain x ds) (node ps cs f) = (In (all_vars ps) x × (In parent x → ⊥)) × AreNamedBy (all_vars ps) ds f

  pub AreNamedBy : List Name → Subdomains → Forest → Type 0
  AreNamedBy parent none leaf = Unit {0}
  AreNamedBy parent none (more t f) = ⊥
  AreNamedBy parent (also d ds) leaf = ⊥
  AreNamedBy parent (also d ds) (more t f) = IsNamedBy parent d t × AreNamedBy parent ds f

-- There are such names for a query of the class; by any, its nodes are those of a tree of domains, and it selects the variables
-- that the rows bind.
pub record QueriesAreOverDomains : Type 0 where
  pub named : (level : Level) (rows : List Mapping) (q : Select) → InOptional level rows q → (d : Domain) × IsNamedBy [] d q.tree
  pub over : (level : Level) (rows : List Mapping) (q : Select) (d : Domain) → InOptional level rows q → IsNamedBy [] d q.tree
      → AreDomains rows d × IsOver level rows [] d q.tree × Selects rows q.vars

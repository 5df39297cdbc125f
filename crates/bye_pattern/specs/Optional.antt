-- The class with OPTIONAL groups over wanted rows: a node for each domain class, within the nodes of the domains around it.
use Rattle.std.specs.Prelude.{◌≡◌, true, List, [], ◌⊎◌, ◌↔◌}
use Rattle.std.specs.List.{AllByRecursion}
use Rattle.bye_terms.specs.Members.{In, EachOnce}
use Rattle.bye_table.specs.Mappings.{Name, Mapping}
use Rattle.bye_pattern.specs.declared.level.Level.{Level}
use Rattle.bye_pattern.specs.Patterns.{all_vars}
use Rattle.bye_pattern.specs.Trees.{Tree, node, Forest, leaf, more, own_triples, own_conds, own_vars, tree_vars, Select}
use Rattle.bye_pattern.specs.Designed.{IsWellDesigned}
use Rattle.bye_pattern.specs.Classes.{IsClassTriple, IsClassCond}
use Rattle.bye_table.specs.Domains.{IsSeen, IsBelow, AreAlike, BindsEach}

-- u is a node of the tree, with all below it, and p are the variables of its parent's triples
abbrev mutual
  pub IsNode : List Name → Tree → List Name → Tree → Type 0
  IsNode parent (node ps cs f) p u = ((p ≡ parent) × (u ≡ node ps cs f)) ⊎ IsNodeIn (all_vars ps) f p u

  pub IsNodeIn : List Name → Forest → List Name → Tree → Type 0
  IsNodeIn parent leaf p u = ⊥
  IsNodeIn parent (more t f) p u = IsNode parent t p u ⊎ IsNodeIn parent f p u

-- t is a proper ancestor of the node u
abbrev pub IsAncestor : Tree → List Name → Tree → Type 0
IsAncestor (node ps cs f) p u = IsNodeIn (all_vars ps) f p u

-- v is new at the node: in a well-designed tree a variable that is not new occurs in the parent's triples
abbrev pub IsNewAt : List Name → Tree → Name → Type 0
IsNewAt p u v = In (own_vars u) v × (In p v → ⊥)

-- the new variables of the node are the domain class of x
abbrev pub HasClass : List Mapping → List Name → Tree → Name → Type 0
HasClass rows p u x = IsSeen rows x × ((v : Name) → IsNewAt p u v ↔ AreAlike rows x v)

-- a query of the class with OPTIONAL groups, for these wanted rows
pub record InOptional (level : Level) (rows : List Mapping) (q : Select) : Type 0 where
  pub distinct : q.distinct ≡ true
  pub outer : q.outer ≡ []
  pub designed : IsWellDesigned q.tree
  -- the new variables of each node are one class
  pub classes : (p : List Name) (u : Tree) → IsNode [] q.tree p u → (x : Name) × HasClass rows p u x
  -- each class is new at a node; that it is new at one alone follows from the rules
  pub covers : (x : Name) → IsSeen rows x → (p : List Name) × (u : Tree) × IsNode [] q.tree p u × IsNewAt p u x
  -- every row binds the variables of the root
  pub whole : (v : Name) → In (own_vars q.tree) v → BindsEach rows v
  -- the ancestors of a node are exactly the nodes of greater domains
  pub order : (p : List Name) (u : Tree) (r : List Name) (t : Tree) (x y : Name) → IsNode [] q.tree p u → IsNode [] q.tree r t → IsNewAt p u x → IsNewAt r t y
      → IsAncestor t p u ↔ IsBelow rows x y
  pub triples : (p : List Name) (u : Tree) → IsNode [] q.tree p u → AllByRecursion IsClassTriple (own_triples u)
  pub conds : (p : List Name) (u : Tree) → IsNode [] q.tree p u → AllByRecursion (IsClassCond level) (own_conds u)
  pub once : EachOnce q.vars
  pub selects : (v : Name) → In q.vars v ↔ In (tree_vars q.tree) v

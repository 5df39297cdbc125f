-- The rows of a tree's algebra by going down from a mapping: a node's values are found beside what is bound above it, and a
-- child that has none leaves the mapping as it is.
use Rattle.std.specs.Prelude.{◌≡◌, List, Some, ◌⊎◌, ◌↔◌}
use Rattle.bye_terms.specs.declared.term.Term.{Term}
use Rattle.bye_terms.specs.Members.{In}
use Rattle.bye_terms.specs.Terms.{Statement}
use Rattle.bye_pattern.specs.Algebra.{IsRow}
use Rattle.bye_pattern.specs.Conditions.{AllHoldExpr}
use Rattle.bye_pattern.specs.Designed.{IsWellDesigned}
use Rattle.bye_table.specs.Mappings.{Binds, Mapping, Name, nothing}
use Rattle.bye_pattern.specs.Trees.{Forest, Select, Tree, alg, leaf, more, node, own_vars}
use Rattle.bye_laws.specs.Reaching.{MeetsNode, children}

-- a step at the node t from x: the mapping z is x with values for variables of the node's triples that x leaves open, and meets the node
pub record IsStep (g : List Statement) (x : Mapping) (t : Tree) (z : Mapping) : Type 0 where
  -- it keeps the values of x
  pub keeps : (v : Name) (u : Term) → x v ≡ Some u → z v ≡ Some u
  -- it binds besides variables of the node's triples alone
  pub within : (v : Name) → Binds z v → Binds x v ⊎ In (own_vars t) v
  pub meets : MeetsNode g z t

-- what one child makes of the mapping x: where it has a step, y is what a step and then its own children make of x; where it has
-- none, y is x. And what all children make of x, one after another.
abbrev mutual
  pub DownChild : List Statement → Mapping → Tree → Mapping → Type 0
  DownChild g x (node ps cs f) y =
      ((z : Mapping) × IsStep g x (node ps cs f) z × Down g z f y) ⊎ ((y ≡ x) × ((z : Mapping) → IsStep g x (node ps cs f) z → ⊥))

  pub Down : List Statement → Mapping → Forest → Mapping → Type 0
  Down g x leaf m = m ≡ x
  Down g x (more t f) m = (y : Mapping) × DownChild g x t y × Down g y f m

-- what a step at the root from the empty mapping, and then the root's children, make, where the further expressions of the root hold on it
abbrev pub Descends : List Statement → Select → Mapping → Type 0
Descends g q m = (x : Mapping) × IsStep g nothing q.tree x × Down g x (children q.tree) m × AllHoldExpr q.outer m

-- the rows of a query over a well-designed tree are what going down gives
abbrev pub RowsByDescending : Type 0
RowsByDescending = (g : List Statement) (q : Select) (m : Mapping) → IsWellDesigned q.tree → IsRow g (alg q) m ↔ Descends g q m

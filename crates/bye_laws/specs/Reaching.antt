-- What a mapping says of the nodes of a tree, and the rows of a tree's algebra by the nodes that they reach.
use Rattle.std.specs.Prelude.{◌≡◌, List, ◌⊎◌, ◌↔◌}
use Rattle.std.specs.List.{AllByRecursion}
use Rattle.bye_terms.specs.Members.{In}
use Rattle.bye_terms.specs.Terms.{Statement}
use Rattle.bye_pattern.specs.Algebra.{IsRow}
use Rattle.bye_pattern.specs.Conditions.{AllHoldExpr}
use Rattle.bye_pattern.specs.Conjuncts.{MeetsCond}
use Rattle.bye_pattern.specs.Designed.{IsWellDesigned}
use Rattle.bye_table.specs.Mappings.{Binds, Compatible, Mapping, Name, merge}
use Rattle.bye_pattern.specs.Patterns.{Meets}
use Rattle.bye_pattern.specs.Trees.{Forest, Select, Tree, alg, leaf, more, node, own_conds, own_triples, own_vars}

-- the mapping binds each variable of the node's triples
abbrev pub BindsAll : Mapping → Tree → Type 0
BindsAll m t = (v : Name) → In (own_vars t) v → Binds m v

-- the mapping meets each conjunct of the node
abbrev pub MeetsNode : List Statement → Mapping → Tree → Type 0
MeetsNode g m t = AllByRecursion (Meets g m) (own_triples t) × AllByRecursion (MeetsCond m) (own_conds t)

-- There are no values for variables of the node's triples with which the mapping meets each conjunct of the node. The values
-- agree with the mapping, so they say something of those variables alone that it leaves open.
abbrev pub NoValues : List Statement → Mapping → Tree → Type 0
NoValues g m t = (e : Mapping) → ((v : Name) → Binds e v → In (own_vars t) v) → Compatible m e → MeetsNode g (merge m e) t → ⊥

abbrev pub children : Tree → Forest
children (node ps cs f) = f

abbrev pub IsChild : Forest → Tree → Type 0
IsChild leaf u = ⊥
IsChild (more t f) u = (u ≡ t) ⊎ IsChild f u

-- the node u of t is reached: it is t, or its parent is reached and the mapping binds every variable of its triples
abbrev mutual
  pub IsReached : Mapping → Tree → Tree → Type 0
  IsReached m (node ps cs f) u = (u ≡ node ps cs f) ⊎ IsReachedIn m f u

  pub IsReachedIn : Mapping → Forest → Tree → Type 0
  IsReachedIn m leaf u = ⊥
  IsReachedIn m (more t f) u = (BindsAll m t × IsReached m t u) ⊎ IsReachedIn m f u

pub record Reaches (g : List Statement) (t : Tree) (m : Mapping) : Type 0 where
  -- it binds exactly the variables of the triples of the reached nodes
  pub within : (v : Name) → Binds m v → (u : Tree) × IsReached m t u × In (own_vars u) v
  pub binds : (u : Tree) → IsReached m t u → BindsAll m u
  -- it meets every conjunct of every reached node
  pub meets : (u : Tree) → IsReached m t u → MeetsNode g m u
  -- a child of a reached node that is not reached itself has no values
  pub none : (u c : Tree) → IsReached m t u → IsChild (children u) c → (BindsAll m c → ⊥) → NoValues g m c

-- a mapping is a row of a well-designed tree exactly where this holds, and the further expressions of the root hold on it
abbrev pub RowsByReaching : Type 0
RowsByReaching = (g : List Statement) (q : Select) (m : Mapping) → IsWellDesigned q.tree → IsRow g (alg q) m ↔ (Reaches g q.tree m × AllHoldExpr q.outer m)

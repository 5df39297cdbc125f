-- The values of a node beside a mapping, as mappings of exactly the variables that are open there.
use Rattle.std.specs.Prelude.{◌≡◌, List, ◌↔◌}
use Rattle.bye_terms.specs.Members.{In}
use Rattle.bye_terms.specs.Terms.{Statement}
use Rattle.bye_table.specs.Mappings.{Binds, Mapping, Name, merge}
use Rattle.bye_pattern.specs.Trees.{Tree, own_vars}
use Rattle.bye_laws.specs.Descending.{IsStep}
use Rattle.bye_laws.specs.Reaching.{MeetsNode, NoValues}

-- the mapping e binds exactly the variables of the node's triples that m leaves open, and with them m meets the node
pub record AreValues (g : List Statement) (m : Mapping) (t : Tree) (e : Mapping) : Type 0 where
  pub exactly : (v : Name) → Binds e v ↔ (In (own_vars t) v × (Binds m v → ⊥))
  pub meets : MeetsNode g (merge m e) t

-- a mapping has no values for a node exactly where there is no such mapping
abbrev pub NoValuesByRows : Type 0
NoValuesByRows = (g : List Statement) (m : Mapping) (t : Tree) → NoValues g m t ↔ ((e : Mapping) → AreValues g m t e → ⊥)

-- the steps at a node from a mapping are its merges with such mappings
abbrev pub StepsByValues : Type 0
StepsByValues = (g : List Statement) (m : Mapping) (t : Tree) (z : Mapping) → IsStep g m t z ↔ ((e : Mapping) × AreValues g m t e × (z ≡ merge m e))

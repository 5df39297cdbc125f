-- How the pass that asks at each node alone comes from a whole query to its nodes, and back.
use Rattle.std.specs.Prelude.{List, [], ◌↔◌}
use Rattle.bye_terms.specs.Terms.{Statement}
use Rattle.bye_table.specs.Mappings.{Mapping, Name}
use Rattle.bye_table.specs.DomainTrees.{Domain, Subdomains, also, domain, label}
use Rattle.bye_pattern.specs.declared.class.Class.TheVariants.{Optional}
use Rattle.bye_pattern.specs.declared.cond.Cond.{Cond}
use Rattle.bye_pattern.specs.declared.level.Level.{Level}
use Rattle.bye_pattern.specs.Keeping.{IsRight, IsThinnedTree}
use Rattle.bye_pattern.specs.Patterns.{Pattern, all_vars}
use Rattle.bye_pattern.specs.Trees.{Forest, Select, Tree, more, node, plain_select}
use Rattle.bye_laws.specs.LocalPass.{AreSettled, AreThinnedHere, IsSettled, IsThinnedHere}
use Rattle.bye_laws.specs.QueryDomains.{AreDomains, IsNamedBy, Selects}

pub record Settling : Type 0 where
  -- a query that is right is settled at its root, over each tree of names of its nodes
  pub root : (level : Level) (g : List Statement) (rows : List Mapping) (q : Select) (d : Domain) → IsRight Optional level g rows [] q → IsNamedBy [] d q.tree
      → IsSettled level g rows [] (label d) d q.tree
  -- and what is settled at its root over a tree of domains is right
  pub right : (level : Level) (g : List Statement) (rows : List Mapping) (vs : List Name) (d : Domain) (t : Tree) → AreDomains rows d → Selects rows vs
      → IsSettled level g rows [] (label d) d t → IsRight Optional level g rows [] (plain_select vs t)
  -- the nodes below a settled node are settled
  pub down : (level : Level) (g : List Statement) (rows : List Mapping) (parent : List Name) (z x : Name) (ds : Subdomains) (ps : List Pattern) (cs : List Cond) (f : Forest)
      → IsSettled level g rows parent z (domain x ds) (node ps cs f) → AreSettled level g rows (all_vars ps) x ds f
  -- and the node stays settled with others below it that are settled
  pub up : (level : Level) (g : List Statement) (rows : List Mapping) (parent : List Name) (z x : Name) (ds : Subdomains) (ps : List Pattern) (cs : List Cond) (f e : Forest)
      → IsSettled level g rows parent z (domain x ds) (node ps cs f) → AreSettled level g rows (all_vars ps) x ds e → IsSettled level g rows parent z (domain x ds) (node ps cs e)
  -- nodes beside one another are settled where each is
  pub beside : (level : Level) (g : List Statement) (rows : List Mapping) (parent : List Name) (z : Name) (d : Domain) (ds : Subdomains) (t : Tree) (f : Forest)
      → AreSettled level g rows parent z (also d ds) (more t f) ↔ (IsSettled level g rows parent z d t × AreSettled level g rows parent z ds f)
  -- what the pass leaves of a settled node is settled, and likewise of nodes beside one another
  pub left : (level : Level) (g : List Statement) (rows : List Mapping) (parent : List Name) (z : Name) (d : Domain) (t r : Tree)
      → IsSettled level g rows parent z d t → IsThinnedHere level g rows parent z d t r → IsSettled level g rows parent z d r
  pub left_beside : (level : Level) (g : List Statement) (rows : List Mapping) (parent : List Name) (z : Name) (ds : Subdomains) (f e : Forest)
      → AreSettled level g rows parent z ds f → AreThinnedHere level g rows parent z ds f e → AreSettled level g rows parent z ds e

-- for any query of the class that is right, the pass that asks at each node alone comes to the pass over the whole query
abbrev pub PassesAreLocal : Type 0
PassesAreLocal = (level : Level) (g : List Statement) (rows : List Mapping) (q : Select) (d : Domain) (t : Tree) → IsRight Optional level g rows [] q → IsNamedBy [] d q.tree
    → IsThinnedHere level g rows [] (label d) d q.tree t → IsThinnedTree (λ u. IsRight Optional level g rows [] (plain_select q.vars u)) q.tree t

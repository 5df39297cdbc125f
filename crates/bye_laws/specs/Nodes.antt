-- What a wanted row says of each node of a query of the class with OPTIONAL groups.
use Rattle.bye_pattern.specs.declared.level.Level.{Level}
use Rattle.std.specs.Prelude.{List, [], ◌↔◌}
use Rattle.bye_terms.specs.Members.{In}
use Rattle.bye_terms.specs.Terms.{Statement}
use Rattle.bye_pattern.specs.Algebra.{IsAnswer}
use Rattle.bye_table.specs.Mappings.{Binds, Mapping, Name}
use Rattle.bye_pattern.specs.Optional.{InOptional, IsNewAt, IsNode}
use Rattle.bye_pattern.specs.Trees.{Select, Tree, alg, own_vars}
use Rattle.bye_laws.specs.Reaching.{IsChild, MeetsNode, NoValues, children}

-- the mapping binds the new variables of the node
abbrev pub BindsNew : Mapping → List Name → Tree → Type 0
BindsNew m p u = (v : Name) → IsNewAt p u v → Binds m v

pub record ByNode (g : List Statement) (root : Tree) (m : Mapping) : Type 0 where
  -- where the row binds the node's new variables, it meets every conjunct of the node
  pub meets : (p : List Name) (u : Tree) → IsNode [] root p u → BindsNew m p u → MeetsNode g m u
  -- where it does not, and binds those of the node's parent, there are no values for them
  pub none : (p : List Name) (u c : Tree) → IsNode [] root p u → IsChild (children u) c → BindsNew m p u → (BindsNew m (own_vars u) c → ⊥) → NoValues g m c

-- each wanted row is an answer exactly where it says this of each node
abbrev pub AnswersByNode : Type 0
AnswersByNode = (level : Level) (g : List Statement) (q : Select) (rows : List Mapping) (m : Mapping) → InOptional level rows q → In rows m → IsAnswer g q.vars (alg q) m ↔ ByNode g q.tree m

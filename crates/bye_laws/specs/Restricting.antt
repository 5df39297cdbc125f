-- Answers as restricted rows (SPARQL 1.1 Query, section 18.5, Project), beside what their definition says.
use Rattle.std.specs.Prelude.{◌≡◌, List, ◌↔◌}
use Rattle.bye_terms.specs.Members.{In}
use Rattle.bye_terms.specs.Terms.{Statement}
use Rattle.bye_pattern.specs.Algebra.{IsAnswer, IsRow}
use Rattle.bye_table.specs.Mappings.{Binds, Mapping, Name}
use Rattle.bye_pattern.specs.Trees.{Select, alg, tree_vars}

-- which mappings are answers, by the rows
pub record AnswersAreRestrictedRows : Type 0 where
  -- an answer binds selected variables alone, and of each of these it says what some one row says; and each such mapping is an answer
  pub agrees : (g : List Statement) (q : Select) (m : Mapping)
      → IsAnswer g q.vars (alg q) m ↔ (((v : Name) → Binds m v → In q.vars v) × ((n : Mapping) × IsRow g (alg q) n × ((v : Name) → In q.vars v → m v ≡ n v)))
  -- where all variables of the tree are selected, the answers are the rows
  pub whole : (g : List Statement) (q : Select) (m : Mapping) → ((v : Name) → In (tree_vars q.tree) v → In q.vars v) → IsAnswer g q.vars (alg q) m ↔ IsRow g (alg q) m

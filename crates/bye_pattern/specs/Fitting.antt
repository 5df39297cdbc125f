-- When a query fits wanted and unwanted rows, and when none of a class does.
use Rattle.std.specs.Prelude.{List}
use Rattle.std.specs.List.{AllByRecursion}
use Rattle.bye_terms.specs.Terms.{Statement}
use Rattle.bye_table.specs.Mappings.{Mapping}
use Rattle.bye_pattern.specs.Algebra.{IsAnswer}
use Rattle.bye_pattern.specs.Trees.{Select, alg}

-- every wanted row is an answer, and no unwanted row is
pub record Fits (g : List Statement) (wanted unwanted : List Mapping) (q : Select) : Type 0 where
  pub all : AllByRecursion (IsAnswer g q.vars (alg q)) wanted
  pub none : AllByRecursion (λ m. IsAnswer g q.vars (alg q) m → ⊥) unwanted

-- no query of the class fits, whatever its constants are and however many conjuncts it has
abbrev pub NoFit : (Select → Type 0) → List Statement → List Mapping → List Mapping → Type 0
NoFit Class g wanted unwanted = (q : Select) → Class q → Fits g wanted unwanted q → ⊥

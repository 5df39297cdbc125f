-- What the start of one conjunction says of all queries that fit, and which triples of a graph say all that its learning needs.
use Rattle.std.specs.Prelude.{◌≡◌, List, Some, ◌⊎◌, ◌↔◌}
use Rattle.std.specs.List.{AllByRecursion}
use Rattle.bye_terms.specs.declared.term.Term.{Term}
use Rattle.bye_terms.specs.Members.{In}
use Rattle.bye_terms.specs.Terms.{Statement}
use Rattle.bye_table.specs.Mappings.{Mapping, Name}
use Rattle.bye_table.specs.Domains.{Wanted}
use Rattle.bye_pattern.specs.declared.class.Class.TheVariants.{And}
use Rattle.bye_pattern.specs.declared.level.Level.{Level}
use Rattle.bye_pattern.specs.Algebra.{IsAnswer}
use Rattle.bye_pattern.specs.Certificates.{Claim, GoesWith, IsShown}
use Rattle.bye_pattern.specs.Classes.{InAnd}
use Rattle.bye_pattern.specs.Fitting.{NoFit}
use Rattle.bye_pattern.specs.Keeping.{IsKept, IsRight, IsStart}
use Rattle.bye_pattern.specs.Trees.{Select, alg}
use Rattle.bye_laws.specs.Completeness.{AreExamples}

-- each answer of the start of one conjunction is an answer of each query of the class that fits
abbrev pub StartAnswersAreShared : Type 0
StartAnswersAreShared = (level : Level) (g : List Statement) (w : Wanted) (unwanted : List Mapping) (start q : Select) (m : Mapping) → AreExamples w → IsStart And level g w start
    → IsRight And level g w.rows unwanted q → IsAnswer g start.vars (alg start) m → IsAnswer g q.vars (alg q) m

-- the triple has the term in one of its places
abbrev pub HasTerm : Statement → Term → Type 0
HasTerm f t = (f.s ≡ t) ⊎ ((f.p ≡ t) ⊎ (f.o ≡ t))

-- exactly the triples of the graph that have one of these terms in them
abbrev pub AreNear : List Statement → List Term → List Statement → Type 0
AreNear g terms near = (f : Statement) → In near f ↔ (In g f × ((t : Term) × In terms t × HasTerm f t))

-- each term that a row binds is one of these
abbrev pub HaveTerms : List Mapping → List Term → Type 0
HaveTerms rows terms = AllByRecursion (λ m. (v : Name) (t : Term) → m v ≡ Some t → In terms t) rows

-- the triples with terms of the rows in them say all of one conjunction that the graph says
pub record NearIsEnough : Type 0 where
  pub right : (level : Level) (g near : List Statement) (terms : List Term) (rows unwanted : List Mapping) (q : Select) → AreNear g terms near → HaveTerms rows terms → HaveTerms unwanted terms
      → IsRight And level g rows unwanted q ↔ IsRight And level near rows unwanted q
  pub none : (level : Level) (g near : List Statement) (terms : List Term) (rows unwanted : List Mapping) → AreNear g terms near → HaveTerms rows terms → HaveTerms unwanted terms
      → NoFit (InAnd level) g rows unwanted ↔ NoFit (InAnd level) near rows unwanted
  pub start : (level : Level) (g near : List Statement) (terms : List Term) (w : Wanted) (q : Select) → AreNear g terms near → HaveTerms w.rows terms
      → IsStart And level g w q ↔ IsStart And level near w q
  pub kept : (level : Level) (g near : List Statement) (terms : List Term) (w : Wanted) (unwanted : List Mapping) (q : Select) → AreNear g terms near → HaveTerms w.rows terms → HaveTerms unwanted terms
      → IsKept And level g w unwanted q ↔ IsKept And level near w unwanted q
  pub claims : (level : Level) (g near : List Statement) (terms : List Term) (rows unwanted : List Mapping) (claim : Claim) → GoesWith And claim → AreNear g terms near → HaveTerms rows terms → HaveTerms unwanted terms
      → IsShown level g rows unwanted claim ↔ IsShown level near rows unwanted claim

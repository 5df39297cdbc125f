-- The query that is kept: each conjunct in the order of trial is left out where the rest is of the class and fits.
use Rattle.std.specs.Prelude.{◌≡◌, List, [], ◌∷◌, ◌⊎◌}
use Rattle.bye_terms.specs.Terms.{Statement}
use Rattle.bye_pattern.specs.declared.cond.Cond.{Cond}
use Rattle.bye_pattern.specs.declared.level.Level.{Level}
use Rattle.bye_pattern.specs.declared.class.Class.{Class}
use Rattle.bye_pattern.specs.declared.class.Class.TheVariants.{And, Optional}
use Rattle.bye_table.specs.Mappings.{Name, Mapping}
use Rattle.bye_pattern.specs.Patterns.{Pattern}
use Rattle.bye_pattern.specs.Trees.{Tree, node, Forest, leaf, more, Select, plain_select}
use Rattle.bye_pattern.specs.Conjuncts.{DropsConjunct}
use Rattle.bye_pattern.specs.Classes.{InAnd}
use Rattle.bye_pattern.specs.Optional.{InOptional}
use Rattle.bye_pattern.specs.Fitting.{Fits}
use Rattle.bye_table.specs.Domains.{Wanted, AreSelected}
use Rattle.bye_table.specs.DomainTrees.{Domain, domain, none, IsDomainTree}
use Rattle.bye_pattern.specs.Starting.{IsStartTree}

-- a query of the class at the level, over the wanted rows where it is that with OPTIONAL groups
abbrev pub IsOfClass : Class → Level → List Mapping → Select → Type 0
IsOfClass And level rows q = InAnd level q
IsOfClass Optional level rows q = InOptional level rows q

-- of the class, and fits
pub record IsRight (class : Class) (level : Level) (g : List Statement) (rows unwanted : List Mapping) (q : Select) : Type 0 where
  pub in_class : IsOfClass class level rows q
  pub fits : Fits g rows unwanted q

-- without any one conjunct it is not of the class or does not fit
abbrev pub IsMinimal : Class → Level → List Statement → List Mapping → List Mapping → Select → Type 0
IsMinimal class level g rows unwanted q = (r : Select) → DropsConjunct q r → IsRight class level g rows unwanted r → ⊥

-- what remains of a list where each element in turn is left out if the rest is right
abbrev pub IsThinned : {X : Type 0} → (List X → Type 0) → List X → List X → Type 0
IsThinned Right [] r = r ≡ []
IsThinned {X} Right (x ∷ xs) r =
    (Right xs × IsThinned Right xs r) ⊎ ((Right xs → ⊥) × ((ys : List X) × IsThinned (λ zs. Right (x ∷ zs)) xs ys × (r ≡ x ∷ ys)))

-- the same of a tree: the children from left to right, then the conditions, then the triples
abbrev mutual
  pub IsThinnedTree : (Tree → Type 0) → Tree → Tree → Type 0
  IsThinnedTree Right (node ps cs f) r = (e : Forest) × (ds : List Cond) × (qs : List Pattern)
      × IsThinnedForest (λ e. Right (node ps cs e)) f e × IsThinned (λ ds. Right (node ps ds e)) cs ds × IsThinned (λ qs. Right (node qs ds e)) ps qs
      × (r ≡ node qs ds e)

  pub IsThinnedForest : (Forest → Type 0) → Forest → Forest → Type 0
  IsThinnedForest Right leaf r = r ≡ leaf
  IsThinnedForest Right (more t f) r = (u : Tree) × (e : Forest)
      × IsThinnedTree (λ u. Right (more u f)) t u × IsThinnedForest (λ e. Right (more u e)) f e × (r ≡ more u e)

-- the class of one conjunction has one domain; with OPTIONAL groups there may be more
abbrev pub HasDomains : Class → Domain → Type 0
HasDomains And (domain x ds) = ds ≡ none
HasDomains Optional d = Unit {0}

-- the start: over the domains of the wanted rows, with the variables that they bind selected
pub record IsStart (class : Class) (level : Level) (g : List Statement) (w : Wanted) (q : Select) : Type 0 where
  pub domains : Domain
  pub tree : Tree
  pub vars : List Name
  pub allowed : HasDomains class domains
  pub over : IsDomainTree w domains
  pub conjuncts : IsStartTree level g w domains tree
  pub selected : AreSelected w vars
  pub query : q ≡ plain_select vars tree

-- kept(class, level, G, W, U)
pub record IsKept (class : Class) (level : Level) (g : List Statement) (w : Wanted) (unwanted : List Mapping) (q : Select) : Type 0 where
  pub start : Select
  pub tree : Tree
  pub begun : IsStart class level g w start
  pub thinned : IsThinnedTree (λ t. IsRight class level g w.rows unwanted (plain_select start.vars t)) start.tree tree
  pub query : q ≡ plain_select start.vars tree

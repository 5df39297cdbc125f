-- The pass over a tree of the class with OPTIONAL groups, each question asked at its own node: over a tree of domains, by the
-- variables that name them.
use Rattle.bye_pattern.specs.declared.level.Level.{Level}
use Rattle.std.specs.Prelude.{◌≡◌, List, []}
use Rattle.std.specs.List.{AllByRecursion}
use Rattle.bye_terms.specs.Members.{In}
use Rattle.bye_terms.specs.Terms.{Statement}
use Rattle.bye_pattern.specs.declared.class.Class.TheVariants.{Optional}
use Rattle.bye_pattern.specs.declared.cond.Cond.{Cond}
use Rattle.bye_pattern.specs.Classes.{IsClassCond, IsClassTriple}
use Rattle.bye_pattern.specs.Conjuncts.{MeetsCond}
use Rattle.bye_pattern.specs.Designed.{IsSafe}
use Rattle.bye_table.specs.Domains.{AreAlike, AreSelected, IsSeen, IsWithin, Wanted}
use Rattle.bye_pattern.specs.Keeping.{IsKept, IsRight, IsThinned}
use Rattle.bye_table.specs.Mappings.{Binds, Mapping, Name}
use Rattle.bye_pattern.specs.Patterns.{Meets, Pattern, all_vars}
use Rattle.bye_table.specs.DomainTrees.{Domain, IsDomainTree, Subdomains, also, domain, label, none}
use Rattle.bye_pattern.specs.Starting.{IsStartTree}
use Rattle.bye_pattern.specs.Trees.{Forest, Tree, leaf, more, node, plain_select}
use Rattle.bye_laws.specs.Completeness.{AreExamples}
use Rattle.bye_laws.specs.Reaching.{NoValues}

-- a node for the class of x, below a parent with these variables
pub record IsGroupOf (level : Level) (rows : List Mapping) (parent : List Name) (x : Name) (ps : List Pattern) (cs : List Cond) : Type 0 where
  pub over : (v : Name) → In (all_vars ps) v → IsWithin rows x v
  pub cover : (v : Name) → IsSeen rows v → AreAlike rows x v → In (all_vars ps) v
  pub rises : (v : Name) → In (all_vars ps) v → (IsWithin rows v x → ⊥) → In parent v
  pub safe : AllByRecursion (IsSafe parent ps) cs
  pub triples : AllByRecursion IsClassTriple ps
  pub conds : AllByRecursion (IsClassCond level) cs

abbrev mutual
  pub IsOver : Level → List Mapping → List Name → Domain → Tree → Type 0
  IsOver level rows parent (domain x ds) (node ps cs f) = IsGroupOf level rows parent x ps cs × AreOver level rows (all_vars ps) ds f

  pub AreOver : Level → List Mapping → List Name → Subdomains → Forest → Type 0
  AreOver level rows parent none leaf = Unit {0}
  AreOver level rows parent none (more t f) = ⊥
  AreOver level rows parent (also d ds) leaf = ⊥
  AreOver level rows parent (also d ds) (more t f) = IsOver level rows parent d t × AreOver level rows parent ds f

-- what a wanted row says of each node, by the variables of a tree of domains
abbrev mutual
  pub ByDomain : List Statement → Mapping → Domain → Tree → Type 0
  ByDomain g m (domain x ds) (node ps cs f) = (Binds m x → AllByRecursion (Meets g m) ps × AllByRecursion (MeetsCond m) cs) × ByDomains g m x ds f

  pub ByDomains : List Statement → Mapping → Name → Subdomains → Forest → Type 0
  ByDomains g m z none f = Unit {0}
  ByDomains g m z (also d ds) leaf = Unit {0}
  ByDomains g m z (also d ds) (more t f) = (Binds m z → (Binds m (label d) → ⊥) → NoValues g m t) × ByDomain g m d t × ByDomains g m z ds f

-- no row that binds the parent's variable and lacks this one has values at the node
abbrev pub IsShut : List Statement → List Mapping → Name → Name → Tree → Type 0
IsShut g rows z x t = AllByRecursion (λ m. Binds m z → (Binds m x → ⊥) → NoValues g m t) rows

-- a node below a parent whose triples have these variables, and whose domain has the variable z, is right with all below it
pub record IsSettled (level : Level) (g : List Statement) (rows : List Mapping) (parent : List Name) (z : Name) (d : Domain) (t : Tree) : Type 0 where
  pub over : IsOver level rows parent d t
  pub by : AllByRecursion (λ m. ByDomain g m d t) rows
  pub shut : IsShut g rows z (label d) t

-- nodes beside one another, below a parent that z names, are right
pub record AreSettled (level : Level) (g : List Statement) (rows : List Mapping) (parent : List Name) (z : Name) (ds : Subdomains) (f : Forest) : Type 0 where
  pub over : AreOver level rows parent ds f
  pub by : AllByRecursion (λ m. ByDomains g m z ds f) rows

-- the pass, children first, then conditions, then triples
abbrev mutual
  pub IsThinnedHere : Level → List Statement → List Mapping → List Name → Name → Domain → Tree → Tree → Type 0
  IsThinnedHere level g rows parent z (domain x ds) (node ps cs f) r = (e : Forest) × (es : List Cond) × (qs : List Pattern)
      × AreThinnedHere level g rows (all_vars ps) x ds f e × IsThinned (λ es. IsSettled level g rows parent z (domain x ds) (node ps es e)) cs es
      × IsThinned (λ qs. IsSettled level g rows parent z (domain x ds) (node qs es e)) ps qs × (r ≡ node qs es e)

  pub AreThinnedHere : Level → List Statement → List Mapping → List Name → Name → Subdomains → Forest → Forest → Type 0
  AreThinnedHere level g rows parent z ds leaf r = r ≡ leaf
  AreThinnedHere level g rows parent z none (more t f) r = ⊥
  AreThinnedHere level g rows parent z (also d ds) (more t f) r = (u : Tree) × (e : Forest) × IsThinnedHere level g rows parent z d t u × AreThinnedHere level g rows parent z ds f e × (r ≡ more u e)

-- what this pass leaves of a start that is right is kept
abbrev pub LocalPassKeeps : Type 0
LocalPassKeeps = (level : Level) (g : List Statement) (w : Wanted) (d : Domain) (vs : List Name) (start t : Tree) → AreExamples w → IsDomainTree w d → AreSelected w vs → IsStartTree level g w d start
    → IsRight Optional level g w.rows [] (plain_select vs start) → IsThinnedHere level g w.rows [] (label d) d start t → IsKept Optional level g w [] (plain_select vs t)

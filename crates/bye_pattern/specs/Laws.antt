-- What the definitions say of one another.
use Rattle.bye_pattern.specs.declared.level.Level.{Level}
use Rattle.std.specs.Prelude.{◌≡◌, ℕ, List, [], ◌⊎◌, ◌↔◌}
use Rattle.std.specs.List.{AllByRecursion}
use Rattle.bye_terms.specs.Terms.{Statement}
use Rattle.bye_terms.specs.Members.{In}
use Rattle.bye_pattern.specs.declared.cond.Cond.TheVariants as conds
use Rattle.bye_pattern.specs.declared.rule.Rule.{Rule}
use Rattle.bye_table.specs.Mappings.{Name, Mapping, Binds, Exactly}
use Rattle.bye_pattern.specs.Patterns.{Pattern, all_vars, Meets}
use Rattle.bye_pattern.specs.Conditions.{Holds}
use Rattle.bye_pattern.specs.Algebra.{IsBgpRow, IsAnswer}
use Rattle.bye_pattern.specs.Trees.{Tree, tree_vars, Select, alg, own_triples, own_conds}
use Rattle.bye_pattern.specs.Designed.{IsWellDesigned, IsBroken, IsTree}
use Rattle.bye_pattern.specs.Conjuncts.{MeetsCond, DropsConjunct}
use Rattle.bye_pattern.specs.Classes.{InAnd, InAndPlain}
use Rattle.bye_pattern.specs.Fitting.{Fits, NoFit}
use Rattle.bye_pattern.specs.Common.{IsCommon, IsUncovered}
use Rattle.bye_pattern.specs.Learning.{AreFull, common_query}
use Rattle.bye_table.specs.Domains.{InE, IsWithin, AreAlike}
use Rattle.bye_pattern.specs.Optional.{InOptional, IsNode, IsNewAt}

-- the mapping binds exactly the selected variables, and meets each triple pattern and each condition of the one group
pub record MeetsAll (g : List Statement) (q : Select) (m : Mapping) : Type 0 where
  pub binds : Exactly q.vars m
  pub triples : AllByRecursion (Meets g m) (own_triples q.tree)
  pub conds : AllByRecursion (MeetsCond m) (own_conds q.tree)

-- the answers of a query of the class are the mappings that meet it; joins play no part
abbrev pub AnswersOfOneGroup : Type 0
AnswersOfOneGroup = (level : Level) (g : List Statement) (q : Select) (m : Mapping) → InAnd level q → IsAnswer g q.vars (alg q) m ↔ MeetsAll g q m

-- these are the common patterns, all of them
abbrev pub AreCommon : List Statement → List Name → List Mapping → List Pattern → Type 0
AreCommon g header wanted ps = (p : Pattern) → In ps p ↔ IsCommon g header wanted p

-- where any query of the class without conditions fits, the one of all common patterns is of the class and fits
abbrev pub CommonPatternsFit : Type 0
CommonPatternsFit = (g : List Statement) (header : List Name) (wanted : List Mapping) (ps : List Pattern) → AreFull header wanted → AreCommon g header wanted ps
    → (q : Select) → InAndPlain q → Fits g wanted [] q → InAndPlain (common_query header ps) × Fits g wanted [] (common_query header ps)

-- no query of the class without conditions fits exactly where some variable is in no common pattern
abbrev pub NoneFitsWhereUncovered : Type 0
NoneFitsWhereUncovered = (g : List Statement) (header : List Name) (wanted : List Mapping) (ps : List Pattern) → AreFull header wanted → AreCommon g header wanted ps
    → NoFit InAndPlain g wanted [] ↔ ((x : Name) × In header x × IsUncovered g header wanted x)

-- for a query of the class: it fits exactly where every wanted row meets it and no unwanted row does
abbrev pub FittingIsMeeting : Type 0
FittingIsMeeting = (level : Level) (g : List Statement) (wanted unwanted : List Mapping) (q : Select) → InAnd level q
    → Fits g wanted unwanted q ↔ (AllByRecursion (MeetsAll g q) wanted × AllByRecursion (λ m. MeetsAll g q m → ⊥) unwanted)

-- without one of its conjuncts a query of the class has every answer that it had
abbrev pub DroppingKeepsAnswers : Type 0
DroppingKeepsAnswers = (level : Level) (g : List Statement) (q r : Select) (m : Mapping) → InAnd level q → InAnd level r → DropsConjunct q r → IsAnswer g q.vars (alg q) m → IsAnswer g r.vars (alg r) m

-- an answer binds selected variables alone, and of these only variables of the tree's triples
abbrev pub AnswersBindTheTree : Type 0
AnswersBindTheTree = (g : List Statement) (q : Select) (m : Mapping) (v : Name) → IsAnswer g q.vars (alg q) m → Binds m v → In q.vars v × In (tree_vars q.tree) v

-- a bound condition over a variable of a basic graph pattern is true of each of its rows
abbrev pub BoundIsTrue : Type 0
BoundIsTrue = (g : List Statement) (ps : List Pattern) (m : Mapping) (v : Name) → IsBgpRow g ps m → In (all_vars ps) v → Holds m (conds.Bound v)

-- a tree is well-designed, or some node is the first that breaks a rule; not both, and of the latter one
pub record BrokenOrDesigned : Type 0 where
  pub either : (t : Tree) → IsWellDesigned t ⊎ ((path : List ℕ) × (rule : Rule) × IsBroken t path rule)
  pub one : (t : Tree) (path : List ℕ) (rule : Rule) → IsWellDesigned t → IsBroken t path rule → ⊥
  pub first : (t : Tree) (path other : List ℕ) (rule next : Rule) → IsBroken t path rule → IsBroken t other next → (path ≡ other) × (rule ≡ next)

-- the four rules at every node say what the one relation over all earlier nodes' variables says
abbrev pub DesignedAtOnce : Type 0
DesignedAtOnce = (t : Tree) → IsWellDesigned t ↔ IsTree [] [] t

-- E(x) is a subset of E(y) as a set of row numbers
abbrev pub DomainsByNumbers : Type 0
DomainsByNumbers = (rows : List Mapping) (x y : Name) → IsWithin rows x y ↔ ((i : ℕ) → InE rows x i → InE rows y i)

-- in a query of the class with OPTIONAL groups each domain class is new at one node alone
abbrev pub ClassesAtOneNode : Type 0
ClassesAtOneNode = (level : Level) (rows : List Mapping) (q : Select) → InOptional level rows q → (p : List Name) (u : Tree) (r : List Name) (t : Tree) (x y : Name)
    → IsNode [] q.tree p u → IsNode [] q.tree r t → IsNewAt p u x → IsNewAt r t y → AreAlike rows x y → (p ≡ r) × (u ≡ t)

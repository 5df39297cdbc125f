-- The tree with which a query is begun: at the node of each domain class every conjunct that the wanted rows of that domain meet.
use Rattle.std.specs.Prelude.{◌≡◌, List, [], ◌∷◌, ◌⊎◌, ◌↔◌}
use Rattle.std.specs.List.{AllByRecursion}
use Rattle.bye_terms.specs.Terms.{Statement}
use Rattle.bye_terms.specs.Members.{In}
use Rattle.bye_pattern.specs.declared.level.Level.{Level}
use Rattle.bye_pattern.specs.declared.kind.Kind.{Kind}
use Rattle.bye_pattern.specs.declared.kind.Kind.TheVariants as kinds
use Rattle.bye_pattern.specs.declared.cond.Cond.{Cond}
use Rattle.bye_pattern.specs.declared.cond.Cond.TheVariants as conds
use Rattle.bye_table.specs.Mappings.{Name, Mapping, Binds}
use Rattle.bye_pattern.specs.Patterns.{Pattern, vars, Meets}
use Rattle.bye_pattern.specs.Conditions.{cond_vars}
use Rattle.bye_pattern.specs.Conjuncts.{MeetsCond}
use Rattle.bye_pattern.specs.Classes.{IsClassTriple, IsClassCond}
use Rattle.bye_pattern.specs.Trees.{Tree, node, Forest, leaf, more}
use Rattle.bye_pattern.specs.TrialOrder.{IsInStrictOrder}
use Rattle.bye_table.specs.DomainTrees.{Domain, domain, Subdomains, none, also}
use Rattle.bye_table.specs.Domains.{Wanted, IsWithin, IsBefore}

-- a triple pattern of the class over Up(x), with any terms as constants, that each wanted row binding x meets
pub record IsCommonAt (g : List Statement) (rows : List Mapping) (x : Name) (p : Pattern) : Type 0 where
  pub in_class : IsClassTriple p
  pub over : (v : Name) → In (vars p) v → IsWithin rows x v
  pub holds : AllByRecursion (λ m. Binds m x → Meets g m p) rows

-- a condition of the class over Up(x), with any term as constant, that each wanted row binding x meets
pub record IsCommonCondAt (level : Level) (rows : List Mapping) (x : Name) (c : Cond) : Type 0 where
  pub in_class : IsClassCond level c
  pub over : (v : Name) → In (cond_vars c) v → IsWithin rows x v
  pub holds : AllByRecursion (λ m. Binds m x → MeetsCond m c) rows

-- of the two variables of a sameTerm the first in the table stands first
abbrev pub IsInForm : List Name → Cond → Type 0
IsInForm header (conds.Bound v) = Unit {0}
IsInForm header (conds.SameVar v w) = IsBefore header v w
IsInForm header (conds.SameConst v c) = Unit {0}
IsInForm header (conds.KindOf kind v) = Unit {0}

-- isIRI is tried before isBlank, and this before isLiteral
abbrev pub IsKindBefore : Kind → Kind → Type 0
IsKindBefore kinds.Iri kinds.Blank = Unit {0}
IsKindBefore kinds.Iri kinds.Literal = Unit {0}
IsKindBefore kinds.Blank kinds.Literal = Unit {0}
IsKindBefore _ _ = ⊥

-- the order of trial of conditions: bound by its variable, then sameTerm of two variables by the first and then the second, then
-- sameTerm of a constant by its variable, then kind tests by their variable, and of one variable by kind
abbrev pub IsTriedBefore : List Name → Cond → Cond → Type 0
IsTriedBefore header (conds.Bound v) (conds.Bound w) = IsBefore header v w
IsTriedBefore header (conds.Bound v) (conds.SameVar w x) = Unit {0}
IsTriedBefore header (conds.Bound v) (conds.SameConst w c) = Unit {0}
IsTriedBefore header (conds.Bound v) (conds.KindOf kind w) = Unit {0}
IsTriedBefore header (conds.SameVar v w) (conds.Bound x) = ⊥
IsTriedBefore header (conds.SameVar v w) (conds.SameVar x y) = IsBefore header v x ⊎ ((v ≡ x) × IsBefore header w y)
IsTriedBefore header (conds.SameVar v w) (conds.SameConst x c) = Unit {0}
IsTriedBefore header (conds.SameVar v w) (conds.KindOf kind x) = Unit {0}
IsTriedBefore header (conds.SameConst v c) (conds.Bound w) = ⊥
IsTriedBefore header (conds.SameConst v c) (conds.SameVar w x) = ⊥
IsTriedBefore header (conds.SameConst v c) (conds.SameConst w d) = IsBefore header v w
IsTriedBefore header (conds.SameConst v c) (conds.KindOf kind w) = Unit {0}
IsTriedBefore header (conds.KindOf kind v) (conds.Bound w) = ⊥
IsTriedBefore header (conds.KindOf kind v) (conds.SameVar w x) = ⊥
IsTriedBefore header (conds.KindOf kind v) (conds.SameConst w c) = ⊥
IsTriedBefore header (conds.KindOf kind v) (conds.KindOf other w) = IsBefore header v w ⊎ ((v ≡ w) × IsKindBefore kind other)

-- each condition is tried before all that come later
abbrev pub AreInTrialOrder : List Name → List Cond → Type 0
AreInTrialOrder header [] = Unit {0}
AreInTrialOrder header (c ∷ cs) = AllByRecursion (IsTriedBefore header c) cs × AreInTrialOrder header cs

-- the node of x: all these conjuncts, each once, in the order of trial, which is strict
pub record IsStartNode (level : Level) (g : List Statement) (w : Wanted) (x : Name) (ps : List Pattern) (cs : List Cond) : Type 0 where
  pub triples : (p : Pattern) → In ps p ↔ IsCommonAt g w.rows x p
  pub sorted : IsInStrictOrder ps
  pub conditions : (c : Cond) → In cs c ↔ (IsCommonCondAt level w.rows x c × IsInForm w.vars c)
  pub conditions_sorted : AreInTrialOrder w.vars cs

abbrev mutual
  pub IsStartTree : Level → List Statement → Wanted → Domain → Tree → Type 0
  IsStartTree level g w (domain x ds) (node ps cs f) = IsStartNode level g w x ps cs × IsStartForest level g w ds f

  pub IsStartForest : Level → List Statement → Wanted → Subdomains → Forest → Type 0
  IsStartForest level g w none leaf = Unit {0}
  IsStartForest level g w none (more t f) = ⊥
  IsStartForest level g w (also d ds) leaf = ⊥
  IsStartForest level g w (also d ds) (more t f) = IsStartTree level g w d t × IsStartForest level g w ds f

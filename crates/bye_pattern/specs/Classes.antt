-- The class of one conjunction: queries of one node.
use Rattle.std.specs.Prelude.{◌≡◌, true, false, [], ◌↔◌}
use Rattle.std.specs.List.{AllByRecursion}
use Rattle.bye_terms.specs.Members.{In, EachOnce}
use Rattle.bye_pattern.specs.declared.level.Level.{Level}
use Rattle.bye_pattern.specs.declared.level.Level.TheVariants.{One, Two}
use Rattle.bye_pattern.specs.declared.cond.Cond.{Cond}
use Rattle.bye_pattern.specs.declared.cond.Cond.TheVariants as conds
use Rattle.bye_terms.specs.Terms.{is_blank}
use Rattle.bye_table.specs.Mappings.{Name}
use Rattle.bye_pattern.specs.Patterns.{Pattern, vars, all_vars, IsNamed}
use Rattle.bye_pattern.specs.Trees.{Tree, node, leaf, Select, own_triples, own_conds}
use Rattle.bye_pattern.specs.Designed.{IsWellDesigned}

-- a triple of the class: it has a variable, and no constant is blank
pub record IsClassTriple (p : Pattern) : Type 0 where
  pub variable : (v : Name) × In (vars p) v
  pub subject : IsNamed p.s
  pub predicate : IsNamed p.p
  pub object : IsNamed p.o

-- a condition of the class: the two variables of a sameTerm differ, no constant is blank, and a kind test is of the second level
abbrev pub IsClassCond : Level → Cond → Type 0
IsClassCond level (conds.Bound v) = Unit {0}
IsClassCond level (conds.SameVar v w) = v ≡ w → ⊥
IsClassCond level (conds.SameConst v c) = is_blank c ≡ false
IsClassCond One (conds.KindOf kind v) = ⊥
IsClassCond Two (conds.KindOf kind v) = Unit {0}

-- the tree is one node
abbrev pub HasNoChild : Tree → Type 0
HasNoChild (node ps cs f) = f ≡ leaf

-- SELECT DISTINCT of exactly the variables of the triples, each once, over a well-designed tree of one node
pub record InAnd (level : Level) (q : Select) : Type 0 where
  pub distinct : q.distinct ≡ true
  pub outer : q.outer ≡ []
  pub designed : IsWellDesigned q.tree
  pub one : HasNoChild q.tree
  pub triples : AllByRecursion IsClassTriple (own_triples q.tree)
  pub conds : AllByRecursion (IsClassCond level) (own_conds q.tree)
  pub once : EachOnce q.vars
  pub selects : (v : Name) → In q.vars v ↔ In (all_vars (own_triples q.tree)) v

-- the same without conditions, at the first level
pub record InAndPlain (q : Select) : Type 0 where
  pub in_class : InAnd One q
  pub no_conds : own_conds q.tree ≡ []

-- Worked examples of written queries: triples after an OPTIONAL, what they make of the rules, and FILTERs that are split.
use Rattle.std.specs.Prelude.{◌≡◌, List, [], ◌∷◌, true, None, codes}
use Rattle.bye_terms.specs.Terms.{Statement}
use Rattle.bye_table.specs.Mappings.{Name, Mapping, row_mapping}
use Rattle.bye_pattern.specs.declared.slot.Slot.TheVariants.{Var, Const}
use Rattle.bye_pattern.specs.declared.cond.Cond.TheVariants as conds
use Rattle.bye_pattern.specs.declared.kind.Kind.TheVariants.{Iri}
use Rattle.bye_pattern.specs.declared.rule.Rule.TheVariants.{NotWellDesigned, UnsafeCondition}
use Rattle.bye_pattern.specs.Patterns.{Pattern}
use Rattle.bye_pattern.specs.Conditions.{Expr, And, IsBound, KindOf, Same}
use Rattle.bye_pattern.specs.Algebra.{IsAnswer}
use Rattle.bye_pattern.specs.Trees.{node, leaf, more, alg}
use Rattle.bye_pattern.specs.Designed.{IsWellDesigned}
use Rattle.bye_pattern.specs.Written.{Element, Block, Optional, Filter, Written, group_of}
use Rattle.bye_pattern.specs.Gathered.{IsDesignedEarly, IsBrokenEarly, IsWrittenAnswer, gather}
use Rattle.bye_pattern.specs.Worked.{x, y, w, m, a, b, c, person, kind, mail, knows, text, triple, pattern, people, has_mail}

abbrev pub t : Name
t = codes "t"

abbrev pub has_kind : Pattern
has_kind = pattern (Var x) (Const kind) (Var t)

-- SELECT * over these elements
abbrev pub select_all : List Element → Written
select_all es = record { distinct = true; vars = None; group = group_of es }

-- SELECT DISTINCT * { ?x e:type ?t OPTIONAL { ?x e:mail ?m } ?y e:mail "m1" }
abbrev pub block_after : Written
block_after = select_all (Block (has_kind ∷ []) ∷ Optional (group_of (Block (has_mail ∷ []) ∷ [])) ∷ Block (pattern (Var y) (Const mail) (Const (text (codes "m1"))) ∷ []) ∷ [])

abbrev pub without_mail : Mapping
without_mail = row_mapping ((x, b) ∷ (t, person) ∷ (y, a) ∷ [])

-- The block after the OPTIONAL is the root's, and its variable is selected before that of the OPTIONAL. Whoever has no mail address is
-- an answer without one, by the query as it is written and by its tree.
pub record BlocksAfterOptionals : Type 0 where
  pub designed : IsDesignedEarly block_after
  pub tree : (gather block_after).tree
      ≡ node (has_kind ∷ pattern (Var y) (Const mail) (Const (text (codes "m1"))) ∷ []) [] (more (node (has_mail ∷ []) [] leaf) leaf)
  pub vars : (gather block_after).vars ≡ x ∷ t ∷ y ∷ m ∷ []
  pub as_written : IsWrittenAnswer people block_after without_mail
  pub as_tree : IsAnswer people (gather block_after).vars (alg (gather block_after)) without_mail

-- the OPTIONAL's FILTER looks at a variable of a later block alone
abbrev pub looks_ahead : Written
looks_ahead = select_all (Block (has_kind ∷ []) ∷ Optional (group_of (Block (has_mail ∷ []) ∷ Filter (IsBound y) ∷ []))
    ∷ Block (pattern (Var y) (Const mail) (Const (text (codes "m1"))) ∷ []) ∷ [])

-- a variable of the OPTIONAL comes again in a later block alone
abbrev pub comes_again : Written
comes_again = select_all (Block (has_kind ∷ []) ∷ Optional (group_of (Block (has_mail ∷ pattern (Var x) (Const knows) (Var w) ∷ []) ∷ []))
    ∷ Block (pattern (Var y) (Const mail) (Var m) ∷ []) ∷ [])

-- both trees keep the rules, since a tree does not tell where a block stood; the written queries do not
pub record RulesByPlace : Type 0 where
  pub unsafe_tree : IsWellDesigned (gather looks_ahead).tree
  pub unsafe : IsBrokenEarly looks_ahead (1 ∷ []) UnsafeCondition
  pub designed_tree : IsWellDesigned (gather comes_again).tree
  pub not_designed : IsBrokenEarly comes_again (1 ∷ []) NotWellDesigned

-- a person who has a mail address and knows somebody, and a further mail address
abbrev pub two_mails : List Statement
two_mails = triple a kind person ∷ triple a mail (text (codes "m1")) ∷ triple a knows b ∷ triple c mail (text (codes "m3")) ∷ []

abbrev pub not_extended : Mapping
not_extended = row_mapping ((x, a) ∷ (t, person) ∷ (y, a) ∷ [])

abbrev pub other_mail : Mapping
other_mail = row_mapping ((x, a) ∷ (t, person) ∷ (y, c) ∷ (m, text (codes "m3")) ∷ [])

-- The rules by place are needed: of these two queries, as they are written, the answers are not those of their trees. In the first
-- ?y is not bound yet where the FILTER looks at it; in the second the OPTIONAL has bound ?m before the later block is met.
pub record PlaceMatters : Type 0 where
  pub filter_too_early : IsWrittenAnswer people looks_ahead not_extended
  pub filter_in_tree : IsAnswer people (gather looks_ahead).vars (alg (gather looks_ahead)) not_extended → ⊥
  pub bound_in_tree : IsAnswer two_mails (gather comes_again).vars (alg (gather comes_again)) other_mail
  pub bound_too_early : IsWrittenAnswer two_mails comes_again other_mail → ⊥

-- FILTER (bound(?x) && isIRI(?x) && sameTerm(e:Person, ?t) && sameTerm(?m, "m1")) before the OPTIONAL that has ?m
abbrev pub four_tests : Expr
four_tests = And (And (And (IsBound x) (KindOf Iri (Var x))) (Same (Const person) (Var t))) (Same (Var m) (Const (text (codes "m1"))))

abbrev pub split : Written
split = select_all (Block (has_kind ∷ []) ∷ Filter four_tests ∷ Optional (group_of (Block (has_mail ∷ []) ∷ [])) ∷ [])

-- three of its conjuncts are conditions of the root, and the last is an outer expression
pub record SplitFilters : Type 0 where
  pub tree : (gather split).tree
      ≡ node (has_kind ∷ []) (conds.Bound x ∷ conds.KindOf Iri x ∷ conds.SameConst t person ∷ []) (more (node (has_mail ∷ []) [] leaf) leaf)
  pub outer : (gather split).outer ≡ Same (Var m) (Const (text (codes "m1"))) ∷ []

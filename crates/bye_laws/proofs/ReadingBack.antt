-- The query as which a select is written is read as this select, and keeps the rules.
use Rattle.std.proofs.Common.{◌≡◌, refl, not, cond, List, [], ◌∷◌, ◌++◌, map, Option, Some, None, IsSome, is_some, ⊎_elim, sym, ◌∙◌, ap, subst}
use Rattle.std.specs.List.{AllByRecursion, cons_option, filter, filter_map, flat_map, list_all}
use Rattle.std.proofs.lemmas.List.{append-nil}
use Rattle.bye_terms.proofs.Lists.{all_join, all_map, each_of}
use Rattle.bye_terms.proofs.Members.{all_from, all_in}
use Rattle.bye_terms.proofs.Tests.{bool_cases}
use Rattle.bye_table.specs.Mappings.{Name, is_in}
use Rattle.bye_table.proofs.Merging.{is_in_in}
use Rattle.bye_pattern.specs.declared.cond.Cond.{Cond}
use Rattle.bye_pattern.specs.declared.cond.Cond.TheVariants as conds
use Rattle.bye_pattern.specs.declared.rule.Rule.TheVariants.{UnsafeCondition}
use Rattle.bye_pattern.specs.Patterns.{Pattern, all_vars}
use Rattle.bye_pattern.specs.Conditions.{Expr, cond_expr, cond_vars}
use Rattle.bye_pattern.specs.Trees.{Forest, Tree, leaf, more, node, own_conds, own_triples, own_vars, tree_vars}
use Rattle.bye_pattern.specs.Designed.{AreDesigned, IsSafe, IsWellDesigned}
use Rattle.bye_pattern.specs.Written.{Group, filters, triples}
use Rattle.bye_pattern.specs.Gathered.{AreDesignedEarly, HasPlainOptionals, IsOuter, KeepsEach, conjuncts, gathered_tree, optional_tree, optionals, outer_tests, plain, plain_tests, root_test, root_tests, tests, within}
use Rattle.bye_pattern.specs.AsWritten.{forest_group, tree_group, with_filters}
use Rattle.bye_laws.specs.Written.{ReadBack}
use Rattle.bye_laws.proofs.Gathering.{within_all}

-- FILTERs have neither triples nor OPTIONALs, and the OPTIONALs of children no triples or FILTERs of their own
filters_triples : (es : List Expr) (g : Group) → triples (with_filters es g) ≡ triples g
filters_triples [] g = refl
filters_triples (e ∷ es) g = filters_triples es g

filters_filters : (es : List Expr) (g : Group) → filters (with_filters es g) ≡ es ++ filters g
filters_filters [] g = refl
filters_filters (e ∷ es) g = ap (λ ds. e ∷ ds) (filters_filters es g)

filters_optionals : (es : List Expr) (g : Group) → optionals (with_filters es g) ≡ optionals g
filters_optionals [] g = refl
filters_optionals (e ∷ es) g = filters_optionals es g

forest_triples : (f : Forest) → triples (forest_group f) ≡ []
forest_triples leaf = refl
forest_triples (more t f) = forest_triples f

forest_filters : (f : Forest) → filters (forest_group f) ≡ []
forest_filters leaf = refl
forest_filters (more t f) = forest_filters f

-- the triples and the expressions of a node's group
group_triples : (outer : List Expr) (ps : List Pattern) (cs : List Cond) (f : Forest) → triples (tree_group outer (node ps cs f)) ≡ ps
group_triples outer ps cs f = ap (λ qs. ps ++ qs) (filters_triples (map cond_expr cs ++ outer) (forest_group f) ∙ forest_triples f) ∙ append-nil ps

group_filters : (outer : List Expr) (ps : List Pattern) (cs : List Cond) (f : Forest) → filters (tree_group outer (node ps cs f)) ≡ map cond_expr cs ++ outer
group_filters outer ps cs f =
    filters_filters (map cond_expr cs ++ outer) (forest_group f) ∙ ap (λ es. map cond_expr cs ++ outer ++ es) (forest_filters f) ∙ append-nil (map cond_expr cs ++ outer)

-- a plain condition is one conjunct, and plain
cond_one : (c : Cond) → conjuncts (cond_expr c) ≡ cond_expr c ∷ []
cond_one (conds.Bound v) = refl
cond_one (conds.SameVar v w) = refl
cond_one (conds.SameConst v c) = refl
cond_one (conds.KindOf kind v) = refl

cond_plain : (c : Cond) → plain (cond_expr c) ≡ Some c
cond_plain (conds.Bound v) = refl
cond_plain (conds.SameVar v w) = refl
cond_plain (conds.SameConst v c) = refl
cond_plain (conds.KindOf kind v) = refl

abbrev IsOne : Expr → Type 0
IsOne e = conjuncts e ≡ e ∷ []

all_one : (es : List Expr) → AllByRecursion IsOne es → flat_map conjuncts es ≡ es
all_one [] all = refl
all_one (e ∷ es) all = λ i. all.0 i ++ all_one es all.1 i

conds_one : (cs : List Cond) → AllByRecursion IsOne (map cond_expr cs)
conds_one cs = all_map IsOne cond_expr cs (all_from (λ c. IsOne (cond_expr c)) cs (λ c h. cond_one c))

group_tests : (outer : List Expr) (ps : List Pattern) (cs : List Cond) (f : Forest) → AllByRecursion IsOne outer → tests (tree_group outer (node ps cs f)) ≡ map cond_expr cs ++ outer
group_tests outer ps cs f all =
    ap (flat_map conjuncts) (group_filters outer ps cs f) ∙ all_one (map cond_expr cs ++ outer) (all_join IsOne (map cond_expr cs) outer (conds_one cs) all)

-- the conditions of an OPTIONAL group
conds_plain : (cs : List Cond) → filter_map plain (map cond_expr cs ++ []) ≡ cs
conds_plain [] = refl
conds_plain (c ∷ cs) = ap (λ o. cons_option o (filter_map plain (map cond_expr cs ++ []))) (cond_plain c) ∙ ap (λ ds. c ∷ ds) (conds_plain cs)

group_conds : (ps : List Pattern) (cs : List Cond) (f : Forest) → plain_tests (tree_group [] (node ps cs f)) ≡ cs
group_conds ps cs f = ap (filter_map plain) (group_tests [] ps cs f tt) ∙ conds_plain cs

-- OPTIONAL groups are read as the children that they were
mutual
  tree_back : (t : Tree) → optional_tree (tree_group [] t) ≡ t
  tree_back (node ps cs f) = λ i. node (group_triples [] ps cs f i) (group_conds ps cs f i) ((filters_optionals (map cond_expr cs ++ []) (forest_group f) ∙ forest_back f) i)

  forest_back : (f : Forest) → optionals (forest_group f) ≡ f
  forest_back leaf = refl
  forest_back (more t f) = λ i. more (tree_back t i) (forest_back f i)

-- the outermost group: its conditions, and what is outer
root_cond : (ps : List Pattern) (c : Cond) → IsSafe [] ps c → root_test (all_vars ps) (cond_expr c) ≡ Some c
root_cond ps c safe = ap (within (all_vars ps)) (cond_plain c) ∙ within_all (all_vars ps) c (λ v h. ⊎_elim (λ k. k) (λ k. absurd k) (safe v h))

outer_none : (own : List Name) (e : Expr) (o : Option Cond) → plain e ≡ o → IsOuter own e → within own o ≡ None
outer_none own e None h is = refl
outer_none own e (Some c) h is =
    ⊎_elim (λ all. absurd (is.1 c h (λ v k. is_in_in own v (each_of (is_in own) (cond_vars c) all v k)))) (λ n. ap (λ b. cond b (Some c) None) n)
    (bool_cases (list_all (is_in own) (cond_vars c)))

-- conditions and then outer expressions are parted again
abbrev others : (Expr → Option Cond) → List Expr → List Expr
others r es = filter (λ e. not (is_some (r e))) es

none_of_these : (r : Expr → Option Cond) (es : List Expr) → AllByRecursion (λ e. r e ≡ None) es → filter_map r es ≡ []
none_of_these r [] all = refl
none_of_these r (e ∷ es) all = ap (λ o. cons_option o (filter_map r es)) all.0 ∙ none_of_these r es all.1

all_others : (r : Expr → Option Cond) (es : List Expr) → AllByRecursion (λ e. r e ≡ None) es → others r es ≡ es
all_others r [] all = refl
all_others r (e ∷ es) all = ap (λ o. cond (not (is_some o)) (e ∷ others r es) (others r es)) all.0 ∙ ap (λ ds. e ∷ ds) (all_others r es all.1)

conds_first : (r : Expr → Option Cond) (cs : List Cond) (es : List Expr) → AllByRecursion (λ c. r (cond_expr c) ≡ Some c) cs → AllByRecursion (λ e. r e ≡ None) es
    → filter_map r (map cond_expr cs ++ es) ≡ cs
conds_first r [] es here there = none_of_these r es there
conds_first r (c ∷ cs) es here there = ap (λ o. cons_option o (filter_map r (map cond_expr cs ++ es))) here.0 ∙ ap (λ ds. c ∷ ds) (conds_first r cs es here.1 there)

others_last : (r : Expr → Option Cond) (cs : List Cond) (es : List Expr) → AllByRecursion (λ c. r (cond_expr c) ≡ Some c) cs → AllByRecursion (λ e. r e ≡ None) es
    → others r (map cond_expr cs ++ es) ≡ es
others_last r [] es here there = all_others r es there
others_last r (c ∷ cs) es here there =
    ap (λ o. cond (not (is_some o)) (cond_expr c ∷ others r (map cond_expr cs ++ es)) (others r (map cond_expr cs ++ es))) here.0 ∙ others_last r cs es here.1 there

safe_here : (ps : List Pattern) (cs : List Cond) → AllByRecursion (IsSafe [] ps) cs → AllByRecursion (λ c. root_test (all_vars ps) (cond_expr c) ≡ Some c) cs
safe_here ps cs safe = all_from (λ c. root_test (all_vars ps) (cond_expr c) ≡ Some c) cs (λ c h. root_cond ps c (all_in (IsSafe [] ps) cs c safe h))

none_here : (ps : List Pattern) (es : List Expr) → AllByRecursion (IsOuter (all_vars ps)) es → AllByRecursion (λ e. root_test (all_vars ps) e ≡ None) es
none_here ps es all = all_from (λ e. root_test (all_vars ps) e ≡ None) es (λ e h. outer_none (all_vars ps) e (plain e) refl (all_in (IsOuter (all_vars ps)) es e all h))

outer_one : (own : List Name) (es : List Expr) → AllByRecursion (IsOuter own) es → AllByRecursion IsOne es
outer_one own es all = all_from IsOne es (λ e h. (all_in (IsOuter own) es e all h).0)

-- the tree and the outer expressions of the outermost group
whole_tree : (outer : List Expr) (t : Tree) → IsWellDesigned t → AllByRecursion (IsOuter (own_vars t)) outer → gathered_tree (tree_group outer t) ≡ t
whole_tree outer (node ps cs f) d all =
    let is = group_tests outer ps cs f (outer_one (all_vars ps) outer all) in
    let conds : root_tests (tree_group outer (node ps cs f)) ≡ cs =
    (λ i. filter_map (root_test (all_vars (group_triples outer ps cs f i))) (is i))
    ∙ conds_first (root_test (all_vars ps)) cs outer (safe_here ps cs (d.0 UnsafeCondition)) (none_here ps outer all) in
    λ i. node (group_triples outer ps cs f i) (conds i) ((filters_optionals (map cond_expr cs ++ outer) (forest_group f) ∙ forest_back f) i)

whole_outer : (outer : List Expr) (t : Tree) → IsWellDesigned t → AllByRecursion (IsOuter (own_vars t)) outer → outer_tests (tree_group outer t) ≡ outer
whole_outer outer (node ps cs f) d all =
    let is = group_tests outer ps cs f (outer_one (all_vars ps) outer all) in
    (λ i. others (root_test (all_vars (group_triples outer ps cs f i))) (is i))
    ∙ others_last (root_test (all_vars ps)) cs outer (safe_here ps cs (d.0 UnsafeCondition)) (none_here ps outer all)

-- the rules, where all blocks stand before the OPTIONALs
filters_early : (early above beside : List Name) (es : List Expr) (g : Group) → AreDesignedEarly early above beside g → AreDesignedEarly early above beside (with_filters es g)
filters_early early above beside [] g d = d
filters_early early above beside (e ∷ es) g d = filters_early early above beside es g d

forest_early : (early above beside : List Name) (f : Forest) → AreDesigned early above beside f → AreDesignedEarly early above beside (forest_group f)
forest_early early above beside leaf d = tt
forest_early early above beside (more (node ps cs e) f) d = (
  subst (λ qs. KeepsEach early above beside qs (plain_tests (tree_group [] (node ps cs e)))) (sym (group_triples [] ps cs e))
      (subst (λ ds. KeepsEach early above beside ps ds) (sym (group_conds ps cs e)) d.0.0),
  subst (λ qs. AreDesignedEarly [] (above ++ all_vars qs) beside (tree_group [] (node ps cs e))) (sym (group_triples [] ps cs e))
      (filters_early (all_vars ps) (above ++ all_vars ps) beside (map cond_expr cs ++ []) (forest_group e) (forest_early (all_vars ps) (above ++ all_vars ps) beside e d.0.1)),
  subst (λ t. AreDesignedEarly early above (beside ++ tree_vars t) (forest_group f)) (sym (tree_back (node ps cs e)))
      (forest_early early above (beside ++ tree_vars (node ps cs e)) f d.1),
)

root_keeps : (t : Tree) → IsWellDesigned t → KeepsEach [] [] [] (own_triples t) (own_conds t)
root_keeps (node ps cs f) d = d.0

below_early : (outer : List Expr) (t : Tree) → IsWellDesigned t → AreDesignedEarly [] (all_vars (triples (tree_group outer t))) [] (tree_group outer t)
below_early outer (node ps cs f) d =
    subst (λ qs. AreDesignedEarly [] (all_vars qs) [] (tree_group outer (node ps cs f))) (sym (group_triples outer ps cs f))
    (filters_early (all_vars ps) (all_vars ps) [] (map cond_expr cs ++ outer) (forest_group f) (forest_early (all_vars ps) (all_vars ps) [] f d.1))

-- the FILTERs of the children's groups are plain
filters_plain : (es : List Expr) (g : Group) → HasPlainOptionals g → HasPlainOptionals (with_filters es g)
filters_plain [] g h = h
filters_plain (e ∷ es) g h = filters_plain es g h

abbrev IsPlain : Expr → Type 0
IsPlain e = IsSome (plain e)

conds_are_plain : (cs : List Cond) → AllByRecursion IsPlain (map cond_expr cs ++ [])
conds_are_plain cs = all_join IsPlain (map cond_expr cs) [] (all_map IsPlain cond_expr cs (all_from (λ c. IsPlain (cond_expr c)) cs (λ c h. binds (plain (cond_expr c)) c (cond_plain c)))) tt
  where
    binds : (o : Option Cond) (c : Cond) → o ≡ Some c → IsSome o
    binds o c e = subst (λ o. IsSome o) (sym e) refl

forest_plain : (f : Forest) → HasPlainOptionals (forest_group f)
forest_plain leaf = tt
forest_plain (more (node ps cs e) f) = (
  subst (AllByRecursion IsPlain) (sym (group_tests [] ps cs e tt)) (conds_are_plain cs),
  filters_plain (map cond_expr cs ++ []) (forest_group e) (forest_plain e),
  forest_plain f,
)

whole_plain : (outer : List Expr) (t : Tree) → HasPlainOptionals (tree_group outer t)
whole_plain outer (node ps cs f) = filters_plain (map cond_expr cs ++ outer) (forest_group f) (forest_plain f)

pub read_back : ReadBack
read_back = record {
  gathers = λ q s. λ i. record { distinct = q.distinct; vars = q.vars; tree = whole_tree q.outer q.tree s.designed s.outer i; outer = whole_outer q.outer q.tree s.designed s.outer i };
  designed = λ q s. record {
    root = subst (λ t. KeepsEach [] [] [] (own_triples t) (own_conds t)) (sym (whole_tree q.outer q.tree s.designed s.outer)) (root_keeps q.tree s.designed);
    below = below_early q.outer q.tree s.designed;
  };
  plain = λ q. whole_plain q.outer q.tree;
}

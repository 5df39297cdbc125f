-- What a written query that keeps the rules is read as is a SELECT of the program. The same facts are laws of a crate above; here they
-- prove what gathering answers.
use Rattle.std.proofs.Common.{◌≡◌, refl, Bool, true, false, not, cond, List, [], ◌∷◌, ◌++◌, Option, Some, None, is_some, ◌⊎◌, inl, inr, ⊎_elim, sym, ◌∙◌, ap, subst}
use Rattle.std.specs.List.{AllByRecursion}
use Rattle.std.specs.Str.{bytes_eq}
use Rattle.std.proofs.lemmas.Slice.Eq.{bytes_eq-Decides}
use Rattle.bye_terms.specs.Members.{EachOnce, In}
use Rattle.bye_terms.proofs.Lists.{filtered, filtered_once, in_filtered, of_each}
use Rattle.bye_terms.proofs.Members.{all_from, in_cases, in_flat, in_left, in_right}
use Rattle.bye_terms.proofs.Tests.{bool_cases, not_both, not_true}
use Rattle.bye_table.specs.Mappings.{Name, is_in}
use Rattle.bye_table.proofs.Merging.{in_is}
use Rattle.bye_pattern.specs.declared.cond.Cond.{Cond}
use Rattle.bye_pattern.specs.declared.rule.Rule.{Rule}
use Rattle.bye_pattern.specs.declared.rule.Rule.TheVariants.{NoTriples, NoNewVariable, NotWellDesigned, UnsafeCondition}
use Rattle.bye_pattern.specs.Patterns.{Pattern, all_vars, vars}
use Rattle.bye_pattern.specs.Conditions.{And, Expr, IsBound, KindOf, Not, Or, Same, cond_vars}
use Rattle.bye_pattern.specs.Trees.{Tree, node, forest_vars, own_vars, tree_vars}
use Rattle.bye_pattern.specs.Designed.{AreDesigned, IsSafe, IsWellDesigned, Keeps}
use Rattle.bye_pattern.specs.Selects.{IsSelect}
use Rattle.bye_pattern.specs.Written.{Block, Filter, Group, Optional, Written, also, done, filters, triples}
use Rattle.bye_pattern.specs.Gathered.{AreDesignedEarly, IsDesignedEarly, IsOuter, KeepsEach, conjuncts, firsts, gather, gathered_tree, optional_tree, optionals, outer_tests, plain, plain_tests, root_test, selected, tests, within}

-- the variables of two lists of triple patterns
pub vars_left : (ps qs : List Pattern) (v : Name) → In (all_vars ps) v → In (all_vars (ps ++ qs)) v
vars_left [] qs v h = absurd h
vars_left (p ∷ ps) qs v h = ⊎_elim (λ k. in_left (vars p) _ v k) (λ k. in_right (vars p) _ v (vars_left ps qs v k)) (in_cases (vars p) _ v h)

pub vars_right : (ps qs : List Pattern) (v : Name) → In (all_vars qs) v → In (all_vars (ps ++ qs)) v
vars_right [] qs v h = h
vars_right (p ∷ ps) qs v h = in_right (vars p) _ v (vars_right ps qs v h)

-- early variables, and those of the next block
pub grown : (early : List Name) (ps qs : List Pattern) (all : List Name) → ((v : Name) → In early v → In all v) → ((v : Name) → In (all_vars (ps ++ qs)) v → In all v)
    → (v : Name) → In (early ++ all_vars ps) v → In all v
grown early ps qs all x y v h = ⊎_elim (λ k. x v k) (λ k. y v (vars_left ps qs v k)) (in_cases early (all_vars ps) v h)

-- a rule that is kept by what stands before is kept by all of the parent's triples
safe_more : (early parent : List Name) (ps : List Pattern) (cs : List Cond) → ((v : Name) → In early v → In parent v) → AllByRecursion (IsSafe early ps) cs → AllByRecursion (IsSafe parent ps) cs
safe_more early parent ps [] x all = tt
safe_more early parent ps (c ∷ cs) x all = ((λ v h. ⊎_elim inl (λ k. inr (x v k)) (all.0 v h)), safe_more early parent ps cs x all.1)

keeps_more : (early parent above beside : List Name) (ps : List Pattern) (cs : List Cond) → ((v : Name) → In early v → In parent v) → KeepsEach early above beside ps cs
    → (rule : Rule) → Keeps parent above beside ps cs rule
keeps_more early parent above beside ps cs x each NoTriples = each NoTriples
keeps_more early parent above beside ps cs x each NoNewVariable = each NoNewVariable
keeps_more early parent above beside ps cs x each NotWellDesigned = let k = each NotWellDesigned in ((λ v h a. x v (k.0 v h a)), k.1)
keeps_more early parent above beside ps cs x each UnsafeCondition = safe_more early parent ps cs x (each UnsafeCondition)

pub early_designed : (early parent above beside : List Name) (g : Group) → ((v : Name) → In early v → In parent v) → ((v : Name) → In (all_vars (triples g)) v → In parent v)
    → AreDesignedEarly early above beside g → AreDesigned parent above beside (optionals g)
early_designed early parent above beside done x y d = tt
early_designed early parent above beside (also (Block ps) g) x y d =
    early_designed (early ++ all_vars ps) parent above beside g (grown early ps (triples g) parent x y) (λ v h. y v (vars_right ps (triples g) v h)) d
early_designed early parent above beside (also (Optional h) g) x y d = (
  (
    keeps_more early parent above beside (triples h) (plain_tests h) x d.0,
    early_designed [] (all_vars (triples h)) (above ++ all_vars (triples h)) beside h (λ v k. absurd k) (λ v k. k) d.1,
  ),
  early_designed early parent above (beside ++ tree_vars (optional_tree h)) g x y d.2,
)
early_designed early parent above beside (also (Filter e) g) x y d = early_designed early parent above beside g x y d

pub whole_designed : (w : Written) → IsDesignedEarly w → IsWellDesigned (gather w).tree
whole_designed w d = (d.root, early_designed [] (all_vars (triples w.group)) (all_vars (triples w.group)) [] w.group (λ v k. absurd k) (λ v k. k) d.below)

-- each name once
abbrev others : Name → Name → Bool
others v w = not (bytes_eq v w)

pub firsts_in : (vs : List Name) (v : Name) → In (firsts vs) v → In vs v
firsts_in [] v h = h
firsts_in (w ∷ vs) v (inl e) = inl e
firsts_in (w ∷ vs) v (inr h) = inr (firsts_in vs v (filtered (others w) (firsts vs) v h).0)

pub in_firsts : (vs : List Name) (v : Name) → In vs v → In (firsts vs) v
in_firsts [] v h = h
in_firsts (w ∷ vs) v (inl e) = inl e
in_firsts (w ∷ vs) v (inr h) =
    ⊎_elim (λ e. inl ((bytes_eq-Decides w v).0 e)) (λ e. inr (in_filtered (others w) (firsts vs) v (in_firsts vs v h) (ap not e))) (bool_cases (bytes_eq w v))

firsts_once : (vs : List Name) → EachOnce (firsts vs)
firsts_once [] = tt
firsts_once (v ∷ vs) = (
  (λ h. not_both (bytes_eq v v) ((bytes_eq-Decides v v).1 refl) (not_true (bytes_eq v v) (filtered (others v) (firsts vs) v h).1)),
  filtered_once (others v) (firsts vs) (firsts_once vs),
)

-- a conjunct is split no further
one_conjunct : (e d : Expr) → conjuncts e ≡ e ∷ [] → In (e ∷ []) d → conjuncts d ≡ d ∷ []
one_conjunct e d one (inl h) = subst (λ d. conjuncts d ≡ d ∷ []) h one
one_conjunct e d one (inr k) = absurd k

conjunct_one : (e d : Expr) → In (conjuncts e) d → conjuncts d ≡ d ∷ []
conjunct_one (And a b) d h = ⊎_elim (λ k. conjunct_one a d k) (λ k. conjunct_one b d k) (in_cases (conjuncts a) (conjuncts b) d h)
conjunct_one (IsBound v) d h = one_conjunct (IsBound v) d refl h
conjunct_one (Same s t) d h = one_conjunct (Same s t) d refl h
conjunct_one (KindOf kind s) d h = one_conjunct (KindOf kind s) d refl h
conjunct_one (Not e) d h = one_conjunct (Not e) d refl h
conjunct_one (Or a b) d h = one_conjunct (Or a b) d refl h

-- what is outer is no plain condition over the root's variables
pub within_all : (own : List Name) (c : Cond) → ((v : Name) → In (cond_vars c) v → In own v) → within own (Some c) ≡ Some c
within_all own c all = ap (λ b. cond b (Some c) None) (of_each (is_in own) (cond_vars c) (λ v h. in_is own v (all v h)))

abbrev is_other : List Name → Expr → Bool
is_other own e = not (is_some (root_test own e))

not_outer : (own : List Name) (e : Expr) (c : Cond) → plain e ≡ Some c → ((v : Name) → In (cond_vars c) v → In own v) → is_other own e ≡ true → ⊥
not_outer own e c h all out =
    let there : root_test own e ≡ Some c = ap (within own) h ∙ within_all own c all in
    not_both (is_some (root_test own e)) (ap is_some there) (not_true (is_some (root_test own e)) out)

-- what is selected where no variables are named
all_selected : (w : Written) → w.vars ≡ None → (gather w).vars ≡ firsts (tree_vars (gather w).tree)
all_selected w h = ap (λ vs. selected vs (gathered_tree w.group)) h

all_outer : (w : Written) → AllByRecursion (IsOuter (all_vars (triples w.group))) (outer_tests w.group)
all_outer w = all_from (IsOuter (all_vars (triples w.group))) (outer_tests w.group) (λ e h.
    let k = filtered (is_other (all_vars (triples w.group))) (tests w.group) e h in
    let one = in_flat conjuncts (filters w.group) e k.0 in
    (conjunct_one one.0 e one.2, λ c is all. not_outer (all_vars (triples w.group)) e c is all k.1))

not_empty : (vs : List Name) (v : Name) → In vs v → vs ≡ [] → ⊥
not_empty vs v h e = subst (λ (vs : List Name). In vs v) e h

own_in : (t : Tree) (v : Name) → In (own_vars t) v → In (tree_vars t) v
own_in (node ps cs f) v h = in_left (all_vars ps) (forest_vars f) v h

-- what is selected of a written query
written_vars : (w : Written) (o : Option (List Name)) → w.vars ≡ o → IsDesignedEarly w → ((vs : List Name) → w.vars ≡ Some vs → (vs ≡ [] → ⊥) × EachOnce vs)
    → ((gather w).vars ≡ [] → ⊥) × EachOnce (gather w).vars
written_vars w None is early named =
    let new = early.root NoNewVariable in
    (not_empty (gather w).vars new.0 (subst (λ vs. In vs new.0) (sym (all_selected w is)) (in_firsts (tree_vars (gather w).tree) new.0 (own_in (gather w).tree new.0 new.1.0))), subst EachOnce (sym (all_selected w is)) (firsts_once (tree_vars (gather w).tree)))
written_vars w (Some vs) is early named =
    subst (λ (vs : List Name). (vs ≡ [] → ⊥) × EachOnce vs) (sym (selects w.vars is)) (named vs is)
  where
    selects : (o : Option (List Name)) → o ≡ Some vs → selected o (gather w).tree ≡ vs
    selects o e = subst (λ o. selected o (gather w).tree ≡ vs) (sym e) refl

-- a written query that keeps the rules
pub written_select : (w : Written) → IsDesignedEarly w → ((vs : List Name) → w.vars ≡ Some vs → (vs ≡ [] → ⊥) × EachOnce vs)
    → (w.distinct ≡ false → (v : Name) → In (tree_vars (gather w).tree) v → In (gather w).vars v) → IsSelect (gather w)
written_select w early named whole =
    let vars = written_vars w w.vars refl early named in
    record {
      some = vars.0;
      once = vars.1;
      designed = whole_designed w early;
      whole = whole;
      outer = all_outer w;
    }

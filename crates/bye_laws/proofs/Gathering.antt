-- What a written query selects, and what remains of its FILTERs beside the conditions of the root.
use Rattle.std.proofs.Common.{◌≡◌, refl, Bool, true, not, cond, List, [], ◌∷◌, Some, None, is_some, inl, inr, ⊎_elim, sym, ◌∙◌, ap, subst}
use Rattle.std.specs.Str.{bytes_eq}
use Rattle.std.proofs.lemmas.Slice.Eq.{bytes_eq-Decides}
use Rattle.bye_terms.specs.Members.{EachOnce, In}
use Rattle.bye_terms.proofs.Lists.{filtered, filtered_once, in_filtered, of_each}
use Rattle.bye_terms.proofs.Members.{all_from, in_cases, in_flat}
use Rattle.bye_terms.proofs.Tests.{bool_cases, not_both, not_true}
use Rattle.bye_table.specs.Mappings.{Name, is_in}
use Rattle.bye_table.proofs.Merging.{in_is}
use Rattle.bye_pattern.specs.declared.cond.Cond.{Cond}
use Rattle.bye_pattern.specs.Patterns.{all_vars}
use Rattle.bye_pattern.specs.Conditions.{And, Expr, IsBound, KindOf, Not, Or, Same, cond_vars}
use Rattle.bye_pattern.specs.Trees.{tree_vars}
use Rattle.bye_pattern.specs.Written.{Written, filters, triples}
use Rattle.bye_pattern.specs.Gathered.{IsOuter, conjuncts, firsts, gather, gathered_tree, outer_tests, plain, root_test, selected, tests, within}
use Rattle.bye_laws.specs.Written.{GatheredSelects}

-- each name once
abbrev others : Name → Name → Bool
others v w = not (bytes_eq v w)

firsts_in : (vs : List Name) (v : Name) → In (firsts vs) v → In vs v
firsts_in [] v h = h
firsts_in (w ∷ vs) v (inl e) = inl e
firsts_in (w ∷ vs) v (inr h) = inr (firsts_in vs v (filtered (others w) (firsts vs) v h).0)

in_firsts : (vs : List Name) (v : Name) → In vs v → In (firsts vs) v
in_firsts [] v h = h
in_firsts (w ∷ vs) v (inl e) = inl e
in_firsts (w ∷ vs) v (inr h) =
    ⊎_elim (λ e. inl ((bytes_eq-Decides w v).0 e)) (λ e. inr (in_filtered (others w) (firsts vs) v (in_firsts vs v h) (ap not e))) (bool_cases (bytes_eq w v))

firsts_once : (vs : List Name) → EachOnce (firsts vs)
firsts_once [] = tt
firsts_once (v ∷ vs) = (
  (λ h. not_both (bytes_eq v v) ((bytes_eq-Decides v v).1 refl) (not_true (bytes_eq v v) (filtered (others v) (firsts vs) v h).1)),
  filtered_once (others v) (firsts vs) (firsts_once vs),
)

-- a conjunct is split no further
one_conjunct : (e d : Expr) → conjuncts e ≡ e ∷ [] → In (e ∷ []) d → conjuncts d ≡ d ∷ []
one_conjunct e d one (inl h) = subst (λ d. conjuncts d ≡ d ∷ []) h one
one_conjunct e d one (inr k) = absurd k

conjunct_one : (e d : Expr) → In (conjuncts e) d → conjuncts d ≡ d ∷ []
conjunct_one (And a b) d h = ⊎_elim (λ k. conjunct_one a d k) (λ k. conjunct_one b d k) (in_cases (conjuncts a) (conjuncts b) d h)
conjunct_one (IsBound v) d h = one_conjunct (IsBound v) d refl h
conjunct_one (Same s t) d h = one_conjunct (Same s t) d refl h
conjunct_one (KindOf kind s) d h = one_conjunct (KindOf kind s) d refl h
conjunct_one (Not e) d h = one_conjunct (Not e) d refl h
conjunct_one (Or a b) d h = one_conjunct (Or a b) d refl h

-- what is outer is no plain condition over the root's variables
pub within_all : (own : List Name) (c : Cond) → ((v : Name) → In (cond_vars c) v → In own v) → within own (Some c) ≡ Some c
within_all own c all = ap (λ b. cond b (Some c) None) (of_each (is_in own) (cond_vars c) (λ v h. in_is own v (all v h)))

abbrev is_other : List Name → Expr → Bool
is_other own e = not (is_some (root_test own e))

not_outer : (own : List Name) (e : Expr) (c : Cond) → plain e ≡ Some c → ((v : Name) → In (cond_vars c) v → In own v) → is_other own e ≡ true → ⊥
not_outer own e c h all out =
    let there : root_test own e ≡ Some c = ap (within own) h ∙ within_all own c all in
    not_both (is_some (root_test own e)) (ap is_some there) (not_true (is_some (root_test own e)) out)

-- what is selected where no variables are named
all_selected : (w : Written) → w.vars ≡ None → (gather w).vars ≡ firsts (tree_vars (gather w).tree)
all_selected w h = ap (λ vs. selected vs (gathered_tree w.group)) h

pub gathered_selects : GatheredSelects
gathered_selects = record {
  once = λ w h. subst EachOnce (sym (all_selected w h)) (firsts_once (tree_vars (gather w).tree));
  all = λ w v h. (
    (λ k. firsts_in (tree_vars (gather w).tree) v (subst (λ vs. In vs v) (all_selected w h) k)),
    (λ k. subst (λ vs. In vs v) (sym (all_selected w h)) (in_firsts (tree_vars (gather w).tree) v k)),
  );
  outer = λ w. all_from (IsOuter (all_vars (triples w.group))) (outer_tests w.group) (λ e h.
      let k = filtered (is_other (all_vars (triples w.group))) (tests w.group) e h in
      let one = in_flat conjuncts (filters w.group) e k.0 in
      (conjunct_one one.0 e one.2, λ c is all. not_outer (all_vars (triples w.group)) e c is all k.1));
}

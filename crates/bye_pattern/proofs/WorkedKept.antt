-- The worked example of a query that is kept.
use Rattle.bye_pattern.specs.declared.level.Level.TheVariants.{One}
use Rattle.std.proofs.Common.{◌≡◌, refl, true, List, [], ◌∷◌, Option, Some, None, inl, inr, ⊎_elim, sym, ◌∙◌, ap, subst, ◌↔◌}
use Rattle.std.specs.List.{AllByRecursion}
use Rattle.bye_terms.specs.declared.term.Term.{Term}
use Rattle.bye_terms.specs.Terms.{Statement}
use Rattle.bye_terms.specs.Members.{In}
use Rattle.bye_pattern.specs.declared.cond.Cond.{Cond}
use Rattle.bye_pattern.specs.declared.cond.Cond.TheVariants as conds
use Rattle.bye_pattern.specs.declared.slot.Slot.{Slot}
use Rattle.bye_pattern.specs.declared.slot.Slot.TheVariants.{Var, Const}
use Rattle.bye_pattern.specs.declared.class.Class.TheVariants.{And}
use Rattle.bye_table.specs.Mappings.{Name, Mapping, Binds, Exactly, row_mapping}
use Rattle.bye_pattern.specs.Patterns.{Pattern, vars, all_vars, Meets}
use Rattle.bye_pattern.specs.Conditions.{cond_vars, Holds}
use Rattle.bye_pattern.specs.Conjuncts.{MeetsCond}
use Rattle.bye_pattern.specs.Classes.{IsClassTriple, IsClassCond, InAnd}
use Rattle.bye_pattern.specs.Candidates.{of_terms}
use Rattle.bye_pattern.specs.Trees.{node, leaf, Select, plain_select}
use Rattle.bye_pattern.specs.Designed.{IsSafe}
use Rattle.bye_table.specs.Domains.{Wanted, IsSeen, IsWithin, AreAlike}
use Rattle.bye_table.specs.DomainTrees.{domain, none, IsFirstOfClass, IsDomainTree}
use Rattle.bye_pattern.specs.Starting.{IsCommonAt, IsCommonCondAt, IsInForm, IsStartNode}
use Rattle.bye_pattern.specs.Keeping.{IsRight}
use Rattle.bye_pattern.specs.Laws.{MeetsAll}
use Rattle.bye_pattern.specs.Worked.{x, pattern, group, ada, eve, bob, born, knows, london, known, ConditionsAreTriedFirst}
use Rattle.bye_pattern.proofs.SameTerms.{terms_same}
use Rattle.bye_pattern.proofs.OneGroup.{meets_fits, root_rules, meets_answer}
use Rattle.bye_pattern.proofs.WorkedTerms.{values_differ, row_exactly, only_name, listed}

abbrev person_of : Term → Mapping
person_of t = row_mapping ((x, t) ∷ [])

abbrev examples : Wanted
examples = record { vars = x ∷ []; rows = person_of ada ∷ [] }

abbrev was_born : Pattern
was_born = pattern (Var x) (Const born) (Const london)

abbrev knows_bob : Pattern
knows_bob = pattern (Var x) (Const knows) (Const bob)

abbrev is_ada : Cond
is_ada = conds.SameConst x ada

abbrev query : List Pattern → List Cond → Select
query ps cs = plain_select (x ∷ []) (node ps cs leaf)

-- the domain of the one wanted row
within_x : (v : Name) → x ≡ v → IsWithin (person_of ada ∷ []) x v
within_x v e = ((λ h. subst (λ v. Binds (person_of ada) v) e h), tt)

is_x : (v : Name) → IsWithin (person_of ada ∷ []) x v → x ≡ v
is_x v h = only_name x ada v (h.0 refl)

one_domain : IsDomainTree examples (domain x none)
one_domain = record {
  labels = λ v h. ⊎_elim (λ e. subst (IsFirstOfClass examples) e first) (λ k. absurd k) h;
  covers = λ v seen. (x, inl refl, alike v (seen_x v seen));
  ordered = ((λ v h. absurd h), tt);
  root = (refl, tt);
}
  where
    first : IsFirstOfClass examples x
    first = record { seen = (person_of ada, inl refl, refl); first = λ v h. ⊎_elim (λ k. absurd k.1) (λ k. absurd k) h }

    seen_x : (v : Name) → IsSeen (person_of ada ∷ []) v → x ≡ v
    seen_x v (r, inl e, h) = only_name x ada v (subst (λ (r : Mapping). Binds r v) (sym e) h)
    seen_x v (r, inr k, h) = absurd k

    alike : (v : Name) → x ≡ v → AreAlike (person_of ada ∷ []) x v
    alike v e = (within_x v e, ((λ h. refl), tt))

-- the conjuncts that the wanted row meets
common_pattern : (p : Pattern) → IsClassTriple p → ((v : Name) → In (vars p) v → x ≡ v) → Meets known (person_of ada) p → IsCommonAt known (person_of ada ∷ []) x p
common_pattern p class over meets = record { in_class = class; over = λ v h. within_x v (over v h); holds = ((λ h. meets), tt) }

in_x : (v : Name) → In (x ∷ []) v → x ≡ v
in_x v h = ⊎_elim (λ e. e) (λ k. absurd k) h

ada_born : Meets known (person_of ada) was_born
ada_born = (_, inl refl, record { s = refl; p = refl; o = refl })

ada_knows : Meets known (person_of ada) knows_bob
ada_knows = (_, inr (inl refl), record { s = refl; p = refl; o = refl })

eve_knows : Meets known (person_of eve) knows_bob
eve_knows = (_, inr (inr (inl refl)), record { s = refl; p = refl; o = refl })

born_class : IsClassTriple was_born
born_class = record { variable = (x, inl refl); subject = tt; predicate = refl; object = refl }

knows_class : IsClassTriple knows_bob
knows_class = record { variable = (x, inl refl); subject = tt; predicate = refl; object = refl }

ada_row : Exactly (x ∷ []) (person_of ada)
ada_row = row_exactly ((x, ada) ∷ [])

eve_row : Exactly (x ∷ []) (person_of eve)
eve_row = row_exactly ((x, eve) ∷ [])

patterns : (p : Pattern) → In (was_born ∷ knows_bob ∷ []) p ↔ IsCommonAt known (person_of ada ∷ []) x p
unfolding of_terms
patterns p = (
  (λ h. ⊎_elim
      (λ e. subst (IsCommonAt known (person_of ada ∷ []) x) e (common_pattern was_born born_class in_x ada_born))
      (λ k. ⊎_elim (λ e. subst (IsCommonAt known (person_of ada ∷ []) x) e (common_pattern knows_bob knows_class in_x ada_knows)) (λ n. absurd n) k)
      h),
  (λ h. listed known ((x, ada) ∷ []) (((x, ada) ∷ []) ∷ []) p ((refl, refl), ((refl, refl), ((refl, refl), tt))) h.in_class (h.holds.0 refl) (h.holds.0 refl, tt)),
)

common_condition : (d : Cond) → IsClassCond One d → ((v : Name) → In (cond_vars d) v → x ≡ v) → MeetsCond (person_of ada) d → IsCommonCondAt One (person_of ada ∷ []) x d
common_condition d class over meets = record { in_class = class; over = λ v h. within_x v (over v h); holds = ((λ h. meets), tt) }

binds_x : (v : Name) → In (x ∷ []) v → Binds (person_of ada) v
binds_x v h = (ada_row v).1 h

only_conditions : (d : Cond) → IsCommonCondAt One (person_of ada ∷ []) x d → In (conds.Bound x ∷ is_ada ∷ []) d
only_conditions (conds.Bound v) h = inl (ap conds.Bound (is_x v (h.over v (inl refl))))
only_conditions (conds.SameVar v u) h = absurd (h.in_class (sym (is_x v (h.over v (inl refl))) ∙ is_x u (h.over u (inr (inl refl)))))
only_conditions (conds.KindOf kind v) h = absurd h.in_class
only_conditions (conds.SameConst v t) h =
    let at = is_x v (h.over v (inl refl)) in
    let same = subst (λ v. Holds (person_of ada) (conds.SameConst v t)) (sym at) (h.holds.0 refl).1 in
    inr (inl (λ i. conds.SameConst (at i) (terms_same ada t (some_true _ same) i)))
  where
    some_true : (c : _) → Some c ≡ Some true → c ≡ true
    some_true c e = cc

conditions : (d : Cond) → In (conds.Bound x ∷ is_ada ∷ []) d ↔ (IsCommonCondAt One (person_of ada ∷ []) x d × IsInForm (x ∷ []) d)
conditions d = (
  (λ h. ⊎_elim
      (λ e. subst (λ d. IsCommonCondAt One (person_of ada ∷ []) x d × IsInForm (x ∷ []) d) e (common_condition (conds.Bound x) tt in_x (binds_x, refl), tt))
      (λ k. ⊎_elim (λ e. subst (λ d. IsCommonCondAt One (person_of ada ∷ []) x d × IsInForm (x ∷ []) d) e (common_condition is_ada refl in_x (binds_x, refl), tt)) (λ n. absurd n) k)
      h),
  (λ h. only_conditions d h.0),
)

constant_of : Slot → Option Term
constant_of (Var v) = None
constant_of (Const t) = Some t

start : IsStartNode One known examples x (was_born ∷ knows_bob ∷ []) (conds.Bound x ∷ is_ada ∷ [])
unfolding constant_of Rattle.bye_pattern.specs.Printed.root_line lib.Utf8.encode
start = record {
  triples = patterns;
  sorted = ((refl, tt), (tt, tt));
  conditions = conditions;
  conditions_sorted = ((tt, tt), (tt, tt));
}

-- queries of x alone
class_of : (p : Pattern) (ps : List Pattern) (cs : List Cond) → AllByRecursion IsClassTriple (p ∷ ps) → AllByRecursion (IsClassCond One) cs → AllByRecursion (IsSafe [] (p ∷ ps)) cs
    → In (all_vars (p ∷ ps)) x → ((v : Name) → In (all_vars (p ∷ ps)) v → x ≡ v) → InAnd One (query (p ∷ ps) cs)
class_of p ps cs triples conditions safe there over = record {
  distinct = refl;
  outer = refl;
  designed = (root_rules (p ∷ ps) cs x there safe, tt);
  one = refl;
  triples = triples;
  conds = conditions;
  once = ((λ h. h), tt);
  selects = λ v. ((λ h. subst (In (all_vars (p ∷ ps))) (in_x v h) there), (λ h. inl (over v h)));
}

born_vars : (v : Name) → In (all_vars (was_born ∷ [])) v → x ≡ v
born_vars v h = in_x v h

both_vars : (v : Name) → In (all_vars (was_born ∷ knows_bob ∷ [])) v → x ≡ v
both_vars v h = ⊎_elim (λ e. e) (λ k. in_x v k) h

adas : (v : Name) → In (x ∷ []) v → Binds (person_of ada) v
adas v h = (ada_row v).1 h

-- with the condition, with both patterns, and with the first alone the query is right
right_query : (p : Pattern) (ps : List Pattern) (cs : List Cond) → InAnd One (query (p ∷ ps) cs) → AllByRecursion (Meets known (person_of ada)) (p ∷ ps) → AllByRecursion (MeetsCond (person_of ada)) cs
    → (MeetsAll known (query (p ∷ ps) cs) (person_of eve) → ⊥) → IsRight And One known (person_of ada ∷ []) (person_of eve ∷ []) (query (p ∷ ps) cs)
right_query p ps cs class triples conditions kept_away = record {
  in_class = class;
  fits = meets_fits One known (person_of ada ∷ []) (person_of eve ∷ []) (query (p ∷ ps) cs) class ((record { binds = ada_row; triples = triples; conds = conditions }, tt), (kept_away, tt));
}

-- Eve is in no triple with born
eve_not_born : Meets known (person_of eve) was_born → ⊥
eve_not_born (f, inl e, is) = values_differ eve ada refl (is.s ∙ ap (λ (f : Statement). Some f.s) (sym e))
eve_not_born (f, inr (inl e), is) = values_differ born knows refl (is.p ∙ ap (λ (f : Statement). Some f.p) (sym e))
eve_not_born (f, inr (inr (inl e)), is) = values_differ born knows refl (is.p ∙ ap (λ (f : Statement). Some f.p) (sym e))
eve_not_born (f, inr (inr (inr k)), is) = k

with_condition : IsRight And One known (person_of ada ∷ []) (person_of eve ∷ []) (query (was_born ∷ knows_bob ∷ []) (is_ada ∷ []))
with_condition = right_query was_born (knows_bob ∷ []) (is_ada ∷ [])
    (class_of was_born (knows_bob ∷ []) (is_ada ∷ []) (born_class, (knows_class, tt)) (refl, tt) ((λ v h. inl (inl (in_x v h))), tt) (inl refl) both_vars)
    (ada_born, (ada_knows, tt)) ((adas, refl), tt) (λ is. eve_not_born is.triples.0)

both_right : IsRight And One known (person_of ada ∷ []) (person_of eve ∷ []) (query (was_born ∷ knows_bob ∷ []) [])
both_right = right_query was_born (knows_bob ∷ []) []
    (class_of was_born (knows_bob ∷ []) [] (born_class, (knows_class, tt)) tt tt (inl refl) both_vars) (ada_born, (ada_knows, tt)) tt (λ is. eve_not_born is.triples.0)

born_right : IsRight And One known (person_of ada ∷ []) (person_of eve ∷ []) (query (was_born ∷ []) [])
born_right = right_query was_born [] [] (class_of was_born [] [] (born_class, tt) tt tt (inl refl) born_vars) (ada_born, tt) tt (λ is. eve_not_born is.triples.0)

-- with the second alone it is not, since Eve is then an answer
knows_wrong : IsRight And One known (person_of ada ∷ []) (person_of eve ∷ []) (query (knows_bob ∷ []) []) → ⊥
knows_wrong right = right.fits.none.0 (meets_answer One known (query (knows_bob ∷ []) []) (person_of eve) right.in_class (record { binds = eve_row; triples = (eve_knows, tt); conds = tt }))

pub tried_first : ConditionsAreTriedFirst
tried_first = record {
  start = query (was_born ∷ knows_bob ∷ []) (conds.Bound x ∷ is_ada ∷ []);
  tree = group (was_born ∷ []);
  begun = record {
    domains = domain x none;
    tree = node (was_born ∷ knows_bob ∷ []) (conds.Bound x ∷ is_ada ∷ []) leaf;
    vars = x ∷ [];
    allowed = refl;
    over = one_domain;
    conjuncts = (start, tt);
    selected = inl ((person_of ada, inl refl, refl), ([], refl, refl));
    query = refl;
  };
  thinned = (
    leaf,
    [],
    was_born ∷ [],
    refl,
    inl (with_condition, inl (both_right, refl)),
    inr (knows_wrong, ([], inl (born_right, refl), refl)),
    refl,
  );
  query = refl;
}

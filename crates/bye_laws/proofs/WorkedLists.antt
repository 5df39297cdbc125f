-- The lists of a start's node over rows of a table: what the rows have in common is told by tests.
use Rattle.std.proofs.Common.{◌≡◌, refl, Bool, true, false, not, ◌&&◌, ◌||◌, List, [], ◌∷◌, map, Option, Some, None, inl, inr, ⊎_elim, sym, ap, subst, ◌↔◌}
use Rattle.std.specs.List.{AllByRecursion, filter, list_all}
use Rattle.std.specs.Str.{bytes_eq}
use Rattle.std.proofs.lemmas.Slice.Eq.{bytes_eq-Decides}
use Rattle.bye_terms.specs.Members.{EachOnce, In}
use Rattle.bye_terms.specs.Terms.{IsTriple, Statement, is_blank}
use Rattle.bye_terms.proofs.Lists.{all_map, each_of, filtered, in_filtered, map_all, of_each}
use Rattle.bye_terms.proofs.Members.{all_from, all_in}
use Rattle.bye_terms.proofs.Tests.{both, both_parts, not_true, one_part, second}
use Rattle.bye_table.specs.Domains.{IsBefore}
use Rattle.bye_table.specs.Mappings.{Exactly, Name, NoRepeat, Pairs, is_in, row_mapping}
use Rattle.bye_table.proofs.Merging.{in_is, is_in_in}
use Rattle.bye_pattern.specs.declared.cond.Cond.{Cond}
use Rattle.bye_pattern.specs.declared.cond.Cond.TheVariants as conds
use Rattle.bye_pattern.specs.declared.level.Level.{Level}
use Rattle.bye_pattern.specs.declared.level.Level.TheVariants.{One, Two}
use Rattle.bye_pattern.specs.Candidates.{candidates}
use Rattle.bye_pattern.specs.Classes.{IsClassCond}
use Rattle.bye_pattern.specs.Common.{IsCommon, IsCommonCond}
use Rattle.bye_pattern.specs.Conditions.{cond_expr, value}
use Rattle.bye_pattern.specs.Conjuncts.{MeetsCond}
use Rattle.bye_pattern.specs.Meeting as test
use Rattle.bye_pattern.specs.Patterns.{Meets, Pattern}
use Rattle.bye_pattern.specs.Starting.{AreInTrialOrder, IsInForm}
use Rattle.bye_pattern.specs.TrialOrder.{IsInStrictOrder}
use Rattle.bye_pattern.proofs.Covered.{meets_true}
use Rattle.bye_pattern.proofs.Solutions.{meets_binds}
use Rattle.bye_pattern.proofs.Standing.{candidate_meets}
use Rattle.bye_pattern.proofs.WorkedTerms.{listed}
use Rattle.bye_laws.specs.Strongest.{IsStrongestNode}
use Rattle.bye_laws.proofs.AllConjuncts.{cond_in, cond_shapes}
use Rattle.bye_laws.proofs.OneDomainTree.{not_both_before}
use Rattle.bye_laws.proofs.Telling.{holds_meets}

-- whether one name stands before another
abbrev pub comes_before : List Name → Name → Name → Bool
comes_before [] v w = false
comes_before (x ∷ xs) v w = (bytes_eq x v && is_in xs w) || comes_before xs v w

before_true : (xs : List Name) (v w : Name) → comes_before xs v w ≡ true → IsBefore xs v w
before_true [] v w e = cc
before_true (x ∷ xs) v w e =
    ⊎_elim (λ h. let k = both_parts _ _ h in inl ((bytes_eq-Decides x v).0 k.0, is_in_in xs w k.1)) (λ h. inr (before_true xs v w h)) (one_part _ _ e)

true_before : (xs : List Name) (v w : Name) → IsBefore xs v w → comes_before xs v w ≡ true
true_before [] v w h = absurd h
true_before (x ∷ xs) v w (inl (e, h)) = ap (λ b. b || comes_before xs v w) (both _ _ ((bytes_eq-Decides x v).1 e) (in_is xs w h))
true_before (x ∷ xs) v w (inr h) = second (bytes_eq x v && is_in xs w) _ (true_before xs v w h)

-- whether a condition is of the class and in form
abbrev pub has_form : Level → List Name → Cond → Bool
has_form level header (conds.Bound v) = true
has_form level header (conds.SameVar v w) = comes_before header v w
has_form level header (conds.SameConst v c) = not (is_blank c)
has_form One header (conds.KindOf kind v) = false
has_form Two header (conds.KindOf kind v) = true

form_true : (level : Level) (header : List Name) (c : Cond) → EachOnce header → has_form level header c ≡ true → IsClassCond level c × IsInForm header c
form_true level header (conds.Bound v) once e = (tt, tt)
form_true level header (conds.SameVar v w) once e =
    let b = before_true header v w e in
    ((λ same. let k = subst (IsBefore header v) (sym same) b in not_both_before header v v once k k), b)
form_true level header (conds.SameConst v c) once e = (not_true (is_blank c) e, tt)
form_true One header (conds.KindOf kind v) once e = cc
form_true Two header (conds.KindOf kind v) once e = (tt, tt)

true_form : (level : Level) (header : List Name) (c : Cond) → IsClassCond level c → IsInForm header c → has_form level header c ≡ true
true_form level header (conds.Bound v) class form = refl
true_form level header (conds.SameVar v w) class form = true_before header v w form
true_form level header (conds.SameConst v c) class form = ap not class
true_form One header (conds.KindOf kind v) class form = absurd class
true_form Two header (conds.KindOf kind v) class form = refl

-- whether a condition is true of a row
abbrev pub is_true : Option Bool → Bool
is_true None = false
is_true (Some b) = b

some_true : (o : Option Bool) → is_true o ≡ true → o ≡ Some true
some_true None e = cc
some_true (Some b) e = ap Some e

abbrev pub holds : Cond → Pairs → Bool
holds c row = is_true (value (row_mapping row) (cond_expr c))

met : (c : Cond) (row : Pairs) → holds c row ≡ true → MeetsCond (row_mapping row) c
met c row e = holds_meets (row_mapping row) c (some_true _ e)

-- the conditions that are common to rows, one of which is the first
abbrev pub is_common : Level → List Name → List Pairs → Cond → Bool
is_common level header rows c = has_form level header c && list_all (holds c) rows

abbrev pub common_conditions : Level → List Name → Pairs → List Pairs → List Cond
common_conditions level header first rows = filter (is_common level header rows) (cond_shapes header (row_mapping first))

conditions_told : (level : Level) (header : List Name) (first : Pairs) (rows : List Pairs) → In rows first → EachOnce header → Exactly header (row_mapping first) → (c : Cond)
    → In (common_conditions level header first rows) c ↔ (IsCommonCond level header (map row_mapping rows) c × IsInForm header c)
conditions_told level header first rows there once exactly c = (
  (λ h.
      let e = both_parts _ _ (filtered (is_common level header rows) (cond_shapes header (row_mapping first)) c h).1 in
      let form = form_true level header c once e.0 in
      let each : (row : Pairs) → In rows row → MeetsCond (row_mapping row) c = λ row k. met c row (each_of (holds c) rows e.1 row k) in (
        record {
          in_class = form.0;
          over = λ v k. (exactly v).0 ((each first there).0 v k);
          holds = all_map (λ m. MeetsCond m c) row_mapping rows (all_from (λ row. MeetsCond (row_mapping row) c) rows each);
        },
        form.1,
      )),
  (λ (common, form).
      let each : (row : Pairs) → In rows row → MeetsCond (row_mapping row) c =
      λ row k. all_in (λ row. MeetsCond (row_mapping row) c) rows row (map_all (λ m. MeetsCond m c) row_mapping rows common.holds) k in
      in_filtered (is_common level header rows) (cond_shapes header (row_mapping first)) c (cond_in header (row_mapping first) c common.over (each first there).1)
      (both _ _ (true_form level header c common.in_class form) (of_each (holds c) rows (λ row k. ap is_true (each row k).1)))),
)

-- the triple patterns that are common to them
abbrev pub common_patterns : List Statement → Pairs → List Pairs → List Pattern
common_patterns g first rows = filter (test.meets_all g rows) (candidates first g)

patterns_told : (g : List Statement) (header : List Name) (first : Pairs) (rows : List Pairs) → In rows first
    → AllByRecursion IsTriple g → NoRepeat first → Exactly header (row_mapping first) → (p : Pattern)
    → In (common_patterns g first rows) p ↔ IsCommon g header (map row_mapping rows) p
patterns_told g header first rows there valid distinct exactly p = (
  (λ h.
      let w = filtered (test.meets_all g rows) (candidates first g) p h in
      let q = candidate_meets first g p distinct w.0 in
      record {
        in_class = q.0;
        over = λ v k. (exactly v).0 (meets_binds g (row_mapping first) p v q.1 k);
        holds = all_map (λ m. Meets g m p) row_mapping rows
            (all_from (λ row. Meets g (row_mapping row) p) rows (λ row k. meets_true g p row (each_of (test.meets g p) rows w.1 row k)));
      }),
  (λ common.
      let each = map_all (λ m. Meets g m p) row_mapping rows common.holds in
      listed g first rows p valid common.in_class (all_in (λ row. Meets g (row_mapping row) p) rows first each there) each),
)

-- lists with the same members as these, in order, are those of the strongest node
pub strongest_listed : (level : Level) (g : List Statement) (header : List Name) (first : Pairs) (rows : List Pairs) (ps : List Pattern) (cs : List Cond) → In rows first
    → AllByRecursion IsTriple g → NoRepeat first → EachOnce header → Exactly header (row_mapping first)
    → AllByRecursion (In (common_patterns g first rows)) ps → AllByRecursion (In ps) (common_patterns g first rows) → IsInStrictOrder ps
    → AllByRecursion (In (common_conditions level header first rows)) cs → AllByRecursion (In cs) (common_conditions level header first rows) → AreInTrialOrder header cs
    → IsStrongestNode level g header (map row_mapping rows) ps cs
strongest_listed level g header first rows ps cs there valid distinct once exactly these all order conditions each trial = record {
  triples = λ p. (
    (λ h. (patterns_told g header first rows there valid distinct exactly p).0 (all_in (In (common_patterns g first rows)) ps p these h)),
    (λ common. all_in (In ps) (common_patterns g first rows) p all ((patterns_told g header first rows there valid distinct exactly p).1 common)),
  );
  sorted = order;
  conditions = λ c. (
    (λ h. (conditions_told level header first rows there once exactly c).0 (all_in (In (common_conditions level header first rows)) cs c conditions h)),
    (λ common. all_in (In cs) (common_conditions level header first rows) c each ((conditions_told level header first rows there once exactly c).1 common)),
  );
  conditions_sorted = trial;
}

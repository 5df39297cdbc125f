-- The worked examples of answers and of well-designed trees.
use Rattle.std.proofs.Common.{◌≡◌, refl, [], ◌∷◌, Option, Some, None, ◌⊎◌, inl, inr, ⊎_elim, sym, ◌∙◌, ap, subst, codes}
use Rattle.bye_terms.specs.declared.term.Term.{Term}
use Rattle.bye_terms.specs.Terms.{Statement}
use Rattle.bye_terms.specs.Members.{In}
use Rattle.bye_pattern.specs.declared.slot.Slot.TheVariants.{Var, Const}
use Rattle.bye_pattern.specs.declared.cond.Cond.TheVariants as conds
use Rattle.bye_pattern.specs.declared.rule.Rule.{Rule}
use Rattle.bye_pattern.specs.declared.rule.Rule.TheVariants.{NoTriples, NoNewVariable, NotWellDesigned, UnsafeCondition}
use Rattle.bye_table.specs.Mappings.{Name, Mapping, Binds, row_mapping, merge, Compatible, restrict}
use Rattle.bye_pattern.specs.Patterns.{Pattern, all_vars}
use Rattle.bye_pattern.specs.Conditions.{same_value}
use Rattle.bye_pattern.specs.Algebra.{IsBgpRow, IsRow, Extends, IsAnswer}
use Rattle.bye_pattern.specs.Trees.{body, alg}
use Rattle.bye_pattern.specs.Designed.{Keeps}
use Rattle.bye_pattern.specs.Worked.{x, y, z, w, m, a, b, pattern, kind, mail, text, people, is_person, has_mail, mails, one_mail, OptionalAnswers, ErrorsDropRows, DesignedTrees}
use Rattle.bye_table.proofs.Merging.{bound, binds, some_same as same_bound, restrict_in, restrict_within, merge_right}
use Rattle.bye_pattern.proofs.Solutions.{row_meets, meets_row}
use Rattle.bye_pattern.proofs.OneGroup.{root_rules}
use Rattle.bye_pattern.proofs.WorkedTerms.{differ, values_differ, row_exactly, longer_agrees, longer_merges}

abbrev pub m1 : Term
m1 = text (codes "m1")

abbrev alone : Term → Mapping
alone t = row_mapping ((x, t) ∷ [])

abbrev pub mailed : Mapping
mailed = row_mapping ((x, a) ∷ (m, m1) ∷ [])

a_is_person : IsBgpRow people (is_person (Var x) ∷ []) (alone a)
a_is_person = meets_row people (is_person (Var x) ∷ []) (alone a) (row_exactly ((x, a) ∷ [])) ((_, inl refl, record { s = refl; p = refl; o = refl }), tt)

b_is_person : IsBgpRow people (is_person (Var x) ∷ []) (alone b)
b_is_person = meets_row people (is_person (Var x) ∷ []) (alone b) (row_exactly ((x, b) ∷ [])) ((_, inr (inl refl), record { s = refl; p = refl; o = refl }), tt)

pub a_has_mail : IsBgpRow people (has_mail ∷ []) mailed
a_has_mail = meets_row people (has_mail ∷ []) mailed (row_exactly ((x, a) ∷ (m, m1) ∷ [])) ((_, inr (inr (inl refl)), record { s = refl; p = refl; o = refl }), tt)

-- who has a mail address is a
pub mail_of_a : (f : Statement) → In people f → Some mail ≡ Some f.p → a ≡ f.s
mail_of_a f (inl e) p = absurd (values_differ mail kind refl (p ∙ ap (λ (f : Statement). Some f.p) (sym e)))
mail_of_a f (inr (inl e)) p = absurd (values_differ mail kind refl (p ∙ ap (λ (f : Statement). Some f.p) (sym e)))
mail_of_a f (inr (inr (inl e))) p = ap (λ (f : Statement). f.s) e
mail_of_a f (inr (inr (inr h))) p = absurd h

whole : IsRow people (body mails.tree) mailed
whole = (alone a, a_is_person, inl (mailed, a_has_mail, longer_agrees x a ((m, m1) ∷ []), tt, longer_merges x a ((m, m1) ∷ [])))

b_alone : (n : Mapping) → Extends (IsBgpRow people (has_mail ∷ [])) [] (alone b) n → ⊥
b_alone n (o, row, same, all, e) =
    let met = (row_meets people (has_mail ∷ []) o row).1.0 in
    let is_a : o x ≡ Some a = met.2.s ∙ ap Some (sym (mail_of_a met.0 met.1 met.2.p)) in
    values_differ b a refl (ap Some (same x b a refl is_a))

-- whoever is a can be extended
a_extends : (n : Mapping) → IsBgpRow people (is_person (Var x) ∷ []) n → n x ≡ Some a → Extends (IsBgpRow people (has_mail ∷ [])) [] n (merge n mailed)
a_extends n row is_a = (mailed, a_has_mail, (λ v s t d e. agree v s t d e), tt, refl)
  where
    only : (v : Name) → Binds n v → x ≡ v
    only v h = ⊎_elim (λ e. e) (λ k. absurd k) (((row_meets people (is_person (Var x) ∷ []) n row).0 v).0 h)

    agree : Compatible n mailed
    agree v s t d e =
        let at = only v (binds (n v) s d) in
        let s_is : Some a ≡ Some s = sym is_a ∙ ap n at ∙ d in
        let t_is : Some a ≡ Some t = ap mailed at ∙ e in
        same_bound (sym s_is ∙ t_is)

in_vars : (v : Name) → In (x ∷ []) v → In (x ∷ m ∷ []) v
in_vars v (inl e) = inl e
in_vars v (inr h) = absurd h

-- what is selected of a row
selected : (n o : Mapping) (v : Name) → In (x ∷ m ∷ []) v → o ≡ restrict (x ∷ m ∷ []) n → o v ≡ n v
selected n o v h e = (λ i. e i v) ∙ restrict_in (x ∷ m ∷ []) n v h

pub optional : OptionalAnswers
optional = record {
  with_mail = (mailed, (whole, tt), restrict_within (x ∷ m ∷ []) mailed (λ v h. (row_exactly ((x, a) ∷ (m, m1) ∷ []) v).0 h));
  without_mail = (
    alone b,
    ((alone b, b_is_person, inr (refl, b_alone)), tt),
    restrict_within (x ∷ m ∷ []) (alone b) (λ v h. in_vars v ((row_exactly ((x, b) ∷ []) v).0 h)),
  );
  cut_short = short;
}
  where
    short : IsAnswer people mails.vars (alg mails) (alone a) → ⊥
    short (n, ((o, row, inl (r, extra, same, all, e)), held), cut) =
        let v = bound (r m) (((row_meets people (has_mail ∷ []) r extra).0 m).1 (inr (inl refl))) in
        let there : n m ≡ Some v.0 = (λ i. e i m) ∙ merge_right o r m v.0 same v.1 in
        let none : ◌≡◌ {A = Option Term} None (n m) = selected n (alone a) m (inr (inl refl)) cut in
        let k = none ∙ there in cc
    short (n, ((o, row, inr (e, none)), held), cut) =
        none (merge o mailed) (a_extends o row (sym (λ i. e i x) ∙ sym (selected n (alone a) x (inl refl) cut)))

pub errors : ErrorsDropRows
errors = record {
  true_of = (mailed, (whole, (refl, tt)), restrict_within (x ∷ m ∷ []) mailed (λ v h. (row_exactly ((x, a) ∷ (m, m1) ∷ []) v).0 h));
  error_of = dropped;
}
  where
    dropped : IsAnswer people one_mail.vars (alg one_mail) (alone b) → ⊥
    dropped (n, (row, (true_of, rest)), cut) =
        let none : ◌≡◌ {A = Option Term} None (n m) = selected n (alone b) m (inr (inl refl)) cut in
        let k = ap (λ o. same_value o (Some m1)) none ∙ true_of in cc

-- names that differ
not_in_xy : (v : Name) → In (x ∷ y ∷ []) v → x ≡ v ⊎ y ≡ v
not_in_xy v (inl e) = inl e
not_in_xy v (inr (inl e)) = inr e
not_in_xy v (inr (inr h)) = absurd h

mail_rules : (rule : Rule) → Keeps (x ∷ []) (x ∷ []) [] (has_mail ∷ []) [] rule
mail_rules NoTriples = λ e. cc
mail_rules NoNewVariable = (m, (inr (inl refl), λ h. ⊎_elim (differ x m refl) (λ k. k) h))
mail_rules NotWellDesigned = ((λ v h above. above), λ v new k. k)
mail_rules UnsafeCondition = tt

child_rules : (own : Pattern) (v : Name) → In (all_vars (own ∷ [])) v → (In (x ∷ y ∷ []) v → ⊥) → (rule : Rule) → Keeps (x ∷ y ∷ []) (x ∷ y ∷ []) [] (own ∷ []) [] rule
child_rules own v h out NoTriples = λ e. cc
child_rules own v h out NoNewVariable = (v, (h, out))
child_rules own v h out NotWellDesigned = ((λ v h above. above), λ v new k. k)
child_rules own v h out UnsafeCondition = tt

pub designed : DesignedTrees
designed = record {
  designed = (root_rules (is_person (Var x) ∷ []) [] x (inl refl) tt, ((mail_rules, tt), tt));
  no_new = inr (root_rules (is_person (Var x) ∷ []) [] x (inl refl) tt, inl ([], refl, inl (refl, inr ((λ e. cc), inl (refl, (λ new. new.1.1 new.1.0))))));
  not_designed = inr (
    root_rules _ [] x (inl refl) tt,
    inl (
      1 ∷ [],
      refl,
      inr (
        child_rules _ z (inl refl) (λ h. ⊎_elim (differ x z refl) (λ k. ⊎_elim (differ y z refl) (λ n. n) k) h),
        inl ([], refl, inl (refl, inr ((λ e. cc), inr ((m, (inr (inl refl), far)), inl (refl, jumped))))),
      ),
    ),
  );
  unsafe = inr (
    root_rules _ [] x (inl refl) tt,
    inl (
      1 ∷ [],
      refl,
      inr (
        child_rules _ z (inr (inl refl)) (λ h. ⊎_elim (differ x z refl) (λ k. ⊎_elim (differ y z refl) (λ n. n) k) h),
        inl ([], refl, inl (refl, inr ((λ e. cc), inr ((m, (inr (inl refl), near)), inr ((shared, λ v new k. k), inl (refl, unseen)))))),
      ),
    ),
  );
}
  where
    far : In (x ∷ y ∷ z ∷ w ∷ []) m → ⊥
    far (inl e) = differ x m refl e
    far (inr (inl e)) = differ y m refl e
    far (inr (inr (inl e))) = differ z m refl e
    far (inr (inr (inr (inl e)))) = differ w m refl e
    far (inr (inr (inr (inr h)))) = h

    jumped : Keeps (z ∷ w ∷ []) (x ∷ y ∷ z ∷ w ∷ []) [] (has_mail ∷ []) [] NotWellDesigned → ⊥
    jumped h = ⊎_elim (differ z x refl) (λ k. ⊎_elim (differ w x refl) (λ n. n) k) (h.0 x (inl refl) (inl refl))

    near : In (x ∷ y ∷ y ∷ z ∷ []) m → ⊥
    near (inl e) = differ x m refl e
    near (inr (inl e)) = differ y m refl e
    near (inr (inr (inl e))) = differ y m refl e
    near (inr (inr (inr (inl e)))) = differ z m refl e
    near (inr (inr (inr (inr h)))) = h

    shared : (v : Name) → In (z ∷ m ∷ []) v → In (x ∷ y ∷ y ∷ z ∷ []) v → In (y ∷ z ∷ []) v
    shared v (inl e) above = inr (inl e)
    shared v (inr (inl e)) above = absurd (near (subst (In (x ∷ y ∷ y ∷ z ∷ [])) (sym e) above))
    shared v (inr (inr h)) above = absurd h

    unseen : Keeps (y ∷ z ∷ []) (x ∷ y ∷ y ∷ z ∷ []) [] (pattern (Var z) (Const mail) (Var m) ∷ []) (conds.Bound x ∷ []) UnsafeCondition → ⊥
    unseen h = ⊎_elim
        (λ k. ⊎_elim (differ z x refl) (λ k. ⊎_elim (differ m x refl) (λ n. n) k) k)
        (λ k. ⊎_elim (differ y x refl) (λ k. ⊎_elim (differ z x refl) (λ n. n) k) k)
        (h.0 x (inl refl))

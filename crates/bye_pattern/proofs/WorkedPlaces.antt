-- The worked examples of written queries whose answers are not those of their trees.
use Rattle.std.proofs.Common.{◌≡◌, refl, Bool, true, List, [], ◌∷◌, Option, Some, None, IsSome, is_some, ◌⊎◌, inl, inr, ⊎_elim, sym, ◌∙◌, ap, subst, codes}
use Rattle.bye_terms.specs.declared.term.Term.{Term}
use Rattle.bye_terms.specs.Terms.{Statement}
use Rattle.bye_terms.specs.Members.{In}
use Rattle.bye_table.specs.Mappings.{Binds, Compatible, Mapping, Name, merge, nothing, restrict, row_mapping}
use Rattle.bye_table.proofs.Merging.{binds, bound, merge_left, merge_right, restrict_in, restrict_within, some_same}
use Rattle.bye_pattern.specs.declared.slot.Slot.TheVariants.{Const, Var}
use Rattle.bye_pattern.specs.Patterns.{Pattern}
use Rattle.bye_pattern.specs.Algebra.{IsAnswer, IsBgpRow}
use Rattle.bye_pattern.specs.Trees.{alg}
use Rattle.bye_pattern.specs.Gathered.{IsWrittenAnswer, gather}
use Rattle.bye_pattern.specs.Worked.{a, b, c, has_mail, kind, knows, m, mail, pattern, people, person, text, w, x, y}
use Rattle.bye_pattern.specs.WorkedWritten.{PlaceMatters, comes_again, has_kind, looks_ahead, not_extended, other_mail, t, two_mails}
use Rattle.bye_pattern.proofs.Solutions.{meets_row, row_meets}
use Rattle.bye_pattern.proofs.WorkedAnswers.{a_has_mail, m1, mailed}
use Rattle.bye_pattern.proofs.WorkedGroups.{a_has_m1, mail_m1, no_m, not_y, parts_merge, two}
use Rattle.bye_pattern.proofs.WorkedTerms.{differ, only_name, row_exactly, values_differ}

abbrev m3 : Term
m3 = text (codes "m3")

abbrev a_kind : Mapping
a_kind = row_mapping ((x, a) ∷ (t, person) ∷ [])

-- a value that is there, by the test
there : (o : Option Term) → ◌≡◌ {A = Option Bool} (Some (is_some o)) (Some true) → IsSome o
there None e = cc
there (Some u) e = refl

-- what an answer tells of a row
at : (vs : List Name) (n o : Mapping) (v : Name) → In vs v → o ≡ restrict vs n → n v ≡ o v
at vs n o v h e = sym ((λ i. e i v) ∙ restrict_in vs n v h)

-- a row of the first block, and one of the last
a_has_kind : (g : List Statement) → In g (record { s = a; p = kind; o = person }) → IsBgpRow g (has_kind ∷ []) a_kind
a_has_kind g h = meets_row g (has_kind ∷ []) a_kind (row_exactly ((x, a) ∷ (t, person) ∷ [])) ((_, h, record { s = refl; p = refl; o = refl }), tt)

-- mail binds no y
no_y : (r : Mapping) → IsBgpRow people (has_mail ∷ []) r → Binds r y → ⊥
no_y r row h = ⊎_elim (differ x y refl) (λ k. ⊎_elim (differ m y refl) (λ n. n) k) (((row_meets people (has_mail ∷ []) r row).0 y).0 h)

apart : Compatible a_kind (row_mapping ((y, a) ∷ []))
apart v s u h k = absurd (not_y v ((row_exactly ((x, a) ∷ (t, person) ∷ []) v).0 (binds (a_kind v) s h)) (only_name y a v (binds (row_mapping ((y, a) ∷ []) v) u k)))

-- the FILTER is false where it stands
early_false : (r o : Mapping) → IsBgpRow people (has_mail ∷ []) r → o ≡ r → ◌≡◌ {A = Option Bool} (Some (is_some (o y))) (Some true) → ⊥
early_false r o row e hold = no_y r row (subst (λ o. Binds o y) e (there (o y) hold))

in_four : (v : Name) → In (x ∷ t ∷ y ∷ []) v → In (x ∷ t ∷ y ∷ m ∷ []) v
in_four v (inl e) = inl e
in_four v (inr (inl e)) = inr (inl e)
in_four v (inr (inr (inl e))) = inr (inr (inl e))
in_four v (inr (inr (inr k))) = absurd k

filter_early : IsWrittenAnswer people looks_ahead not_extended
filter_early = (
  not_extended,
  (
    (
      a_kind,
      row_mapping ((y, a) ∷ []),
      (
        a_kind,
        (nothing, a_kind, refl, a_has_kind people (inl refl), (λ v s u h k. cc), refl),
        inr (refl, λ n (o, (e, r, none, row, near, d), same, hold, f). early_false r o row (d ∙ ap (λ e. merge e r) none) hold.0),
      ),
      a_has_m1,
      apart,
      λ i v. parts_merge ((x, a) ∷ (t, person) ∷ []) ((y, a) ∷ []) v i,
    ),
    tt,
  ),
  restrict_within (x ∷ t ∷ y ∷ m ∷ []) not_extended (λ v h. in_four v ((row_exactly ((x, a) ∷ (t, person) ∷ (y, a) ∷ []) v).0 h)),
)

-- and true at the end, where ?y is bound
agrees : (p : Mapping) → IsBgpRow people (has_kind ∷ mail_m1 ∷ []) p → p x ≡ Some a → Compatible p mailed
agrees p row is_a v s u h k = ⊎_elim
    (λ e. some_same (sym (ap p e ∙ h) ∙ is_a ∙ ap mailed e ∙ k))
    (λ e. absurd (no_m (⊎_elim (λ d. subst (In (x ∷ t ∷ y ∷ [])) (sym d) (((row_meets people (has_kind ∷ mail_m1 ∷ []) p row).0 v).0 (binds (p v) s h))) (λ k. absurd k) e)))
    ((row_exactly ((x, a) ∷ (m, m1) ∷ []) v).0 (binds (mailed v) u k))

filter_late : IsAnswer people (gather looks_ahead).vars (alg (gather looks_ahead)) not_extended → ⊥
filter_late (n, ((p, root, inl (r, row, same, hold, e)), held), cut) =
    let v = bound (r m) (((row_meets people (has_mail ∷ []) r row).0 m).1 (inr (inl refl))) in
    let some : n m ≡ Some v.0 = (λ i. e i m) ∙ merge_right p r m v.0 same v.1 in
    let none : ◌≡◌ {A = Option Term} None (n m) = sym (at (x ∷ t ∷ y ∷ m ∷ []) n not_extended m (inr (inr (inr (inl refl)))) cut) in
    let k = none ∙ some in cc
filter_late (n, ((p, root, inr (e, none)), held), cut) =
    let is_a : p x ≡ Some a = sym (λ i. e i x) ∙ at (x ∷ t ∷ y ∷ m ∷ []) n not_extended x (inl refl) cut in
    let v = bound (p y) (((row_meets people (has_kind ∷ mail_m1 ∷ []) p root).0 y).1 (inr (inr (inl refl)))) in
    none (merge p mailed) (mailed, a_has_mail, agrees p root is_a, (ap (λ o. Some (is_some o)) (merge_left p mailed y v.0 v.1), tt), refl)

-- over the other graph the tree has a row that nothing extends
mail_of : (f : Statement) → In two_mails f → Some mail ≡ Some f.p → Some a ≡ Some f.s → m1 ≡ f.o
mail_of f (inl e) p s = absurd (values_differ mail kind refl (p ∙ ap (λ (f : Statement). Some f.p) (sym e)))
mail_of f (inr (inl e)) p s = ap (λ (f : Statement). f.o) e
mail_of f (inr (inr (inl e))) p s = absurd (values_differ mail knows refl (p ∙ ap (λ (f : Statement). Some f.p) (sym e)))
mail_of f (inr (inr (inr (inl e)))) p s = absurd (values_differ a c refl (s ∙ ap (λ (f : Statement). Some f.s) (sym e)))
mail_of f (inr (inr (inr (inr k)))) p s = absurd k

abbrev mail_m : Pattern
mail_m = pattern (Var y) (Const mail) (Var m)

no_other : (r : Mapping) → IsBgpRow two_mails two r → Compatible other_mail r → ⊥
no_other r row same =
    let met = (row_meets two_mails two r row).1.0 in
    let s = bound (r x) (((row_meets two_mails two r row).0 x).1 (inl refl)) in
    let is_a : Some a ≡ Some (met.0).s = ap Some (same x a s.0 refl s.1) ∙ sym s.1 ∙ met.2.s in
    let is_m1 : r m ≡ Some m1 = met.2.o ∙ ap Some (sym (mail_of met.0 met.1 met.2.p is_a)) in
    values_differ m3 m1 refl (ap Some (same m m3 m1 refl is_m1))

in_five : (v : Name) → In (x ∷ t ∷ y ∷ m ∷ []) v → In (x ∷ t ∷ y ∷ m ∷ w ∷ []) v
in_five v (inl e) = inl e
in_five v (inr (inl e)) = inr (inl e)
in_five v (inr (inr (inl e))) = inr (inr (inl e))
in_five v (inr (inr (inr (inl e)))) = inr (inr (inr (inl e)))
in_five v (inr (inr (inr (inr k)))) = absurd k

other_row : IsBgpRow two_mails (has_kind ∷ mail_m ∷ []) other_mail
other_row = meets_row two_mails (has_kind ∷ mail_m ∷ []) other_mail (row_exactly ((x, a) ∷ (t, person) ∷ (y, c) ∷ (m, m3) ∷ []))
    ((_, inl refl, record { s = refl; p = refl; o = refl }), ((_, inr (inr (inr (inl refl))), record { s = refl; p = refl; o = refl }), tt))

bound_late : IsAnswer two_mails (gather comes_again).vars (alg (gather comes_again)) other_mail
bound_late = (
  other_mail,
  ((other_mail, other_row, inr (refl, λ n (r, row, same, hold, e). no_other r row same)), tt),
  restrict_within (x ∷ t ∷ y ∷ m ∷ w ∷ []) other_mail (λ v h. in_five v ((row_exactly ((x, a) ∷ (t, person) ∷ (y, c) ∷ (m, m3) ∷ []) v).0 h)),
)

-- as it is written, the OPTIONAL extends the only row that there is
abbrev extra : Mapping
extra = row_mapping ((x, a) ∷ (m, m1) ∷ (x, a) ∷ (w, b) ∷ [])

extra_row : IsBgpRow two_mails two extra
extra_row = meets_row two_mails two extra (row_exactly ((x, a) ∷ (m, m1) ∷ (x, a) ∷ (w, b) ∷ []))
    ((_, inr (inl refl), record { s = refl; p = refl; o = refl }), ((_, inr (inr (inl refl)), record { s = refl; p = refl; o = refl }), tt))

not_in_kind : (v : Name) → In (x ∷ t ∷ []) v → In (m ∷ w ∷ []) v → ⊥
not_in_kind v h (inl e) = ⊎_elim (λ d. differ x m refl (d ∙ sym e)) (λ k. ⊎_elim (λ d. differ t m refl (d ∙ sym e)) (λ n. n) k) h
not_in_kind v h (inr (inl e)) = ⊎_elim (λ d. differ x w refl (d ∙ sym e)) (λ k. ⊎_elim (λ d. differ t w refl (d ∙ sym e)) (λ n. n) k) h
not_in_kind v h (inr (inr k)) = k

in_extra : (v : Name) → In (x ∷ m ∷ x ∷ w ∷ []) v → In (x ∷ []) v ⊎ In (m ∷ w ∷ []) v
in_extra v (inl e) = inl (inl e)
in_extra v (inr (inl e)) = inr (inl e)
in_extra v (inr (inr (inl e))) = inl (inl e)
in_extra v (inr (inr (inr (inl e)))) = inr (inr (inl e))
in_extra v (inr (inr (inr (inr k)))) = absurd k

extra_agrees : (q : Mapping) → IsBgpRow two_mails (has_kind ∷ []) q → q x ≡ Some a → Compatible q extra
extra_agrees q row is_a v s u h k = ⊎_elim
    (λ e. ⊎_elim (λ e. some_same (sym (ap q e ∙ h) ∙ is_a ∙ ap extra e ∙ k)) (λ n. absurd n) e)
    (λ e. absurd (not_in_kind v (((row_meets two_mails (has_kind ∷ []) q row).0 v).0 (binds (q v) s h)) e))
    (in_extra v ((row_exactly ((x, a) ∷ (m, m1) ∷ (x, a) ∷ (w, b) ∷ []) v).0 (binds (extra v) u k)))

bound_early : IsWrittenAnswer two_mails comes_again other_mail → ⊥
bound_early (n, ((l, z, (k, krow, inl (o, (e, r, none, row, near, d), same, hold, f)), zrow, far, g), held), cut) =
    let v = bound (r w) (((row_meets two_mails two r row).0 w).1 (inr (inr (inr (inl refl))))) in
    let o_w : o w ≡ Some v.0 = (λ i. d i w) ∙ merge_right e r w v.0 near v.1 in
    let l_w : l w ≡ Some v.0 = (λ i. f i w) ∙ merge_right k o w v.0 same o_w in
    let some : n w ≡ Some v.0 = (λ i. g i w) ∙ merge_left l z w v.0 l_w in
    let empty : ◌≡◌ {A = Option Term} None (n w) = sym (at (x ∷ t ∷ y ∷ m ∷ w ∷ []) n other_mail w (inr (inr (inr (inr (inl refl))))) cut) in
    let h = empty ∙ some in cc
bound_early (n, ((l, z, (k, (e, q, none, row, near, d), inr (f, never)), zrow, far, g), held), cut) =
    let v = bound (q x) (((row_meets two_mails (has_kind ∷ []) q row).0 x).1 (inl refl)) in
    let k_is : k ≡ q = d ∙ ap (λ e. merge e q) none in
    let l_x : l x ≡ Some v.0 = (λ i. f i x) ∙ (λ i. k_is i x) ∙ v.1 in
    let is_a : q x ≡ Some a = v.1 ∙ sym ((λ i. g i x) ∙ merge_left l z x v.0 l_x) ∙ at (x ∷ t ∷ y ∷ m ∷ w ∷ []) n other_mail x (inl refl) cut in
    never (merge k extra) (
      extra,
      (nothing, extra, refl, extra_row, (λ v s u h k. cc), refl),
      subst (λ k. Compatible k extra) (sym k_is) (extra_agrees q row is_a),
      tt,
      refl,
    )

pub matters : PlaceMatters
matters = record { filter_too_early = filter_early; filter_in_tree = filter_late; bound_in_tree = bound_late; bound_too_early = bound_early }

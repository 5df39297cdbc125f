-- The worked examples of claims.
use Rattle.bye_pattern.specs.declared.level.Level.TheVariants.{One}
use Rattle.std.proofs.Common.{◌≡◌, refl, Bool, true, [], ◌∷◌, Some, None, ◌⊎◌, inl, inr, ⊎_elim, sym, ◌∙◌, ap, subst, codes}
use Rattle.bye_terms.specs.declared.term.Term.{Term}
use Rattle.bye_terms.specs.declared.term.Term.TheVariants.{Blank}
use Rattle.bye_terms.specs.Terms.{Statement}
use Rattle.bye_terms.specs.Members.{In}
use Rattle.bye_pattern.specs.declared.cond.Cond.{Cond}
use Rattle.bye_pattern.specs.declared.cond.Cond.TheVariants as conds
use Rattle.bye_pattern.specs.declared.slot.Slot.TheVariants.{Var, Const}
use Rattle.bye_table.specs.Mappings.{Name, Mapping, Pairs, Binds, row_mapping, merge}
use Rattle.bye_pattern.specs.Patterns.{Pattern, Meets, slot_under}
use Rattle.bye_pattern.specs.Conditions.{Holds, same_term, same_value}
use Rattle.bye_pattern.specs.Conjuncts.{MeetsCond}
use Rattle.bye_pattern.specs.Classes.{IsClassTriple}
use Rattle.bye_pattern.specs.Common.{IsCommonCond}
use Rattle.bye_table.specs.Domains.{IsSeen, IsWithin, IsBelow, AreAlike}
use Rattle.bye_pattern.specs.Starting.{IsCommonAt, IsCommonCondAt}
use Rattle.bye_pattern.specs.Worked.{x, y, z, w, m, a, b, c, person, kind, knows, text, triple, pattern, is_person, has_mail, linked, both_rows, persons, mailed, some_mails, ClaimsOfNoRoot, ClaimsOfFork, ClaimsOfUncovered, ClaimsOfAdmitted, ClaimsOfExtension}
use Rattle.bye_pattern.specs.Candidates.{of_terms}
use Rattle.bye_table.proofs.Merging.{not_bound as unbound}
use Rattle.bye_pattern.proofs.SameTerms.{terms_same}
use Rattle.bye_pattern.proofs.WorkedTerms.{differ, terms_differ, values_differ, row_exactly, only_name, listed}

abbrev alone : Term → Mapping
alone t = row_mapping ((x, t) ∷ [])

-- a variable is bound in both rows
pub no_root : ClaimsOfNoRoot
no_root = record {
  shows = record { goes = tt; shown = λ v h. differ x y refl (only_name x a v h.0 ∙ sym (only_name y a v h.1.0)) };
  rooted = λ h. h.shown x (refl, (refl, tt));
}

pub not_bound : (v : Name) (row : Pairs) → row_mapping row v ≡ None → Binds (row_mapping row) v → ⊥
not_bound v row e h = unbound (row_mapping row v) e h

pub fork : ClaimsOfFork
fork = record {
  shows = record {
    goes = tt;
    shown = record {
      seen = (_, inr (inr (inl refl)), refl);
      first = ((λ h. refl), ((λ h. absurd (not_bound w ((x, a) ∷ (z, a) ∷ []) refl h)), ((λ h. refl), tt)));
      second = ((λ h. absurd (not_bound w ((x, a) ∷ (y, a) ∷ []) refl h)), ((λ h. refl), ((λ h. refl), tt)));
      first_apart = λ h. not_bound z ((x, a) ∷ (y, a) ∷ []) refl (h.0 refl);
      second_apart = λ h. not_bound y ((x, a) ∷ (z, a) ∷ []) refl (h.1.0 refl);
    };
  };
  nested = λ h. h.shown.second_apart ((λ k. refl), ((λ k. refl), ((λ k. refl), tt)));
}

-- of what the row of a alone meets there is nothing where the object is a blank node
pub uncovered : ClaimsOfUncovered
unfolding of_terms
uncovered = record {
  shows = record {
    goes = tt;
    shown = record {
      seen = (alone a, inl refl, refl);
      none = λ p common h. listed (linked (Blank (codes "k"))) ((x, a) ∷ []) [] p ((refl, refl), ((refl, refl), tt)) common.in_class (common.holds.0 refl) tt;
    };
  };
  covered = λ h. h.shown.none link is_common (inl refl);
}
  where
    link : Pattern
    link = pattern (Var x) (Const knows) (Const c)

    over : (v : Name) → In (x ∷ []) v → IsWithin both_rows x v
    over v h = ⊎_elim (λ e. subst (IsWithin both_rows x) e ((λ k. k), ((λ k. k), tt))) (λ n. absurd n) h

    is_common : IsCommonAt (linked c) both_rows x link
    is_common = record {
      in_class = record { variable = (x, inl refl); subject = tt; predicate = refl; object = refl };
      over = over;
      holds = ((λ k. (_, inl refl, record { s = refl; p = refl; o = refl })), ((λ k. (_, inr (inl refl), record { s = refl; p = refl; o = refl })), tt));
    }

-- what a constant and a variable have in common
holds_same : (row : Pairs) (v : Name) (s t : Term) → row_mapping row v ≡ Some s → Holds (row_mapping row) (conds.SameConst v t) → s ≡ t
holds_same row v s t at h = terms_same s t (some_true (same_term s t) (ap (λ o. same_value o (Some t)) (sym at) ∙ h))
  where
    some_true : (b : Bool) → Some b ≡ Some true → b ≡ true
    some_true b e = cc

in_x : (v : Name) → In (x ∷ []) v → x ≡ v
in_x v h = ⊎_elim (λ e. e) (λ k. absurd k) h

person_class : IsClassTriple (is_person (Var x))
person_class = record { variable = (x, inl refl); subject = tt; predicate = refl; object = refl }

admitted_conditions : (d : Cond) → IsCommonCond One (x ∷ []) both_rows d → MeetsCond (alone c) d
admitted_conditions (conds.Bound v) h =
    subst (λ v. MeetsCond (alone c) (conds.Bound v)) (in_x v (h.over v (inl refl))) ((λ u k. (row_exactly ((x, c) ∷ []) u).1 k), refl)
admitted_conditions (conds.SameVar v u) h = absurd (h.in_class (sym (in_x v (h.over v (inl refl))) ∙ in_x u (h.over u (inr (inl refl)))))
admitted_conditions (conds.KindOf kind v) h = absurd h.in_class
admitted_conditions (conds.SameConst v t) h =
    let at = in_x v (h.over v (inl refl)) in
    let one = subst (λ v. Holds (alone a) (conds.SameConst v t)) (sym at) h.holds.0.1 in
    let other = subst (λ v. Holds (alone b) (conds.SameConst v t)) (sym at) h.holds.1.0.1 in
    absurd (terms_differ a b refl (holds_same ((x, a) ∷ []) x a t refl one ∙ sym (holds_same ((x, b) ∷ []) x b t refl other)))

pub admitted : ClaimsOfAdmitted
unfolding of_terms
admitted = record {
  shows = record {
    goes = tt;
    shown = record {
      domain = x ∷ [];
      same = (row_exactly ((x, a) ∷ []), (row_exactly ((x, b) ∷ []), tt));
      row = alone c;
      row_at = refl;
      of_row = row_exactly ((x, c) ∷ []);
      triples = λ p common. c_meets p (listed (triple c kind person ∷ persons) ((x, a) ∷ []) (((x, a) ∷ []) ∷ ((x, b) ∷ []) ∷ []) p
          ((refl, refl), ((refl, refl), ((refl, refl), tt))) common.in_class common.holds.0 (common.holds.0, (common.holds.1.0, tt)));
      conditions = admitted_conditions;
    };
  };
  kept_away = λ h. away h.shown.row h.shown.row_at (h.shown.triples (is_person (Var x)) (record {
    in_class = person_class;
    over = λ v k. subst (In h.shown.domain) (in_x v k) ((h.shown.same.0 x).0 refl);
    holds = ((_, inl refl, record { s = refl; p = refl; o = refl }), ((_, inr (inl refl), record { s = refl; p = refl; o = refl }), tt));
  }));
}
  where
    c_meets : (p : Pattern) → In (is_person (Var x) ∷ []) p → Meets (triple c kind person ∷ persons) (alone c) p
    c_meets p h = ⊎_elim (λ e. subst (Meets (triple c kind person ∷ persons) (alone c)) e (_, inl refl, record { s = refl; p = refl; o = refl })) (λ k. absurd k) h

    away : (row : Mapping) → alone c ≡ row → Meets persons row (is_person (Var x)) → ⊥
    away row e (f, inl at, is) = values_differ c a refl ((λ i. e i x) ∙ is.s ∙ ap (λ (f : Statement). Some f.s) (sym at))
    away row e (f, inr (inl at), is) = values_differ c b refl ((λ i. e i x) ∙ is.s ∙ ap (λ (f : Statement). Some f.s) (sym at))
    away row e (f, inr (inr k), is) = k

-- the extension
abbrev first_row : Pairs
first_row = (x, a) ∷ (m, text (codes "m1")) ∷ []

abbrev second_row : Pairs
second_row = (x, c) ∷ (m, text (codes "m3")) ∷ []

abbrev third_row : Pairs
third_row = (x, b) ∷ []

abbrev extended : Mapping
extended = merge (row_mapping third_row) (row_mapping ((m, text (codes "m2")) ∷ []))

in_xm : (v : Name) → In (x ∷ m ∷ []) v → (x ≡ v) ⊎ (m ≡ v)
in_xm v (inl e) = inl e
in_xm v (inr (inl e)) = inr e
in_xm v (inr (inr h)) = absurd h

up_m : (v : Name) → IsWithin some_mails m v → (x ≡ v) ⊎ (m ≡ v)
up_m v h = in_xm v ((row_exactly first_row v).0 (h.0 refl))

m_within_x : IsWithin some_mails m x
m_within_x = ((λ h. refl), ((λ h. refl), ((λ h. refl), tt)))

m_within_m : IsWithin some_mails m m
m_within_m = ((λ h. h), ((λ h. h), ((λ h. h), tt)))

x_not_within_m : IsWithin some_mails x m → ⊥
x_not_within_m h = not_bound m third_row refl (h.1.1.0 refl)

seen_xm : (v : Name) → IsSeen some_mails v → (x ≡ v) ⊎ (m ≡ v)
seen_xm v (r, inl e, h) = in_xm v ((row_exactly first_row v).0 (subst (λ (r : Mapping). Binds r v) (sym e) h))
seen_xm v (r, inr (inl e), h) = in_xm v ((row_exactly second_row v).0 (subst (λ (r : Mapping). Binds r v) (sym e) h))
seen_xm v (r, inr (inr (inl e)), h) = inl (only_name x b v (subst (λ (r : Mapping). Binds r v) (sym e) h))
seen_xm v (r, inr (inr (inr k)), h) = absurd k

around : (v : Name) → IsSeen some_mails v → IsBelow some_mails m v → Binds (row_mapping third_row) v
around v seen below =
    ⊎_elim (λ e. subst (Binds (row_mapping third_row)) e refl) (λ e. absurd (below.1 (subst (λ v. IsWithin some_mails v m) e m_within_m))) (seen_xm v seen)

value_binds : (v : Name) → (Binds (row_mapping ((m, text (codes "m2")) ∷ [])) v → AreAlike some_mails m v) × (AreAlike some_mails m v → Binds (row_mapping ((m, text (codes "m2")) ∷ [])) v)
value_binds v = (
  (λ h. subst (AreAlike some_mails m) (only_name m (text (codes "m2")) v h) (m_within_m, m_within_m)),
  (λ h. ⊎_elim
      (λ e. absurd (x_not_within_m (subst (λ v. IsWithin some_mails v m) (sym e) h.1)))
      (λ e. subst (Binds (row_mapping ((m, text (codes "m2")) ∷ []))) e refl)
      (up_m v h.0)),
)

extended_binds : (v : Name) → (x ≡ v) ⊎ (m ≡ v) → Binds extended v
extended_binds v h = ⊎_elim (λ e. subst (Binds extended) e refl) (λ e. subst (Binds extended) e refl) h

extended_conditions : (d : Cond) → IsCommonCondAt One some_mails m d → MeetsCond extended d
extended_conditions (conds.Bound v) h = let at = up_m v (h.over v (inl refl)) in (
  (λ u k. extended_binds u (⊎_elim (λ e. subst (λ u. (x ≡ u) ⊎ (m ≡ u)) e at) (λ n. absurd n) k)),
  ⊎_elim (λ e. subst (λ v. Holds extended (conds.Bound v)) e refl) (λ e. subst (λ v. Holds extended (conds.Bound v)) e refl) at,
)
extended_conditions (conds.SameVar v u) h =
    let held = (h.holds.0 refl).1 in
    absurd (⊎_elim
    (λ i. ⊎_elim
    (λ j. h.in_class (sym i ∙ j))
    (λ j. differ_at (subst (λ u. Holds (row_mapping first_row) (conds.SameVar x u)) (sym j) (subst (λ v. Holds (row_mapping first_row) (conds.SameVar v u)) (sym i) held)))
    (up_m u (h.over u (inr (inl refl)))))
    (λ i. ⊎_elim
    (λ j. differ_back (subst (λ u. Holds (row_mapping first_row) (conds.SameVar m u)) (sym j) (subst (λ v. Holds (row_mapping first_row) (conds.SameVar v u)) (sym i) held)))
    (λ j. h.in_class (sym i ∙ j))
    (up_m u (h.over u (inr (inl refl)))))
    (up_m v (h.over v (inl refl))))
  where
    differ_at : Holds (row_mapping first_row) (conds.SameVar x m) → ⊥
    differ_at k = cc

    differ_back : Holds (row_mapping first_row) (conds.SameVar m x) → ⊥
    differ_back k = cc
extended_conditions (conds.KindOf kind v) h = absurd h.in_class
extended_conditions (conds.SameConst v t) h =
    let one = (h.holds.0 refl).1 in
    let other = (h.holds.1.0 refl).1 in
    absurd (⊎_elim
    (λ i. terms_differ a c refl (
    holds_same first_row x a t refl (subst (λ v. Holds (row_mapping first_row) (conds.SameConst v t)) (sym i) one)
    ∙ sym (holds_same second_row x c t refl (subst (λ v. Holds (row_mapping second_row) (conds.SameConst v t)) (sym i) other))))
    (λ i. terms_differ (text (codes "m1")) (text (codes "m3")) refl (
    holds_same first_row m (text (codes "m1")) t refl (subst (λ v. Holds (row_mapping first_row) (conds.SameConst v t)) (sym i) one)
    ∙ sym (holds_same second_row m (text (codes "m3")) t refl (subst (λ v. Holds (row_mapping second_row) (conds.SameConst v t)) (sym i) other))))
    (up_m v (h.over v (inl refl))))

extended_meets : (p : Pattern) → In (is_person (Var x) ∷ has_mail ∷ []) p → Meets mailed extended p
extended_meets p (inl e) = subst (Meets mailed extended) e (_, inr (inl refl), record { s = refl; p = refl; o = refl })
extended_meets p (inr (inl e)) = subst (Meets mailed extended) e (_, inr (inr (inr (inr (inl refl)))), record { s = refl; p = refl; o = refl })
extended_meets p (inr (inr k)) = absurd k

mail_common : IsCommonAt mailed some_mails m has_mail
mail_common = record {
  in_class = record { variable = (x, inl refl); subject = tt; predicate = refl; object = tt };
  over = λ v h. ⊎_elim (λ e. subst (IsWithin some_mails m) e m_within_x) (λ e. subst (IsWithin some_mails m) e m_within_m) (in_xm v h);
  holds = (
    (λ h. (_, inr (inr (inr (inl refl))), record { s = refl; p = refl; o = refl })),
    ((λ h. (_, inr (inr (inr (inr (inr (inl refl))))), record { s = refl; p = refl; o = refl })), ((λ h. absurd (not_bound m third_row refl h)), tt)),
  );
}

no_such_mail : (f : Statement) → In mailed f → Some (text (codes "m9")) ≡ Some f.o → ⊥
no_such_mail f (inl e) o = values_differ (text (codes "m9")) person refl (o ∙ ap (λ (f : Statement). Some f.o) (sym e))
no_such_mail f (inr (inl e)) o = values_differ (text (codes "m9")) person refl (o ∙ ap (λ (f : Statement). Some f.o) (sym e))
no_such_mail f (inr (inr (inl e))) o = values_differ (text (codes "m9")) person refl (o ∙ ap (λ (f : Statement). Some f.o) (sym e))
no_such_mail f (inr (inr (inr (inl e)))) o = values_differ (text (codes "m9")) (text (codes "m1")) refl (o ∙ ap (λ (f : Statement). Some f.o) (sym e))
no_such_mail f (inr (inr (inr (inr (inl e))))) o = values_differ (text (codes "m9")) (text (codes "m2")) refl (o ∙ ap (λ (f : Statement). Some f.o) (sym e))
no_such_mail f (inr (inr (inr (inr (inr (inl e)))))) o = values_differ (text (codes "m9")) (text (codes "m3")) refl (o ∙ ap (λ (f : Statement). Some f.o) (sym e))
no_such_mail f (inr (inr (inr (inr (inr (inr k)))))) o = k

pub extension : ClaimsOfExtension
unfolding of_terms
extension = record {
  shows = record {
    goes = tt;
    shown = (
      (refl, tt),
      record {
        row = row_mapping third_row;
        place = record {
          seen = (row_mapping first_row, inl refl, refl);
          row_at = refl;
          lacks = not_bound m third_row refl;
          around = around;
          some_around = (x, (row_mapping first_row, inl refl, refl), (m_within_x, x_not_within_m));
        };
        binds = value_binds;
        triples = λ p common. extended_meets p (listed mailed first_row (first_row ∷ second_row ∷ []) p
            ((refl, refl), ((refl, refl), ((refl, refl), ((refl, refl), ((refl, refl), ((refl, refl), tt))))))
            common.in_class (common.holds.0 refl) (common.holds.0 refl, (common.holds.1.0 refl, tt)));
        conditions = extended_conditions;
      },
    );
  };
  other_value = λ h. other h.shown.1.row h.shown.1.place.row_at (h.shown.1.triples has_mail mail_common);
  twice = λ h. bound_twice h.shown.0.0;
}
  where
    bound_twice : row_mapping ((m, text (codes "m9")) ∷ []) m ≡ None → ⊥
    bound_twice e = cc

    other : (row : Mapping) → row_mapping third_row ≡ row → Meets mailed (merge row (row_mapping ((m, text (codes "m9")) ∷ []))) has_mail → ⊥
    other row e (f, at, is) = no_such_mail f at ((λ i. slot_under (merge (e i) (row_mapping ((m, text (codes "m9")) ∷ []))) (Var m)) ∙ is.o)

-- The worked example of a pattern of the outer variable alone that is kept in an OPTIONAL group.
use Rattle.std.proofs.Common.{refl, subst, List, [], ◌∷◌, map, inl, inr, ⊎_elim, sym, ◌∙◌, codes}
use Rattle.bye_table.specs.Mappings.{Binds, Compatible, Mapping, Pairs, row_mapping}
use Rattle.bye_table.proofs.Merging.{binds}
use Rattle.bye_pattern.specs.declared.cond.Cond.{Cond}
use Rattle.bye_pattern.specs.declared.cond.Cond.TheVariants as conds
use Rattle.bye_pattern.specs.declared.level.Level.TheVariants.{One}
use Rattle.bye_pattern.specs.declared.slot.Slot.TheVariants.{Const, Var}
use Rattle.bye_pattern.specs.Algebra.{IsAnswer}
use Rattle.bye_pattern.specs.Candidates.{of_terms}
use Rattle.bye_pattern.specs.Patterns.{Pattern}
use Rattle.bye_pattern.specs.Printed.{root_line}
use Rattle.bye_pattern.specs.Trees.{alg}
use Rattle.bye_pattern.specs.Worked.{a, b, group, has_mail, is_person, m, mail, mails, pattern, text, x}
use Rattle.bye_pattern.proofs.WorkedOptional.{classes}
use Rattle.bye_pattern.proofs.WorkedTerms.{differ, only_name, row_exactly}
use Rattle.bye_laws.specs.Reaching.{NoValues}
use Rattle.bye_laws.specs.Strongest.{IsStrongestNode}
use Rattle.bye_laws.specs.Worked.{OuterPatternsAreKept, is_vip, vip_mailed, wanted_vips}
use Rattle.bye_laws.proofs.AllConjuncts.{cond_shapes, kind_conds, value_conds}
use Rattle.bye_laws.proofs.ByNodes.{answer_by_node}
use Rattle.bye_laws.proofs.WorkedDomains.{seen_names}
use Rattle.bye_laws.proofs.WorkedLists.{strongest_listed}
use Rattle.bye_laws.proofs.WorkedNested.{AreNestedRows, AreStartLists, IsRightStart, nested_kept, nested_right, nested_start, rows_that_bind, shut}

-- the rows of the table
abbrev row_a : Pairs
row_a = (x, a) ∷ (m, text (codes "m1")) ∷ []

abbrev row_b : Pairs
row_b = (x, b) ∷ []

abbrev rows : List Pairs
rows = row_a ∷ row_b ∷ []

nested : AreNestedRows wanted_vips.rows x m
nested = record {
  examples = record {
    once = ((λ h. ⊎_elim (λ e. differ m x refl e) (λ n. n) h), ((λ h. h), tt));
    within = seen_names (x ∷ m ∷ []) rows ((inl refl, (inr (inl refl), tt)), ((inl refl, tt), tt));
    some = λ e. cc;
  };
  root = (refl, (refl, tt));
  seen = (row_mapping row_a, inl refl, refl);
  apart = λ h. let k = h.1.0 refl in cc;
}

-- the lists of the child
abbrev a_has_mail : Pattern
a_has_mail = pattern (Const a) (Const mail) (Var m)

abbrev has_mail_of_a : Pattern
has_mail_of_a = pattern (Var x) (Const mail) (Const (text (codes "m1")))

abbrev child_patterns : List Pattern
child_patterns = a_has_mail ∷ has_mail_of_a ∷ is_person (Var x) ∷ is_vip ∷ has_mail ∷ []

abbrev child_conditions : List Cond
child_conditions = conds.Bound x ∷ conds.Bound m ∷ conds.SameConst x a ∷ conds.SameConst m (text (codes "m1")) ∷ []

root_lists : IsStrongestNode One vip_mailed (x ∷ []) wanted_vips.rows (is_person (Var x) ∷ []) (conds.Bound x ∷ [])
unfolding of_terms cond_shapes value_conds kind_conds
root_lists = strongest_listed One vip_mailed (x ∷ []) row_b rows (is_person (Var x) ∷ []) (conds.Bound x ∷ []) (inr (inl refl))
    ((refl, refl), ((refl, refl), ((refl, refl), ((refl, refl), ((refl, refl), tt))))) (refl, tt) ((λ h. h), tt) (row_exactly row_b)
    (inl refl, tt) (inl refl, tt) (tt, tt) (inl refl, tt) (inl refl, tt) (tt, tt)

-- in the graph's order the common patterns are: is_vip, a_has_mail, has_mail_of_a, has_mail, is_person
child_lists : IsStrongestNode One vip_mailed (x ∷ m ∷ []) (map row_mapping (row_a ∷ [])) child_patterns child_conditions
unfolding of_terms cond_shapes value_conds kind_conds root_line lib.Utf8.encode
child_lists = strongest_listed One vip_mailed (x ∷ m ∷ []) row_a (row_a ∷ []) child_patterns child_conditions (inl refl)
    ((refl, refl), ((refl, refl), ((refl, refl), ((refl, refl), ((refl, refl), tt))))) (refl, (refl, tt)) nested.examples.once (row_exactly row_a)
    (inr (inl refl), (inr (inr (inl refl)), (inr (inr (inr (inr (inl refl)))), (inl refl, (inr (inr (inr (inl refl))), tt)))))
    (inr (inr (inr (inl refl))), (inl refl, (inr (inl refl), (inr (inr (inr (inr (inl refl)))), (inr (inr (inl refl)), tt)))))
    ((refl, (refl, (refl, (refl, tt)))), ((refl, (refl, (refl, tt))), ((refl, (refl, tt)), ((refl, tt), (tt, tt)))))
    (inl refl, (inr (inl refl), (inr (inr (inl refl)), (inr (inr (inr (inl refl))), tt))))
    (inl refl, (inr (inl refl), (inr (inr (inl refl)), (inr (inr (inr (inl refl))), tt))))
    ((inl (refl, inl refl), (tt, (tt, tt))), ((tt, (tt, tt)), ((inl (refl, inl refl), tt), (tt, tt))))

lists : AreStartLists One vip_mailed wanted_vips.rows x m (is_person (Var x) ∷ []) child_patterns (conds.Bound x ∷ []) child_conditions
lists = record { nested = nested; others = map row_mapping (row_a ∷ []); binding = rows_that_bind rows m; root = root_lists; child = child_lists }

-- b is no VIP
right_start : IsRightStart One vip_mailed wanted_vips.rows x m (is_person (Var x) ∷ []) child_patterns (conds.Bound x ∷ []) child_conditions
right_start = record { lists = lists; root = inl refl; child = inl refl; shut = shut vip_mailed rows x m child_patterns child_conditions refl }

-- but has mail
values : Mapping
values = row_mapping ((m, text (codes "m2")) ∷ [])

has_values : NoValues vip_mailed (row_mapping row_b) (group (has_mail ∷ [])) → ⊥
unfolding values
has_values h = h values (λ v k. inr (inl (only_name m (text (codes "m2")) v k))) agree (((_, inr (inr (inl refl)), record { s = refl; p = refl; o = refl }), tt), tt)
  where
    agree : Compatible (row_mapping row_b) values
    agree v s t d e = absurd (differ x m refl (only_name x b v (binds (row_mapping row_b v) s d) ∙ sym (only_name m (text (codes "m2")) v (binds (values v) t e))))

-- so without the pattern the OPTIONAL group gives it
needed : IsAnswer vip_mailed mails.vars (alg mails) (row_mapping row_b) → ⊥
needed answer = has_values ((answer_by_node One vip_mailed mails wanted_vips.rows (row_mapping row_b) classes.right.in_class (inr (inl refl)) answer).none
    [] mails.tree (group (has_mail ∷ [])) (inl (refl, refl)) (inl refl)
    (λ v new. ⊎_elim (λ e. subst (Binds (row_mapping row_b)) e refl) (λ k. absurd k) new.0)
    (λ all. let k = all m (inr (inl refl), λ h. ⊎_elim (λ e. differ x m refl e) (λ n. n) h) in cc))

pub vips_kept : OuterPatternsAreKept
vips_kept = record {
  begun = nested_start One vip_mailed wanted_vips.rows x m (is_person (Var x) ∷ []) child_patterns (conds.Bound x ∷ []) child_conditions lists;
  right = nested_right One vip_mailed wanted_vips.rows x m (is_person (Var x) ∷ []) child_patterns (conds.Bound x ∷ []) child_conditions right_start;
  kept = nested_kept One vip_mailed wanted_vips.rows x m (is_person (Var x)) child_patterns (is_vip ∷ has_mail ∷ []) (conds.Bound x ∷ []) child_conditions right_start
      (inl (
        shut vip_mailed rows x m child_patterns (conds.Bound m ∷ conds.SameConst x a ∷ conds.SameConst m (text (codes "m1")) ∷ []) refl,
        inl (
          shut vip_mailed rows x m child_patterns (conds.SameConst x a ∷ conds.SameConst m (text (codes "m1")) ∷ []) refl,
          inl (
            shut vip_mailed rows x m child_patterns (conds.SameConst m (text (codes "m1")) ∷ []) refl,
            inl (shut vip_mailed rows x m child_patterns [] refl, refl),
          ),
        ),
      ))
      (inl (
        (inr (inr (inr (inr (inl refl)))), shut vip_mailed rows x m (has_mail_of_a ∷ is_person (Var x) ∷ is_vip ∷ has_mail ∷ []) [] refl),
        inl (
          (inr (inr (inr (inl refl))), shut vip_mailed rows x m (is_person (Var x) ∷ is_vip ∷ has_mail ∷ []) [] refl),
          inl (
            (inr (inr (inl refl)), shut vip_mailed rows x m (is_vip ∷ has_mail ∷ []) [] refl),
            inr ((λ h. has_values (h.1.1.0 refl (λ k. cc))), (has_mail ∷ [], inr ((λ h. ⊎_elim (λ e. differ x m refl e) (λ n. n) h.0), ([], refl, refl)), refl)),
          ),
        ),
      ));
  written = refl;
  needed = needed;
}

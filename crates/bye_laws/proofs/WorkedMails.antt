-- The worked example of a query with an OPTIONAL group that is kept.
use Rattle.std.proofs.Common.{refl, List, [], ◌∷◌, map, inl, inr, ⊎_elim, codes}
use Rattle.bye_table.specs.Mappings.{Pairs, row_mapping}
use Rattle.bye_pattern.specs.declared.class.Class.TheVariants.{Optional}
use Rattle.bye_pattern.specs.declared.cond.Cond.{Cond}
use Rattle.bye_pattern.specs.declared.cond.Cond.TheVariants as conds
use Rattle.bye_pattern.specs.declared.level.Level.TheVariants.{One}
use Rattle.bye_pattern.specs.declared.slot.Slot.TheVariants.{Var}
use Rattle.bye_pattern.specs.Candidates.{of_terms}
use Rattle.bye_pattern.specs.Certificates.{Extension}
use Rattle.bye_pattern.specs.Patterns.{Pattern}
use Rattle.bye_pattern.specs.Printed.{root_line}
use Rattle.bye_pattern.specs.Worked.{a, b, c, has_mail, is_person, m, mailed, some_mails, text, x}
use Rattle.bye_pattern.proofs.WorkedClaims.{extension}
use Rattle.bye_pattern.proofs.WorkedTerms.{differ, row_exactly}
use Rattle.bye_laws.specs.Strongest.{IsStrongestNode}
use Rattle.bye_laws.specs.Worked.{MailsAreKept, some_mailed, wanted_mails}
use Rattle.bye_laws.proofs.AllConjuncts.{cond_shapes, kind_conds, value_conds}
use Rattle.bye_laws.proofs.BothClasses.{certificates_sound}
use Rattle.bye_laws.proofs.WorkedDomains.{seen_names}
use Rattle.bye_laws.proofs.WorkedLists.{strongest_listed}
use Rattle.bye_laws.proofs.WorkedNested.{AreNestedRows, AreStartLists, IsRightStart, nested_kept, nested_right, nested_start, rows_that_bind, shut}

-- the rows of the table
abbrev row_a : Pairs
row_a = (x, a) ∷ (m, text (codes "m1")) ∷ []

abbrev row_c : Pairs
row_c = (x, c) ∷ (m, text (codes "m3")) ∷ []

abbrev row_b : Pairs
row_b = (x, b) ∷ []

abbrev rows : List Pairs
rows = row_a ∷ row_c ∷ row_b ∷ []

-- every row binds x, and not all bind m
nested : AreNestedRows some_mails x m
nested = record {
  examples = record {
    once = ((λ h. ⊎_elim (λ e. differ m x refl e) (λ n. n) h), ((λ h. h), tt));
    within = seen_names (x ∷ m ∷ []) rows ((inl refl, (inr (inl refl), tt)), ((inl refl, (inr (inl refl), tt)), ((inl refl, tt), tt)));
    some = λ e. cc;
  };
  root = (refl, (refl, (refl, tt)));
  seen = (row_mapping row_a, inl refl, refl);
  apart = λ h. let k = h.1.1.0 refl in cc;
}

-- the lists of the two nodes
abbrev child_patterns : List Pattern
child_patterns = is_person (Var x) ∷ has_mail ∷ []

abbrev child_conditions : List Cond
child_conditions = conds.Bound x ∷ conds.Bound m ∷ []

root_lists : IsStrongestNode One some_mailed (x ∷ []) some_mails (is_person (Var x) ∷ []) (conds.Bound x ∷ [])
unfolding of_terms cond_shapes value_conds kind_conds
root_lists = strongest_listed One some_mailed (x ∷ []) row_b rows (is_person (Var x) ∷ []) (conds.Bound x ∷ []) (inr (inr (inl refl)))
    ((refl, refl), ((refl, refl), ((refl, refl), ((refl, refl), ((refl, refl), tt))))) (refl, tt) ((λ h. h), tt) (row_exactly row_b)
    (inl refl, tt) (inl refl, tt) (tt, tt) (inl refl, tt) (inl refl, tt) (tt, tt)

child_lists : IsStrongestNode One some_mailed (x ∷ m ∷ []) (map row_mapping (row_a ∷ row_c ∷ [])) child_patterns child_conditions
unfolding of_terms cond_shapes value_conds kind_conds root_line lib.Utf8.encode
child_lists = strongest_listed One some_mailed (x ∷ m ∷ []) row_a (row_a ∷ row_c ∷ []) child_patterns child_conditions (inl refl)
    ((refl, refl), ((refl, refl), ((refl, refl), ((refl, refl), ((refl, refl), tt))))) (refl, (refl, tt)) nested.examples.once (row_exactly row_a)
    (inr (inl refl), (inl refl, tt)) (inr (inl refl), (inl refl, tt)) ((refl, tt), (tt, tt))
    (inl refl, (inr (inl refl), tt)) (inl refl, (inr (inl refl), tt)) ((inl (refl, inl refl), tt), (tt, tt))

lists : AreStartLists One some_mailed some_mails x m (is_person (Var x) ∷ []) child_patterns (conds.Bound x ∷ []) child_conditions
lists = record { nested = nested; others = map row_mapping (row_a ∷ row_c ∷ []); binding = rows_that_bind rows m; root = root_lists; child = child_lists }

-- b has no mail, so it is right
right_start : IsRightStart One some_mailed some_mails x m (is_person (Var x) ∷ []) child_patterns (conds.Bound x ∷ []) child_conditions
right_start = record { lists = lists; root = inl refl; child = inr (inr (inl refl)); shut = shut some_mailed rows x m child_patterns child_conditions refl }

pub mails_kept : MailsAreKept
mails_kept = record {
  begun = nested_start One some_mailed some_mails x m (is_person (Var x) ∷ []) child_patterns (conds.Bound x ∷ []) child_conditions lists;
  right = nested_right One some_mailed some_mails x m (is_person (Var x) ∷ []) child_patterns (conds.Bound x ∷ []) child_conditions right_start;
  kept = nested_kept One some_mailed some_mails x m (is_person (Var x)) child_patterns (has_mail ∷ []) (conds.Bound x ∷ []) child_conditions right_start
      (inl (shut some_mailed rows x m child_patterns (conds.Bound m ∷ []) refl, inl (shut some_mailed rows x m child_patterns [] refl, refl)))
      (inl ((inr (inl refl), shut some_mailed rows x m (has_mail ∷ []) [] refl), inr ((λ h. h.0), ([], refl, refl))));
  none = certificates_sound mailed wanted_mails [] (record { level = One; class = Optional; claim = Extension 3 m ((m, text (codes "m2")) ∷ []) }) nested.examples extension.shows;
}

-- Common conditions: one of a start node stands for each, and of two variables the first in the table stands first.
use Rattle.bye_pattern.specs.declared.level.Level.{Level}
use Rattle.std.proofs.Common.{◌≡◌, refl, Bool, true, false, List, Option, Some, None, inl, inr, ⊎_elim, sym, ◌∙◌, ap, ◌↔◌}
use Rattle.bye_terms.specs.declared.term.Term.{Term}
use Rattle.bye_terms.specs.Members.{In}
use Rattle.bye_terms.specs.Terms.{Statement}
use Rattle.bye_terms.proofs.Members.{all_from, all_in}
use Rattle.bye_pattern.specs.declared.cond.Cond.{Cond}
use Rattle.bye_pattern.specs.Conditions.{same_term, same_value}
use Rattle.bye_pattern.specs.Conjuncts.{MeetsCond}
use Rattle.bye_table.specs.Domains.{IsWithin}
use Rattle.bye_table.specs.Mappings.{Binds, Mapping, Name}
use Rattle.bye_pattern.specs.Patterns.{Meets, Pattern, vars}
use Rattle.bye_pattern.specs.Starting.{IsCommonAt, IsCommonCondAt, IsInForm}
use Rattle.bye_pattern.proofs.SameTerms.{same_self, terms_same}
use Rattle.bye_laws.proofs.Examples.{before_or}
use Rattle.bye_laws.proofs.Withins.{within_row, within_trans}
use Rattle.bye_pattern.specs.declared.cond.Cond.TheVariants as conds

-- tests that follow from one another are the same
same_by : (b c : Bool) → (b ≡ true → c ≡ true) → (c ≡ true → b ≡ true) → b ≡ c
same_by true c f g = sym (f refl)
same_by false true f g = g refl
same_by false false f g = refl

-- terms are the same either way round
term_sym : (s t : Term) → same_term s t ≡ same_term t s
term_sym s t = same_by _ _
    (λ e. ap (same_term t) (terms_same s t e) ∙ same_self t)
    (λ e. ap (same_term s) (terms_same t s e) ∙ same_self s)

-- so are values
value_sym : (o p : Option Term) → same_value o p ≡ same_value p o
value_sym None None = refl
value_sym None (Some t) = refl
value_sym (Some s) None = refl
value_sym (Some s) (Some t) = ap Some (term_sym s t)

-- a condition of two variables says the same the other way round
pub meets_sym : (v w : Name) (m : Mapping) → MeetsCond m (conds.SameVar v w) → MeetsCond m (conds.SameVar w v)
meets_sym v w m h = (
  (λ u k. ⊎_elim (λ e. h.0 u (inr (inl e))) (λ k. ⊎_elim (λ e. h.0 u (inl e)) (λ n. absurd n) k) k),
  value_sym (m w) (m v) ∙ h.1,
)

-- each common condition at x has one in form that says the same
pub in_form : (level : Level) → (vars : List Name) (rows : List Mapping) (x : Name) → ((v : Name) → IsWithin rows x v → In vars v) → (cs : List Cond)
    → ((c : Cond) → In cs c ↔ (IsCommonCondAt level rows x c × IsInForm vars c)) → (c : Cond) → IsCommonCondAt level rows x c
    → (d : Cond) × In cs d × ((m : Mapping) → MeetsCond m d → MeetsCond m c)
in_form level vars rows x inside cs same (conds.Bound v) common = (conds.Bound v, (same (conds.Bound v)).1 (common, tt), λ m h. h)
in_form level vars rows x inside cs same (conds.SameConst v t) common = (conds.SameConst v t, (same (conds.SameConst v t)).1 (common, tt), λ m h. h)
in_form level vars rows x inside cs same (conds.KindOf kind v) common = (conds.KindOf kind v, (same (conds.KindOf kind v)).1 (common, tt), λ m h. h)
in_form level vars rows x inside cs same (conds.SameVar v w) common =
    ⊎_elim
    (λ b. (conds.SameVar v w, (same (conds.SameVar v w)).1 (common, b), λ m h. h))
    (λ b. (conds.SameVar w v, (same (conds.SameVar w v)).1 (turned, b), λ m h. meets_sym w v m h))
    (before_or vars v w (inside v (common.over v (inl refl))) (inside w (common.over w (inr (inl refl)))) common.in_class)
  where
    turned : IsCommonCondAt level rows x (conds.SameVar w v)
    turned = record {
      in_class = λ e. common.in_class (sym e);
      over = λ u h. ⊎_elim (λ e. common.over u (inr (inl e))) (λ h. ⊎_elim (λ e. common.over u (inl e)) (λ n. absurd n) h) h;
      holds = all_from (λ m. Binds m x → MeetsCond m (conds.SameVar w v)) rows (λ m h k.
          meets_sym v w m (all_in (λ m. Binds m x → MeetsCond m (conds.SameVar v w)) rows m common.holds h k));
    }

-- what is common at a greater domain is common at a smaller one
pub lower : (g : List Statement) (rows : List Mapping) (x v : Name) (p : Pattern) → IsWithin rows x v → IsCommonAt g rows v p → IsCommonAt g rows x p
lower g rows x v p up common = record {
  in_class = common.in_class;
  over = λ w h. within_trans rows x v w up (common.over w h);
  holds = all_from (λ m. Binds m x → Meets g m p) rows (λ m row b. all_in (λ m. Binds m v → Meets g m p) rows m common.holds row (within_row rows m x v row up b));
}

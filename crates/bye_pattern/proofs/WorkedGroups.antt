-- The worked examples of written queries.
use Rattle.std.proofs.Common.{◌≡◌, refl, Bool, true, false, cond, List, [], ◌∷◌, ◌++◌, Option, Some, inl, inr, ⊎_elim, sym, ◌∙◌, ap, subst}
use Rattle.std.specs.Str.{bytes_eq}
use Rattle.bye_terms.specs.declared.term.Term.{Term}
use Rattle.bye_terms.specs.Members.{In}
use Rattle.bye_table.specs.Mappings.{Compatible, Mapping, Name, Pairs, first_of, merge, nothing, restrict, row_mapping}
use Rattle.bye_table.proofs.Merging.{binds, restrict_within}
use Rattle.bye_pattern.specs.declared.cond.Cond.{Cond}
use Rattle.bye_pattern.specs.declared.cond.Cond.TheVariants as conds
use Rattle.bye_pattern.specs.declared.rule.Rule.{Rule}
use Rattle.bye_pattern.specs.declared.rule.Rule.TheVariants.{NoNewVariable, NoTriples, NotWellDesigned, UnsafeCondition}
use Rattle.bye_pattern.specs.declared.slot.Slot.TheVariants.{Const, Var}
use Rattle.bye_pattern.specs.Patterns.{Pattern}
use Rattle.bye_pattern.specs.Algebra.{IsBgpRow}
use Rattle.bye_pattern.specs.Designed.{Keeps}
use Rattle.bye_pattern.specs.Worked.{a, b, has_mail, knows, m, mail, pattern, people, person, w, x, y}
use Rattle.bye_pattern.specs.WorkedWritten.{BlocksAfterOptionals, RulesByPlace, SplitFilters, has_kind, t, without_mail}
use Rattle.bye_pattern.proofs.OneGroup.{root_rules}
use Rattle.bye_pattern.proofs.Solutions.{meets_row, row_meets}
use Rattle.bye_pattern.proofs.WorkedAnswers.{m1, mail_of_a}
use Rattle.bye_pattern.proofs.WorkedTerms.{differ, only_name, row_exactly, values_differ}

-- a row of two parts is their merge
first_then : (h : Bool) (u : Term) (o p : Option Term) → cond h (Some u) (first_of o p) ≡ first_of (cond h (Some u) o) p
first_then true u o p = refl
first_then false u o p = refl

pub parts_merge : (r s : Pairs) (v : Name) → row_mapping (r ++ s) v ≡ merge (row_mapping r) (row_mapping s) v
parts_merge [] s v = refl
parts_merge (e ∷ r) s v = ap (cond (bytes_eq e.0 v) (Some e.1)) (parts_merge r s v) ∙ first_then (bytes_eq e.0 v) e.1 (row_mapping r v) (row_mapping s v)

abbrev pub mail_m1 : Pattern
mail_m1 = pattern (Var y) (Const mail) (Const m1)

abbrev b_kind : Mapping
b_kind = row_mapping ((x, b) ∷ (t, person) ∷ [])

-- b is a person, and a has the mail address
b_has_kind : IsBgpRow people (has_kind ∷ []) b_kind
b_has_kind = meets_row people (has_kind ∷ []) b_kind (row_exactly ((x, b) ∷ (t, person) ∷ [])) ((_, inr (inl refl), record { s = refl; p = refl; o = refl }), tt)

pub a_has_m1 : IsBgpRow people (mail_m1 ∷ []) (row_mapping ((y, a) ∷ []))
a_has_m1 = meets_row people (mail_m1 ∷ []) (row_mapping ((y, a) ∷ [])) (row_exactly ((y, a) ∷ [])) ((_, inr (inr (inl refl)), record { s = refl; p = refl; o = refl }), tt)

both : IsBgpRow people (has_kind ∷ mail_m1 ∷ []) without_mail
both = meets_row people (has_kind ∷ mail_m1 ∷ []) without_mail (row_exactly ((x, b) ∷ (t, person) ∷ (y, a) ∷ []))
    ((_, inr (inl refl), record { s = refl; p = refl; o = refl }), ((_, inr (inr (inl refl)), record { s = refl; p = refl; o = refl }), tt))

-- b has no mail address
no_mail : (n r : Mapping) → n x ≡ Some b → IsBgpRow people (has_mail ∷ []) r → Compatible n r → ⊥
no_mail n r is_b row same =
    let met = (row_meets people (has_mail ∷ []) r row).1.0 in
    let is_a : r x ≡ Some a = met.2.s ∙ ap Some (sym (mail_of_a met.0 met.1 met.2.p)) in
    values_differ b a refl (ap Some (same x b a is_b is_a))

-- the two parts of the row bind different variables
pub not_y : (v : Name) → In (x ∷ t ∷ []) v → y ≡ v → ⊥
not_y v (inl e) h = differ x y refl (e ∙ sym h)
not_y v (inr (inl e)) h = differ t y refl (e ∙ sym h)
not_y v (inr (inr k)) h = k

apart : Compatible b_kind (row_mapping ((y, a) ∷ []))
apart v s u h k = absurd (not_y v ((row_exactly ((x, b) ∷ (t, person) ∷ []) v).0 (binds (b_kind v) s h)) (only_name y a v (binds (row_mapping ((y, a) ∷ []) v) u k)))

-- what is selected
in_all : (v : Name) → In (x ∷ t ∷ y ∷ []) v → In (x ∷ t ∷ y ∷ m ∷ []) v
in_all v (inl e) = inl e
in_all v (inr (inl e)) = inr (inl e)
in_all v (inr (inr (inl e))) = inr (inr (inl e))
in_all v (inr (inr (inr k))) = absurd k

whole : without_mail ≡ restrict (x ∷ t ∷ y ∷ m ∷ []) without_mail
whole = restrict_within (x ∷ t ∷ y ∷ m ∷ []) without_mail (λ v h. in_all v ((row_exactly ((x, b) ∷ (t, person) ∷ (y, a) ∷ []) v).0 h))

-- the OPTIONAL brings a variable that no block of its parent has
pub no_m : In (x ∷ t ∷ y ∷ []) m → ⊥
no_m (inl e) = differ x m refl e
no_m (inr (inl e)) = differ t m refl e
no_m (inr (inr (inl e))) = differ y m refl e
no_m (inr (inr (inr k))) = k

early_x : (v : Name) → In (x ∷ m ∷ []) v → In (x ∷ t ∷ y ∷ []) v → In (x ∷ t ∷ []) v
early_x v (inl e) above = inl e
early_x v (inr (inl e)) above = absurd (no_m (subst (In (x ∷ t ∷ y ∷ [])) (sym e) above))
early_x v (inr (inr k)) above = absurd k

new_m : Keeps [] (x ∷ t ∷ y ∷ []) [] (has_mail ∷ []) [] NoNewVariable
new_m = (m, (inr (inl refl), no_m))

mail_rules : (cs : List Cond) → Keeps (x ∷ t ∷ []) (x ∷ t ∷ y ∷ []) [] (has_mail ∷ []) cs UnsafeCondition → (rule : Rule) → Keeps (x ∷ t ∷ []) (x ∷ t ∷ y ∷ []) [] (has_mail ∷ []) cs rule
mail_rules cs safe NoTriples = λ e. cc
mail_rules cs safe NoNewVariable = new_m
mail_rules cs safe NotWellDesigned = (early_x, λ v new k. k)
mail_rules cs safe UnsafeCondition = safe

root : (o : Pattern) (rule : Rule) → Keeps [] [] [] (has_kind ∷ o ∷ []) [] rule
root o = root_rules (has_kind ∷ o ∷ []) [] x (inl refl) tt

pub blocks : BlocksAfterOptionals
blocks = record {
  designed = record { root = root mail_m1; below = (mail_rules [] tt, tt, tt) };
  tree = refl;
  vars = refl;
  as_written = (
    without_mail,
    (
      (
        b_kind,
        row_mapping ((y, a) ∷ []),
        (
          b_kind,
          (nothing, b_kind, refl, b_has_kind, (λ v s u h k. cc), refl),
          inr (refl, λ n (o, (e, r, none, row, near, d), same, hold, f). no_mail b_kind r refl row (subst (Compatible b_kind) (d ∙ ap (λ e. merge e r) none) same)),
        ),
        a_has_m1,
        apart,
        λ i v. parts_merge ((x, b) ∷ (t, person) ∷ []) ((y, a) ∷ []) v i,
      ),
      tt,
    ),
    whole,
  );
  as_tree = (without_mail, ((without_mail, both, inr (refl, λ n (r, row, same, hold, e). no_mail without_mail r refl row same)), tt), whole);
}

-- the rules for the trees, where all of the parent's triples are seen
tree_rules : (rule : Rule) → Keeps (x ∷ t ∷ y ∷ []) (x ∷ t ∷ y ∷ []) [] (has_mail ∷ []) (conds.Bound y ∷ []) rule
tree_rules NoTriples = λ e. cc
tree_rules NoNewVariable = new_m
tree_rules NotWellDesigned = ((λ v h above. above), λ v new k. k)
tree_rules UnsafeCondition = ((λ v h. inr (inr (inr h))), tt)

pub no_w : In (x ∷ t ∷ y ∷ m ∷ []) w → ⊥
no_w (inl e) = differ x w refl e
no_w (inr (inl e)) = differ t w refl e
no_w (inr (inr (inl e))) = differ y w refl e
no_w (inr (inr (inr (inl e)))) = differ m w refl e
no_w (inr (inr (inr (inr k)))) = k

abbrev pub two : List Pattern
two = has_mail ∷ pattern (Var x) (Const knows) (Var w) ∷ []

new_w : Keeps [] (x ∷ t ∷ y ∷ m ∷ []) [] two [] NoNewVariable
new_w = (w, (inr (inr (inr (inl refl))), no_w))

again_rules : (rule : Rule) → Keeps (x ∷ t ∷ y ∷ m ∷ []) (x ∷ t ∷ y ∷ m ∷ []) [] two [] rule
again_rules NoTriples = λ e. cc
again_rules NoNewVariable = new_w
again_rules NotWellDesigned = ((λ v h above. above), λ v new k. k)
again_rules UnsafeCondition = tt

pub by_place : RulesByPlace
by_place = record {
  unsafe_tree = (root mail_m1, ((tree_rules, tt), tt));
  unsafe = inr (root mail_m1, inl ([], refl, inl (refl, inr ((λ e. cc), inr (new_m, inr ((early_x, λ v new k. k), inl (refl, unseen)))))));
  designed_tree = (root (pattern (Var y) (Const mail) (Var m)), ((again_rules, tt), tt));
  not_designed = inr (root (pattern (Var y) (Const mail) (Var m)), inl ([], refl, inl (refl, inr ((λ e. cc), inr (new_w, inl (refl, late))))));
}
  where
    unseen : Keeps (x ∷ t ∷ []) (x ∷ t ∷ y ∷ []) [] (has_mail ∷ []) (conds.Bound y ∷ []) UnsafeCondition → ⊥
    unseen h = ⊎_elim
        (λ k. ⊎_elim (differ x y refl) (λ k. ⊎_elim (differ m y refl) (λ n. n) k) k)
        (λ k. ⊎_elim (differ x y refl) (λ k. ⊎_elim (differ t y refl) (λ n. n) k) k)
        (h.0 y (inl refl))

    late : Keeps (x ∷ t ∷ []) (x ∷ t ∷ y ∷ m ∷ []) [] two [] NotWellDesigned → ⊥
    late h = ⊎_elim (differ x m refl) (λ k. ⊎_elim (differ t m refl) (λ n. n) k) (h.0 m (inr (inl refl)) (inr (inr (inr (inl refl)))))

pub splits : SplitFilters
splits = record { tree = refl; outer = refl }

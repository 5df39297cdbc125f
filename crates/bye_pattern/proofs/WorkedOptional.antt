-- The worked examples of written texts and of the class with OPTIONAL groups.
use Rattle.bye_pattern.specs.declared.level.Level.TheVariants.{One}
use Rattle.std.proofs.Common.{◌≡◌, refl, List, [], ◌∷◌, ◌⊎◌, inl, inr, ⊎_elim, sym, ◌∙◌, subst, codes, ◌↔◌}
use Rattle.bye_terms.specs.Members.{In}
use Rattle.std.specs.List.{AllByRecursion}
use Rattle.bye_table.specs.Mappings.{Name, Mapping, Binds, row_mapping}
use Rattle.bye_pattern.specs.Classes.{IsClassTriple, IsClassCond}
use Rattle.bye_pattern.specs.Trees.{Tree, own_triples, own_conds}
use Rattle.bye_table.specs.Domains.{IsSeen, IsWithin, IsBelow, AreAlike, BindsEach}
use Rattle.bye_pattern.specs.Optional.{IsNode, IsAncestor, IsNewAt, HasClass, InOptional}
use Rattle.bye_pattern.specs.Worked.{x, m, a, b, text, group, has_mail, mails, mail_row, WrittenTexts, OptionalClasses}
use Rattle.bye_pattern.proofs.WorkedTerms.{differ, row_exactly, only_name}
use Rattle.bye_pattern.proofs.WorkedAnswers.{optional, designed}
use Rattle.bye_pattern.proofs.WorkedClaims.{not_bound}

pub written : WrittenTexts
written = record { optional = refl; filtered = refl }

abbrev rows : List Mapping
rows = mail_row ∷ row_mapping ((x, b) ∷ []) ∷ []

-- the two nodes
abbrev inner : Tree
inner = group (has_mail ∷ [])

two_nodes : (P : List Name → Tree → Type 0) → P [] mails.tree → P (x ∷ []) inner → (p : List Name) (u : Tree) → IsNode [] mails.tree p u → P p u
two_nodes P root below p u (inl (e, f)) = subst (λ u. P p u) (sym f) (subst (λ p. P p mails.tree) (sym e) root)
two_nodes P root below p u (inr (inl (inl (e, f)))) = subst (λ u. P p u) (sym f) (subst (λ p. P p inner) (sym e) below)
two_nodes P root below p u (inr (inl (inr k))) = absurd k
two_nodes P root below p u (inr (inr k)) = absurd k

in_x : (v : Name) → In (x ∷ []) v → x ≡ v
in_x v h = ⊎_elim (λ e. e) (λ k. absurd k) h

in_xm : (v : Name) → In (x ∷ m ∷ []) v → (x ≡ v) ⊎ (m ≡ v)
in_xm v (inl e) = inl e
in_xm v (inr (inl e)) = inr e
in_xm v (inr (inr k)) = absurd k

of_mail_row : (v : Name) → Binds mail_row v → (x ≡ v) ⊎ (m ≡ v)
of_mail_row v h = in_xm v ((row_exactly ((x, a) ∷ (m, text (codes "m1")) ∷ []) v).0 h)

x_alike : AreAlike rows x x
x_alike = (((λ h. h), ((λ h. h), tt)), ((λ h. h), ((λ h. h), tt)))

m_alike : AreAlike rows m m
m_alike = (((λ h. h), ((λ h. h), tt)), ((λ h. h), ((λ h. h), tt)))

x_not_in_m : IsWithin rows x m → ⊥
x_not_in_m h = not_bound m ((x, b) ∷ []) refl (h.1.0 refl)

m_in_x : IsWithin rows m x
m_in_x = ((λ h. refl), ((λ h. refl), tt))

-- what is new at each
new_root : (v : Name) → IsNewAt [] mails.tree v → x ≡ v
new_root v new = in_x v new.0

new_inner : (v : Name) → IsNewAt (x ∷ []) inner v → m ≡ v
new_inner v new = ⊎_elim (λ e. absurd (new.1 (inl e))) (λ e. e) (in_xm v new.0)

m_new : IsNewAt (x ∷ []) inner m
m_new = (inr (inl refl), λ h. differ x m refl (in_x m h))

root_class : HasClass rows [] mails.tree x
root_class = (
  (mail_row, inl refl, refl),
  λ v. (
    (λ new. subst (AreAlike rows x) (new_root v new) x_alike),
    (λ same. ⊎_elim
        (λ e. subst (IsNewAt [] mails.tree) e (inl refl, λ k. k))
        (λ e. absurd (x_not_in_m (subst (IsWithin rows x) (sym e) same.0)))
        (of_mail_row v (same.0.0 refl))),
  ),
)

inner_class : HasClass rows (x ∷ []) inner m
inner_class = (
  (mail_row, inl refl, refl),
  λ v. (
    (λ new. subst (AreAlike rows m) (new_inner v new) m_alike),
    (λ same. ⊎_elim
        (λ e. absurd (x_not_in_m (subst (λ v. IsWithin rows v m) (sym e) same.1)))
        (λ e. subst (IsNewAt (x ∷ []) inner) e m_new)
        (of_mail_row v (same.0.0 refl))),
  ),
)

seen_cases : (v : Name) → IsSeen rows v → (x ≡ v) ⊎ (m ≡ v)
seen_cases v (r, inl e, h) = of_mail_row v (subst (λ (r : Mapping). Binds r v) (sym e) h)
seen_cases v (r, inr (inl e), h) = inl (only_name x b v (subst (λ (r : Mapping). Binds r v) (sym e) h))
seen_cases v (r, inr (inr k), h) = absurd k

-- the order of the nodes
Ordered : List Name → Tree → List Name → Tree → Type 0
Ordered p u r t = (v w : Name) → IsNewAt p u v → IsNewAt r t w → IsAncestor t p u ↔ IsBelow rows v w

below_at : (v w : Name) → m ≡ v → x ≡ w → IsBelow rows v w
below_at v w e f = subst (λ v. IsBelow rows v w) e (subst (IsBelow rows m) f (m_in_x, x_not_in_m))

not_below : (v w u : Name) → u ≡ v → u ≡ w → IsBelow rows v w → ⊥
not_below v w u e f below = below.1 (subst (λ n. IsWithin rows n v) (sym e ∙ f) (self v))
  where
    self : (v : Name) → IsWithin rows v v
    self v = ((λ h. h), ((λ h. h), tt))

no_vars : (p : List Name) → [] ≡ x ∷ p → ⊥
no_vars p e = cc

root_root : Ordered [] mails.tree [] mails.tree
unfolding Ordered
root_root v w new also = (
  (λ h. ⊎_elim (λ k. ⊎_elim (λ e. absurd (no_vars [] e.0)) (λ n. absurd n) k) (λ n. absurd n) h),
  (λ below. absurd (not_below v w x (new_root v new) (new_root w also) below)),
)

root_inner : Ordered [] mails.tree (x ∷ []) inner
unfolding Ordered
root_inner v w new also = (
  (λ h. absurd h),
  (λ below. absurd (x_not_in_m (subst (λ v. IsWithin rows v m) (sym (new_root v new)) (subst (IsWithin rows v) (sym (new_inner w also)) below.0)))),
)

inner_root : Ordered (x ∷ []) inner [] mails.tree
unfolding Ordered
inner_root v w new also = ((λ h. below_at v w (new_inner v new) (new_root w also)), (λ below. inl (inl (refl, refl))))

inner_inner : Ordered (x ∷ []) inner (x ∷ []) inner
unfolding Ordered
inner_inner v w new also = ((λ h. absurd h), (λ below. absurd (not_below v w m (new_inner v new) (new_inner w also) below)))

OrderedAll : List Name → Tree → Type 0
OrderedAll p u = (r : List Name) (t : Tree) → IsNode [] mails.tree r t → Ordered p u r t

all_ordered : (p : List Name) (u : Tree) → IsNode [] mails.tree p u → OrderedAll p u
unfolding OrderedAll
all_ordered = two_nodes (λ p u. OrderedAll p u) (two_nodes (λ r t. Ordered [] mails.tree r t) root_root root_inner) (two_nodes (λ r t. Ordered (x ∷ []) inner r t) inner_root inner_inner)

Conjuncts : List Name → Tree → Type 0
Conjuncts p u = AllByRecursion IsClassTriple (own_triples u) × AllByRecursion (IsClassCond One) (own_conds u)

conjuncts : (p : List Name) (u : Tree) → IsNode [] mails.tree p u → Conjuncts p u
unfolding Conjuncts
conjuncts = two_nodes (λ p u. Conjuncts p u)
    ((record { variable = (x, inl refl); subject = tt; predicate = refl; object = refl }, tt), tt)
    ((record { variable = (x, inl refl); subject = tt; predicate = refl; object = tt }, tt), tt)

of_class : InOptional One rows mails
unfolding OrderedAll Ordered Conjuncts
of_class = record {
  distinct = refl;
  outer = refl;
  designed = designed.designed;
  classes = two_nodes (λ p u. (v : Name) × HasClass rows p u v) (x, root_class) (m, inner_class);
  covers = λ v seen. covers v (seen_cases v seen);
  whole = λ v h. subst (BindsEach rows) (in_x v h) (refl, (refl, tt));
  order = λ p u r t v w node other new also. all_ordered p u node r t other v w new also;
  triples = λ p u node. (conjuncts p u node).0;
  conds = λ p u node. (conjuncts p u node).1;
  once = ((λ h. differ m x refl (in_one x h)), ((λ h. h), tt));
  selects = λ v. ((λ h. selected v (in_xm v h)), (λ h. ⊎_elim (λ e. inl e) (λ k. k) h));
}
  where
    in_one : (v : Name) → In (m ∷ []) v → m ≡ v
    in_one v h = ⊎_elim (λ e. e) (λ k. absurd k) h

    covers : (v : Name) → (x ≡ v) ⊎ (m ≡ v) → (p : List Name) × (u : Tree) × IsNode [] mails.tree p u × IsNewAt p u v
    covers v (inl e) = ([], mails.tree, inl (refl, refl), subst (IsNewAt [] mails.tree) e (inl refl, λ k. k))
    covers v (inr e) = (x ∷ [], inner, inr (inl (inl (refl, refl))), subst (IsNewAt (x ∷ []) inner) e m_new)

    selected : (v : Name) → (x ≡ v) ⊎ (m ≡ v) → In (x ∷ x ∷ m ∷ []) v
    selected v (inl e) = inl e
    selected v (inr e) = inr (inr (inl e))

pub classes : OptionalClasses
classes = record {
  right = record { in_class = of_class; fits = record { all = (optional.with_mail, (optional.without_mail, tt)); none = tt } };
  one_domain = λ h.
      let at = h.classes [] mails.tree (inl (refl, refl)) in
      let same = (at.1.1 x).0 (inl refl, λ k. k) in
      let new = (at.1.1 m).1 (((λ k. refl), tt), ((λ k. same.1.0 refl), tt)) in
      differ x m refl (in_x m new.0);
}

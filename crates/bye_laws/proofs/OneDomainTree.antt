-- Examples have one tree of domains at most.
use Rattle.std.proofs.Common.{◌≡◌, refl, List, [], ◌∷◌, ◌⊎◌, inl, inr, ⊎_elim, sym, ap, subst, ◌↔◌}
use Rattle.bye_terms.specs.Members.{EachOnce, In}
use Rattle.bye_terms.proofs.Tests.{second}
use Rattle.bye_table.specs.Domains.{IsBefore, IsBelow, IsWithin, Wanted}
use Rattle.bye_table.specs.Mappings.{Name}
use Rattle.bye_table.specs.DomainTrees.{AreOrdered, Domain, IsDomainTree, IsLabel, IsLabelIn, Subdomains, also, domain, label, none}
use Rattle.bye_laws.specs.Completeness.{AreExamples}
use Rattle.bye_laws.proofs.DomainLabels.{beside_apart, beside_before, label_self, label_within, top_label, top_over}
use Rattle.bye_laws.proofs.DomainTrees.{before_in, one_first}
use Rattle.bye_laws.proofs.Withins.{within_self}

-- of two variables not both stand before the other
pub not_both_before : (xs : List Name) (x y : Name) → EachOnce xs → IsBefore xs x y → IsBefore xs y x → ⊥
not_both_before [] x y once a b = a
not_both_before (v ∷ xs) x y once (inl a) (inl b) = once.0 (subst (In xs) (sym a.0) b.1)
not_both_before (v ∷ xs) x y once (inl a) (inr b) = once.0 (subst (In xs) (sym a.0) (before_in xs y x b))
not_both_before (v ∷ xs) x y once (inr a) (inl b) = once.0 (subst (In xs) (sym b.0) (before_in xs x y a))
not_both_before (v ∷ xs) x y once (inr a) (inr b) = not_both_before xs x y once.1 a b

-- no label of the trees is of a greater domain than the first root
first_highest : (w : Wanted) (d : Domain) (ds : Subdomains) (t : Name) → AreOrdered w (also d ds) → IsLabelIn (also d ds) t → IsBelow w.rows (label d) t → ⊥
first_highest w d ds t order (inl h) below = below.1 (label_within w d t order.1 h)
first_highest w d ds t order (inr h) below = (beside_apart w d ds (label d) t order.0 (label_self d) h).0 below.0

-- the labels of both are the same
abbrev HaveSame : Subdomains → Subdomains → Type 0
HaveSame ds es = (y : Name) → IsLabelIn ds y ↔ IsLabelIn es y

-- and the other way round
swapped : (ds es : Subdomains) → HaveSame ds es → HaveSame es ds
swapped ds es same y = ((same y).1, (same y).0)

-- the first root of one is the first root of the other or stands after it
first_after : (w : Wanted) (d e : Domain) (ds es : Subdomains) → AreOrdered w (also d ds) → AreOrdered w (also e es) → HaveSame (also d ds) (also e es)
    → (label e ≡ label d) ⊎ IsBefore w.vars (label e) (label d)
first_after w d e ds es first second same =
    let r = top_over w (also e es) (label d) second ((same (label d)).0 (inl (label_self d))) in
    let is : r.0 ≡ label d = ⊎_elim (λ e. e) (λ below. absurd (first_highest w d ds r.0 first ((same r.0).1 (top_label (also e es) r.0 r.1)) below)) r.2 in
    ⊎_elim (λ h. inl (subst (λ t. label e ≡ t) is h)) (λ h. inr (subst (IsBefore w.vars (label e)) is (beside_before w e es r.0 second.0 h))) r.1

-- so the first roots are the same
first_same : (w : Wanted) → AreExamples w → (d e : Domain) (ds es : Subdomains) → AreOrdered w (also d ds) → AreOrdered w (also e es) → HaveSame (also d ds) (also e es) → label d ≡ label e
first_same w examples d e ds es first second same =
    ⊎_elim
    (λ h. sym h)
    (λ a. ⊎_elim (λ h. h) (λ b. absurd (not_both_before w.vars (label e) (label d) examples.once a b)) (first_after w e d es ds second first (swapped (also d ds) (also e es) same)))
    (first_after w d e ds es first second same)

-- where the first roots are the same, the labels below them are the same
below_same : (w : Wanted) (x : Name) (cs bs ds es : Subdomains) → AreOrdered w (also (domain x cs) ds) → AreOrdered w (also (domain x bs) es)
    → HaveSame (also (domain x cs) ds) (also (domain x bs) es) → (y : Name) → IsLabelIn cs y → IsLabelIn bs y
below_same w x cs bs ds es first second same y h =
    let below = first.1.0 y h in
    ⊎_elim
    (λ k. ⊎_elim (λ e. absurd (below.1 (subst (IsWithin w.rows x) e (within_self w.rows x)))) (λ j. j) k)
    (λ k. absurd ((beside_apart w (domain x bs) es x y second.0 (inl refl) k).1 below.0))
    ((same y).0 (inl (inr h)))

-- and so are the labels beside them
rest_same : (w : Wanted) (x : Name) (cs bs ds es : Subdomains) → AreOrdered w (also (domain x cs) ds) → AreOrdered w (also (domain x bs) es)
    → HaveSame (also (domain x cs) ds) (also (domain x bs) es) → (y : Name) → IsLabelIn ds y → IsLabelIn es y
rest_same w x cs bs ds es first second same y h =
    let apart = beside_apart w (domain x cs) ds x y first.0 (inl refl) h in
    ⊎_elim (λ k. absurd (apart.1 (label_within w (domain x bs) y second.1 k))) (λ k. k) ((same y).0 (inr h))

-- trees with the same labels are the same
trees_same : (w : Wanted) → AreExamples w → (ds es : Subdomains) → AreOrdered w ds → AreOrdered w es → HaveSame ds es → ds ≡ es
trees_same w examples none none first second same = refl
trees_same w examples none (also e es) first second same = absurd ((same (label e)).1 (inl (label_self e)))
trees_same w examples (also d ds) none first second same = absurd ((same (label d)).0 (inl (label_self d)))
trees_same w examples (also (domain x cs) ds) (also (domain z bs) es) first second same =
    let e = first_same w examples (domain x cs) (domain z bs) ds es first second same in
    let order : AreOrdered w (also (domain x bs) es) = subst (λ z. AreOrdered w (also (domain z bs) es)) (sym e) second in
    let all : HaveSame (also (domain x cs) ds) (also (domain x bs) es) = subst (λ z. HaveSame (also (domain x cs) ds) (also (domain z bs) es)) (sym e) same in
    let back = swapped (also (domain x cs) ds) (also (domain x bs) es) all in
    let inner = trees_same w examples cs bs first.1.1 order.1.1 (λ y. (below_same w x cs bs ds es first order all y, below_same w x bs cs es ds order first back y)) in
    let outer = trees_same w examples ds es first.2 order.2 (λ y. (rest_same w x cs bs ds es first order all y, rest_same w x bs cs es ds order first back y)) in
    λ i. also (domain (e i) (inner i)) (outer i)

-- a label of one tree of domains is a label of the other
labels_same : (w : Wanted) → AreExamples w → (d e : Domain) → IsDomainTree w d → IsDomainTree w e → (x : Name) → IsLabel d x → IsLabel e x
labels_same w examples d e first second x h =
    let is = first.labels x h in
    let c = second.covers x is.seen in
    subst (IsLabel e) (one_first w examples c.0 x (second.labels c.0 c.1) is c.2) c.1

-- the first tree of a row, or another one where the row is empty
the_first : Domain → Subdomains → Domain
the_first d none = d
the_first d (also e es) = e

-- two trees of domains of the same examples are the same
pub one_domain_tree : (w : Wanted) → AreExamples w → (d e : Domain) → IsDomainTree w d → IsDomainTree w e → d ≡ e
unfolding the_first
one_domain_tree w examples d e first second =
    let alone : (d e : Domain) → IsDomainTree w d → IsDomainTree w e → (y : Name) → IsLabelIn (also d none) y → IsLabelIn (also e none) y = λ d e a b y h.
    ⊎_elim (λ k. inl (labels_same w examples d e a b y k)) (λ k. absurd k) h in
    ap (the_first d) (trees_same w examples (also d none) (also e none) (tt, first.ordered, tt) (tt, second.ordered, tt)
    (λ y. (alone d e first second y, alone e d second first y)))

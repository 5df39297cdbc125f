-- What is kept is one query, and of a start that is right it is right and minimal.
use Rattle.bye_pattern.specs.declared.level.Level.{Level}
use Rattle.std.proofs.Common.{◌≡◌, refl, true, List, [], ◌∷◌, ◌⊎◌, inl, inr, ⊎_elim, sym, ◌∙◌, subst, ◌↔◌}
use Rattle.std.specs.List.{AllByRecursion}
use Rattle.std.specs.Ordering.{is_lt}
use Rattle.bye_terms.specs.Members.{EachOnce, In}
use Rattle.bye_terms.specs.Terms.{Statement}
use Rattle.bye_terms.proofs.Members.{all_in}
use Rattle.bye_terms.proofs.Tests.{not_both}
use Rattle.bye_pattern.specs.declared.class.Class.{Class}
use Rattle.bye_pattern.specs.declared.kind.Kind.{Kind}
use Rattle.bye_pattern.specs.declared.kind.Kind.TheVariants as kinds
use Rattle.bye_pattern.specs.declared.cond.Cond.{Cond}
use Rattle.bye_table.specs.Domains.{IsBefore, Wanted}
use Rattle.bye_pattern.specs.Keeping.{IsKept, IsMinimal, IsRight, IsStart, IsThinnedTree}
use Rattle.bye_table.specs.Mappings.{Mapping, Name}
use Rattle.bye_pattern.specs.Patterns.{Pattern}
use Rattle.bye_table.specs.DomainTrees.{Domain, Subdomains, also, domain, none}
use Rattle.bye_pattern.specs.Starting.{AreInTrialOrder, IsKindBefore, IsStartForest, IsStartNode, IsStartTree, IsTriedBefore}
use Rattle.bye_pattern.specs.Trees.{Forest, Select, Tree, leaf, more, node, plain_select}
use Rattle.bye_pattern.specs.TrialOrder.{IsInStrictOrder, trial_cmp}
use Rattle.bye_pattern.proofs.Orders.{trial_weak}
use Rattle.bye_laws.specs.Completeness.{Allows, AreExamples}
use Rattle.bye_laws.specs.Parts.{WithinTree}
use Rattle.bye_laws.specs.Ordering.{IsSorted}
use Rattle.bye_laws.proofs.AnyRight.{passes_keep_right}
use Rattle.bye_laws.proofs.Examples.{one_seen_list}
use Rattle.bye_laws.proofs.Once.{once_tree, some_tree}
use Rattle.bye_laws.proofs.OneDomainTree.{not_both_before, one_domain_tree}
use Rattle.bye_pattern.specs.declared.cond.Cond.TheVariants as conds

-- a sorted list is told by its elements
pub sorted_same : {X : Type 0} (R : X → X → Type 0) → ((x y : X) → R x y → R y x → ⊥) → (xs ys : List X) → IsSorted R xs → IsSorted R ys → ((x : X) → In xs x ↔ In ys x) → xs ≡ ys
sorted_same R apart [] [] a b same = refl
sorted_same R apart [] (y ∷ ys) a b same = absurd ((same y).1 (inl refl))
sorted_same R apart (x ∷ xs) [] a b same = absurd ((same x).0 (inl refl))
sorted_same {X} R apart (x ∷ xs) (y ∷ ys) a b same =
    let e : y ≡ x = heads ((same x).0 (inl refl)) ((same y).1 (inl refl)) in
    let rest : xs ≡ ys = sorted_same R apart xs ys a.1 b.1 (tails e) in
    λ i. sym e i ∷ rest i
  where
    heads : (y ≡ x) ⊎ In ys x → (x ≡ y) ⊎ In xs y → y ≡ x
    heads (inl e) k = e
    heads (inr h) (inl e) = sym e
    heads (inr h) (inr k) = absurd (apart x y (all_in (R x) xs y a.0 k) (all_in (R y) ys x b.0 h))

    later : (z w : X) (zs : List X) → AllByRecursion (R w) zs → In zs z → w ≡ z → ⊥
    later z w zs all h e = let r = all_in (R w) zs z all h in apart w z r (subst (λ v. R z v) (sym e) (subst (λ v. R v z) e r))

    tails : y ≡ x → (z : X) → In xs z ↔ In ys z
    tails e z = (
      (λ h. ⊎_elim (λ f. absurd (later z x xs a.0 h (sym e ∙ f))) (λ k. k) ((same z).0 (inr h))),
      (λ h. ⊎_elim (λ f. absurd (later z y ys b.0 h (e ∙ f))) (λ k. k) ((same z).1 (inr h))),
    )

-- the order of trial of patterns, and that of conditions
pub tried_strictly : (ps : List Pattern) → IsInStrictOrder ps → IsSorted (λ p q. is_lt (trial_cmp p q) ≡ true) ps
tried_strictly [] h = tt
tried_strictly (p ∷ ps) h = (h.0, tried_strictly ps h.1)

-- of two patterns not both stand before the other
pub patterns_apart : (p q : Pattern) → is_lt (trial_cmp p q) ≡ true → is_lt (trial_cmp q p) ≡ true → ⊥
patterns_apart p q a b = not_both _ b (trial_weak.one_way p q a)

-- the same of conditions
pub tried_in_order : (header : List Name) (cs : List Cond) → AreInTrialOrder header cs → IsSorted (IsTriedBefore header) cs
tried_in_order header [] h = tt
tried_in_order header (c ∷ cs) h = (h.0, tried_in_order header cs h.1)

-- of two kinds not both stand before the other
kinds_apart : (j k : Kind) → IsKindBefore j k → IsKindBefore k j → ⊥
kinds_apart kinds.Iri kinds.Iri a b = a
kinds_apart kinds.Iri kinds.Blank a b = b
kinds_apart kinds.Iri kinds.Literal a b = b
kinds_apart kinds.Blank kinds.Iri a b = a
kinds_apart kinds.Blank kinds.Blank a b = a
kinds_apart kinds.Blank kinds.Literal a b = b
kinds_apart kinds.Literal kinds.Iri a b = a
kinds_apart kinds.Literal kinds.Blank a b = a
kinds_apart kinds.Literal kinds.Literal a b = a

-- of two conditions not both stand before the other
pub conditions_apart : (header : List Name) → EachOnce header → (c d : Cond) → IsTriedBefore header c d → IsTriedBefore header d c → ⊥
conditions_apart header once (conds.Bound v) (conds.Bound w) a b = not_both_before header v w once a b
conditions_apart header once (conds.Bound v) (conds.SameVar w x) a b = b
conditions_apart header once (conds.Bound v) (conds.SameConst w t) a b = b
conditions_apart header once (conds.Bound v) (conds.KindOf kind w) a b = b
conditions_apart header once (conds.SameVar v w) (conds.Bound x) a b = a
conditions_apart header once (conds.SameVar v w) (conds.SameVar x y) a b =
    ⊎_elim
    (λ i. ⊎_elim (λ j. not_both_before header v x once i j) (λ j. not_self v (subst (IsBefore header v) j.0 i)) b)
    (λ i. ⊎_elim (λ j. not_self x (subst (IsBefore header x) i.0 j)) (λ j. not_both_before header w y once i.1 j.1) b)
    a
  where
    not_self : (u : Name) → IsBefore header u u → ⊥
    not_self u h = not_both_before header u u once h h
conditions_apart header once (conds.SameVar v w) (conds.SameConst x t) a b = b
conditions_apart header once (conds.SameVar v w) (conds.KindOf kind x) a b = b
conditions_apart header once (conds.SameConst v t) (conds.Bound w) a b = a
conditions_apart header once (conds.SameConst v t) (conds.SameVar w x) a b = a
conditions_apart header once (conds.SameConst v t) (conds.SameConst w u) a b = not_both_before header v w once a b
conditions_apart header once (conds.SameConst v t) (conds.KindOf kind w) a b = b
conditions_apart header once (conds.KindOf kind v) (conds.Bound w) a b = a
conditions_apart header once (conds.KindOf kind v) (conds.SameVar w x) a b = a
conditions_apart header once (conds.KindOf kind v) (conds.SameConst w t) a b = a
conditions_apart header once (conds.KindOf kind v) (conds.KindOf other w) a b =
    ⊎_elim
    (λ i. ⊎_elim (λ j. not_both_before header v w once i j) (λ j. not_self v (subst (IsBefore header v) j.0 i)) b)
    (λ i. ⊎_elim (λ j. not_self w (subst (IsBefore header w) i.0 j)) (λ j. kinds_apart kind other i.1 j.1) b)
    a
  where
    not_self : (u : Name) → IsBefore header u u → ⊥
    not_self u h = not_both_before header u u once h h

-- the lists of a start node are told by their elements
one_node : (level : Level) → (g : List Statement) (w : Wanted) (x : Name) (ps qs : List Pattern) (cs ds : List Cond) → EachOnce w.vars → IsStartNode level g w x ps cs → IsStartNode level g w x qs ds → (ps ≡ qs) × (cs ≡ ds)
one_node level g w x ps qs cs ds once a b = (
  sorted_same (λ p q. is_lt (trial_cmp p q) ≡ true) patterns_apart ps qs (tried_strictly ps a.sorted) (tried_strictly qs b.sorted)
      (λ p. ((λ h. (b.triples p).1 ((a.triples p).0 h)), (λ h. (a.triples p).1 ((b.triples p).0 h)))),
  sorted_same (IsTriedBefore w.vars) (conditions_apart w.vars once) cs ds (tried_in_order w.vars cs a.conditions_sorted) (tried_in_order w.vars ds b.conditions_sorted)
      (λ c. ((λ h. (b.conditions c).1 ((a.conditions c).0 h)), (λ h. (a.conditions c).1 ((b.conditions c).0 h)))),
)

-- over one tree of domains there is one start tree
mutual
  one_start_tree : (level : Level) → (g : List Statement) (w : Wanted) (d : Domain) (t u : Tree) → EachOnce w.vars → IsStartTree level g w d t → IsStartTree level g w d u → t ≡ u
  one_start_tree level g w (domain x ds) (node ps cs f) (node qs es e) once a b =
      let lists = one_node level g w x ps qs cs es once a.0 b.0 in
      let below = one_start_forest level g w ds f e once a.1 b.1 in
      λ i. node (lists.0 i) (lists.1 i) (below i)

  one_start_forest : (level : Level) → (g : List Statement) (w : Wanted) (ds : Subdomains) (f e : Forest) → EachOnce w.vars → IsStartForest level g w ds f → IsStartForest level g w ds e → f ≡ e
  one_start_forest level g w none leaf leaf once a b = refl
  one_start_forest level g w none leaf (more u e) once a b = absurd b
  one_start_forest level g w none (more t f) e once a b = absurd a
  one_start_forest level g w (also d ds) leaf e once a b = absurd a
  one_start_forest level g w (also d ds) (more t f) leaf once a b = absurd b
  one_start_forest level g w (also d ds) (more t f) (more u e) once a b =
      let first = one_start_tree level g w d t u once a.0 b.0 in
      let rest = one_start_forest level g w ds f e once a.1 b.1 in
      λ i. more (first i) (rest i)

-- there is one start
pub one_start : (class : Class) (level : Level) (g : List Statement) (w : Wanted) (s r : Select) → AreExamples w → IsStart class level g w s → IsStart class level g w r → s ≡ r
one_start class level g w s r examples a b =
    let same = one_domain_tree w examples a.domains b.domains a.over b.over in
    let tree = one_start_tree level g w b.domains a.tree b.tree examples.once (subst (λ d. IsStartTree level g w d a.tree) same a.conjuncts) b.conjuncts in
    let vars = one_seen_list w.rows w.vars a.vars b.vars a.selected b.selected in
    a.query ∙ (λ i. plain_select (vars i) (tree i)) ∙ sym b.query

-- what is kept is one query
pub kept_is_one : (class : Class) (level : Level) (g : List Statement) (w : Wanted) (unwanted : List Mapping) (q r : Select) → AreExamples w
    → IsKept class level g w unwanted q → IsKept class level g w unwanted r → q ≡ r
kept_is_one class level g w unwanted q r examples a b =
    let same = one_start class level g w a.start b.start examples a.begun b.begun in
    let P : Select → Tree → Type 0 = λ s t. IsThinnedTree (λ u. IsRight class level g w.rows unwanted (plain_select s.vars u)) s.tree t in
    let tree = once_tree (λ u. IsRight class level g w.rows unwanted (plain_select b.start.vars u)) b.start.tree a.tree b.tree (subst (λ s. P s a.tree) same a.thinned) b.thinned in
    a.query ∙ (λ i. plain_select (same i).vars (tree i)) ∙ sym b.query

-- and there is one where it is decided which parts are right
pub something_is_kept : (class : Class) (level : Level) (g : List Statement) (w : Wanted) (unwanted : List Mapping) (start : Select) → IsStart class level g w start
    → ((t : Tree) → WithinTree t start.tree → IsRight class level g w.rows unwanted (plain_select start.vars t) ⊎ (IsRight class level g w.rows unwanted (plain_select start.vars t) → ⊥))
    → (q : Select) × IsKept class level g w unwanted q
something_is_kept class level g w unwanted start begun decide =
    let pass = some_tree (λ t. IsRight class level g w.rows unwanted (plain_select start.vars t)) start.tree decide in
    (plain_select start.vars pass.0, record { start = start; tree = pass.0; begun = begun; thinned = pass.1; query = refl })

-- it is right and minimal where the start is right
pub kept_is_minimal : (class : Class) (level : Level) (g : List Statement) (w : Wanted) (unwanted : List Mapping) (start q : Select) → AreExamples w → Allows class unwanted
    → IsStart class level g w start → IsRight class level g w.rows unwanted start → IsKept class level g w unwanted q → IsRight class level g w.rows unwanted q × IsMinimal class level g w.rows unwanted q
kept_is_minimal class level g w unwanted start q examples allowed begun right kept =
    let same = one_start class level g w start kept.start examples begun kept.begun in
    let left = passes_keep_right class level g w.rows unwanted kept.start kept.tree allowed (subst (IsRight class level g w.rows unwanted) same right) kept.thinned in
    subst (λ q. IsRight class level g w.rows unwanted q × IsMinimal class level g w.rows unwanted q) (sym kept.query) (left.right, left.minimal)

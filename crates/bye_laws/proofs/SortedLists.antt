-- Lists in strict order: a finite list has one with the same members, and there is one alone.
use Rattle.std.proofs.Common.{◌≡◌, refl, true, false, List, [], ◌∷◌, ◌⊎◌, inl, inr, ⊎_elim, sym, ◌∙◌, ap, subst, ◌↔◌}
use Rattle.std.specs.List.{AllByRecursion}
use Rattle.std.specs.Ordering.{is_lt}
use Rattle.bye_terms.specs.Members.{EachOnce, In}
use Rattle.bye_terms.proofs.Members.{all_from, all_in}
use Rattle.bye_terms.proofs.Tests.{bool_cases, not_both}
use Rattle.bye_pattern.specs.declared.cond.Cond.{Cond}
use Rattle.bye_pattern.specs.declared.cond.Cond.TheVariants as conds
use Rattle.bye_pattern.specs.declared.kind.Kind.{Kind}
use Rattle.bye_pattern.specs.declared.kind.Kind.TheVariants as kinds
use Rattle.bye_table.specs.Domains.{IsBefore}
use Rattle.bye_table.specs.Mappings.{Name}
use Rattle.bye_pattern.specs.Patterns.{Pattern}
use Rattle.bye_pattern.specs.Starting.{AreInTrialOrder, IsKindBefore, IsTriedBefore}
use Rattle.bye_pattern.specs.TrialOrder.{IsInStrictOrder, IsInTrialOrder, trial_cmp}
use Rattle.bye_pattern.proofs.Orders.{trial_weak}
use Rattle.bye_laws.specs.Ordering.{AreOrderable, HaveSameMembers, IsSorted, IsValidPattern, SortedListsAreOneAndThere}
use Rattle.bye_laws.proofs.DomainTrees.{before_in, one_before}
use Rattle.bye_laws.proofs.KeptQueries.{conditions_apart, patterns_apart, sorted_same, tried_in_order, tried_strictly}
use Rattle.bye_laws.proofs.PatternLines.{tried_first}

-- two elements are the same, or one stands before the other
abbrev pub IsComparable : {X : Type 0} → (X → X → Type 0) → X → X → Type 0
IsComparable R x y = (x ≡ y) ⊎ (R x y ⊎ R y x)

-- one element more in a sorted list
inserted : {X : Type 0} (R : X → X → Type 0) → ((x y z : X) → R x y → R y z → R x z) → (x : X) (ys : List X) → IsSorted R ys → ((y : X) → In ys y → IsComparable R x y)
    → (zs : List X) × IsSorted R zs × ((z : X) → In zs z ↔ ((x ≡ z) ⊎ In ys z))
inserted R chain x [] sorted compared = (x ∷ [], (tt, tt), λ z. ((λ h. h), (λ h. h)))
inserted R chain x (y ∷ ys) sorted compared =
    ⊎_elim
    (λ same. (y ∷ ys, sorted, λ z. (inr, (λ h. ⊎_elim (λ e. inl (sym same ∙ e)) (λ k. k) h))))
    (λ r. ⊎_elim
    (λ before. (
      x ∷ y ∷ ys,
      ((before, all_from (R x) ys (λ z h. chain x y z before (all_in (R y) ys z sorted.0 h))), sorted),
      λ z. ((λ h. h), (λ h. h)),
    ))
    (λ after.
    let w = inserted R chain x ys sorted.1 (λ z h. compared z (inr h)) in (
      y ∷ w.0,
      (all_from (R y) w.0 (λ z h. ⊎_elim (λ e. subst (R y) e after) (λ k. all_in (R y) ys z sorted.0 k) ((w.2 z).0 h)), w.1),
      λ z. (
        (λ h. ⊎_elim (λ e. inr (inl e)) (λ k. ⊎_elim inl (λ j. inr (inr j)) ((w.2 z).0 k)) h),
        (λ h. ⊎_elim (λ e. inr ((w.2 z).1 (inl e))) (λ k. ⊎_elim inl (λ j. inr ((w.2 z).1 (inr j))) k) h),
      ),
    ))
    r)
    (compared y (inl refl))

-- a list whose elements can be compared has a sorted one with the same members
pub sorted_there : {X : Type 0} (R : X → X → Type 0) → ((x y z : X) → R x y → R y z → R x z) → (xs : List X) → ((x y : X) → In xs x → In xs y → IsComparable R x y)
    → (ys : List X) × IsSorted R ys × HaveSameMembers ys xs
sorted_there R chain [] compared = ([], tt, λ z. ((λ h. h), (λ h. h)))
sorted_there R chain (x ∷ xs) compared =
    let rest = sorted_there R chain xs (λ y z h k. compared y z (inr h) (inr k)) in
    let w = inserted R chain x rest.0 rest.1 (λ y h. compared x y (inl refl) (inr ((rest.2 y).0 h))) in (
      w.0,
      w.1,
      λ z. (
        (λ h. ⊎_elim inl (λ k. inr ((rest.2 z).0 k)) ((w.2 z).0 h)),
        (λ h. (w.2 z).1 (⊎_elim inl (λ k. inr ((rest.2 z).1 k)) h)),
      ),
    )

-- patterns: one tried before the next, and that before a third
patterns_chain : (p q r : Pattern) → is_lt (trial_cmp p q) ≡ true → is_lt (trial_cmp q r) ≡ true → is_lt (trial_cmp p r) ≡ true
patterns_chain p q r a b =
    ⊎_elim (λ e. e) (λ n. absurd (not_both _ a (trial_weak.chain p r q n (trial_weak.one_way q r b)))) (bool_cases (is_lt (trial_cmp p r)))

-- valid patterns can be compared
patterns_compared : (p q : Pattern) → IsValidPattern p → IsValidPattern q → IsComparable (λ p q. is_lt (trial_cmp p q) ≡ true) p q
patterns_compared p q a b = ⊎_elim inl (λ r. inr (⊎_elim (λ k. inl k.0) (λ k. inr k.0) r)) (tried_first p q a b)

-- a sorted list of patterns is in strict order
strict_from : (ps : List Pattern) → IsSorted (λ p q. is_lt (trial_cmp p q) ≡ true) ps → IsInStrictOrder ps
strict_from [] h = tt
strict_from (p ∷ ps) h = (h.0, strict_from ps h.1)

-- and one of conditions in the order of trial
order_from : (header : List Name) (cs : List Cond) → IsSorted (IsTriedBefore header) cs → AreInTrialOrder header cs
order_from header [] h = tt
order_from header (c ∷ cs) h = (h.0, order_from header cs h.1)

-- of three names one stands before the next, and that before the third
pub before_chain : (xs : List Name) (x y z : Name) → EachOnce xs → IsBefore xs x y → IsBefore xs y z → IsBefore xs x z
before_chain [] x y z once a b = a
before_chain (v ∷ xs) x y z once (inl a) b = inl (a.0, ⊎_elim (λ k. k.1) (λ k. before_in xs y z k) b)
before_chain (v ∷ xs) x y z once (inr a) (inl b) = absurd (once.0 (subst (In xs) (sym b.0) (before_in xs x y a)))
before_chain (v ∷ xs) x y z once (inr a) (inr b) = inr (before_chain xs x y z once.1 a b)

-- by a variable, and of one variable by something else
pairs_chain : {Y : Type 0} (R : Y → Y → Type 0) (xs : List Name) (u v w : Name) (x y z : Y) → EachOnce xs → (R x y → R y z → R x z)
    → IsBefore xs u v ⊎ ((u ≡ v) × R x y) → IsBefore xs v w ⊎ ((v ≡ w) × R y z) → IsBefore xs u w ⊎ ((u ≡ w) × R x z)
pairs_chain R xs u v w x y z once chain (inl h) (inl k) = inl (before_chain xs u v w once h k)
pairs_chain R xs u v w x y z once chain (inl h) (inr k) = inl (subst (IsBefore xs u) k.0 h)
pairs_chain R xs u v w x y z once chain (inr h) (inl k) = inl (subst (λ x. IsBefore xs x w) (sym h.0) k)
pairs_chain R xs u v w x y z once chain (inr h) (inr k) = inr (h.0 ∙ k.0, chain h.1 k.1)

-- kinds: one tried before the next, and that before a third
kinds_chain : (i j k : Kind) → IsKindBefore i j → IsKindBefore j k → IsKindBefore i k
kinds_chain kinds.Iri kinds.Iri k a b = absurd a
kinds_chain kinds.Iri kinds.Blank kinds.Iri a b = absurd b
kinds_chain kinds.Iri kinds.Blank kinds.Blank a b = absurd b
kinds_chain kinds.Iri kinds.Blank kinds.Literal a b = tt
kinds_chain kinds.Iri kinds.Literal kinds.Iri a b = absurd b
kinds_chain kinds.Iri kinds.Literal kinds.Blank a b = absurd b
kinds_chain kinds.Iri kinds.Literal kinds.Literal a b = absurd b
kinds_chain kinds.Blank kinds.Iri k a b = absurd a
kinds_chain kinds.Blank kinds.Blank k a b = absurd a
kinds_chain kinds.Blank kinds.Literal kinds.Iri a b = absurd b
kinds_chain kinds.Blank kinds.Literal kinds.Blank a b = absurd b
kinds_chain kinds.Blank kinds.Literal kinds.Literal a b = absurd b
kinds_chain kinds.Literal kinds.Iri k a b = absurd a
kinds_chain kinds.Literal kinds.Blank k a b = absurd a
kinds_chain kinds.Literal kinds.Literal k a b = absurd a

-- two kinds are the same, or one is tried before the other
kinds_compared : (i j : Kind) → IsComparable IsKindBefore i j
kinds_compared kinds.Iri kinds.Iri = inl refl
kinds_compared kinds.Iri kinds.Blank = inr (inl tt)
kinds_compared kinds.Iri kinds.Literal = inr (inl tt)
kinds_compared kinds.Blank kinds.Iri = inr (inr tt)
kinds_compared kinds.Blank kinds.Blank = inl refl
kinds_compared kinds.Blank kinds.Literal = inr (inl tt)
kinds_compared kinds.Literal kinds.Iri = inr (inr tt)
kinds_compared kinds.Literal kinds.Blank = inr (inr tt)
kinds_compared kinds.Literal kinds.Literal = inl refl

-- conditions: one tried before the next, and that before a third
pub conditions_chain : (header : List Name) → EachOnce header → (c d e : Cond) → IsTriedBefore header c d → IsTriedBefore header d e → IsTriedBefore header c e
conditions_chain header once (conds.Bound u) (conds.Bound v) (conds.Bound w) a b = before_chain header u v w once a b
conditions_chain header once (conds.Bound u) (conds.Bound v) (conds.SameVar w z) a b = tt
conditions_chain header once (conds.Bound u) (conds.Bound v) (conds.SameConst w t) a b = tt
conditions_chain header once (conds.Bound u) (conds.Bound v) (conds.KindOf k w) a b = tt
conditions_chain header once (conds.Bound u) (conds.SameVar v y) (conds.Bound w) a b = absurd b
conditions_chain header once (conds.Bound u) (conds.SameVar v y) (conds.SameVar w z) a b = tt
conditions_chain header once (conds.Bound u) (conds.SameVar v y) (conds.SameConst w t) a b = tt
conditions_chain header once (conds.Bound u) (conds.SameVar v y) (conds.KindOf k w) a b = tt
conditions_chain header once (conds.Bound u) (conds.SameConst v s) (conds.Bound w) a b = absurd b
conditions_chain header once (conds.Bound u) (conds.SameConst v s) (conds.SameVar w z) a b = absurd b
conditions_chain header once (conds.Bound u) (conds.SameConst v s) (conds.SameConst w t) a b = tt
conditions_chain header once (conds.Bound u) (conds.SameConst v s) (conds.KindOf k w) a b = tt
conditions_chain header once (conds.Bound u) (conds.KindOf j v) (conds.Bound w) a b = absurd b
conditions_chain header once (conds.Bound u) (conds.KindOf j v) (conds.SameVar w z) a b = absurd b
conditions_chain header once (conds.Bound u) (conds.KindOf j v) (conds.SameConst w t) a b = absurd b
conditions_chain header once (conds.Bound u) (conds.KindOf j v) (conds.KindOf k w) a b = tt
conditions_chain header once (conds.SameVar u x) (conds.Bound v) e a b = absurd a
conditions_chain header once (conds.SameVar u x) (conds.SameVar v y) (conds.Bound w) a b = absurd b
conditions_chain header once (conds.SameVar u x) (conds.SameVar v y) (conds.SameVar w z) a b = pairs_chain (IsBefore header) header u v w x y z once (before_chain header x y z once) a b
conditions_chain header once (conds.SameVar u x) (conds.SameVar v y) (conds.SameConst w t) a b = tt
conditions_chain header once (conds.SameVar u x) (conds.SameVar v y) (conds.KindOf k w) a b = tt
conditions_chain header once (conds.SameVar u x) (conds.SameConst v s) (conds.Bound w) a b = absurd b
conditions_chain header once (conds.SameVar u x) (conds.SameConst v s) (conds.SameVar w z) a b = absurd b
conditions_chain header once (conds.SameVar u x) (conds.SameConst v s) (conds.SameConst w t) a b = tt
conditions_chain header once (conds.SameVar u x) (conds.SameConst v s) (conds.KindOf k w) a b = tt
conditions_chain header once (conds.SameVar u x) (conds.KindOf j v) (conds.Bound w) a b = absurd b
conditions_chain header once (conds.SameVar u x) (conds.KindOf j v) (conds.SameVar w z) a b = absurd b
conditions_chain header once (conds.SameVar u x) (conds.KindOf j v) (conds.SameConst w t) a b = absurd b
conditions_chain header once (conds.SameVar u x) (conds.KindOf j v) (conds.KindOf k w) a b = tt
conditions_chain header once (conds.SameConst u r) (conds.Bound v) e a b = absurd a
conditions_chain header once (conds.SameConst u r) (conds.SameVar v y) e a b = absurd a
conditions_chain header once (conds.SameConst u r) (conds.SameConst v s) (conds.Bound w) a b = absurd b
conditions_chain header once (conds.SameConst u r) (conds.SameConst v s) (conds.SameVar w z) a b = absurd b
conditions_chain header once (conds.SameConst u r) (conds.SameConst v s) (conds.SameConst w t) a b = before_chain header u v w once a b
conditions_chain header once (conds.SameConst u r) (conds.SameConst v s) (conds.KindOf k w) a b = tt
conditions_chain header once (conds.SameConst u r) (conds.KindOf j v) (conds.Bound w) a b = absurd b
conditions_chain header once (conds.SameConst u r) (conds.KindOf j v) (conds.SameVar w z) a b = absurd b
conditions_chain header once (conds.SameConst u r) (conds.KindOf j v) (conds.SameConst w t) a b = absurd b
conditions_chain header once (conds.SameConst u r) (conds.KindOf j v) (conds.KindOf k w) a b = tt
conditions_chain header once (conds.KindOf i u) (conds.Bound v) e a b = absurd a
conditions_chain header once (conds.KindOf i u) (conds.SameVar v y) e a b = absurd a
conditions_chain header once (conds.KindOf i u) (conds.SameConst v s) e a b = absurd a
conditions_chain header once (conds.KindOf i u) (conds.KindOf j v) (conds.Bound w) a b = absurd b
conditions_chain header once (conds.KindOf i u) (conds.KindOf j v) (conds.SameVar w z) a b = absurd b
conditions_chain header once (conds.KindOf i u) (conds.KindOf j v) (conds.SameConst w t) a b = absurd b
conditions_chain header once (conds.KindOf i u) (conds.KindOf j v) (conds.KindOf k w) a b = pairs_chain IsKindBefore header u v w i j k once (kinds_chain i j k) a b

-- what is made of a variable and something else can be compared where both can
pairs_compared : {Y : Type 0} (header : List Name) (R : Y → Y → Type 0) (v w : Name) (x y : Y) (make : Name → Y → Cond) → IsComparable (IsBefore header) v w → IsComparable R x y
    → (make v x ≡ make w y) ⊎ ((IsBefore header v w ⊎ ((v ≡ w) × R x y)) ⊎ (IsBefore header w v ⊎ ((w ≡ v) × R y x)))
pairs_compared header R v w x y make (inl e) (inl f) = inl (λ i. make (e i) (f i))
pairs_compared header R v w x y make (inl e) (inr (inl r)) = inr (inl (inr (e, r)))
pairs_compared header R v w x y make (inl e) (inr (inr r)) = inr (inr (inr (sym e, r)))
pairs_compared header R v w x y make (inr (inl b)) c = inr (inl (inl b))
pairs_compared header R v w x y make (inr (inr b)) c = inr (inr (inl b))

-- conditions over a header can be compared, where of two constants of a variable both are one
conditions_compared : (header : List Name) (cs : List Cond) → AreOrderable header cs → (c d : Cond) → In cs c → In cs d → IsComparable (IsTriedBefore header) c d
conditions_compared header cs o (conds.Bound v) (conds.Bound w) h k =
    ⊎_elim (λ e. inl (ap conds.Bound e)) inr (one_before header v w (o.over (conds.Bound v) h v (inl refl)) (o.over (conds.Bound w) k w (inl refl)))
conditions_compared header cs o (conds.Bound v) (conds.SameVar w y) h k = inr (inl tt)
conditions_compared header cs o (conds.Bound v) (conds.SameConst w t) h k = inr (inl tt)
conditions_compared header cs o (conds.Bound v) (conds.KindOf j w) h k = inr (inl tt)
conditions_compared header cs o (conds.SameVar v x) (conds.Bound w) h k = inr (inr tt)
conditions_compared header cs o (conds.SameVar v x) (conds.SameVar w y) h k =
    pairs_compared header (IsBefore header) v w x y conds.SameVar
    (one_before header v w (o.over (conds.SameVar v x) h v (inl refl)) (o.over (conds.SameVar w y) k w (inl refl)))
    (one_before header x y (o.over (conds.SameVar v x) h x (inr (inl refl))) (o.over (conds.SameVar w y) k y (inr (inl refl))))
conditions_compared header cs o (conds.SameVar v x) (conds.SameConst w t) h k = inr (inl tt)
conditions_compared header cs o (conds.SameVar v x) (conds.KindOf j w) h k = inr (inl tt)
conditions_compared header cs o (conds.SameConst v s) (conds.Bound w) h k = inr (inr tt)
conditions_compared header cs o (conds.SameConst v s) (conds.SameVar w y) h k = inr (inr tt)
conditions_compared header cs o (conds.SameConst v s) (conds.SameConst w t) h k =
    ⊎_elim
    (λ e. let same = o.one_constant v s t h (subst (λ w. In cs (conds.SameConst w t)) (sym e) k) in inl (λ i. conds.SameConst (e i) (same i)))
    inr
    (one_before header v w (o.over (conds.SameConst v s) h v (inl refl)) (o.over (conds.SameConst w t) k w (inl refl)))
conditions_compared header cs o (conds.SameConst v s) (conds.KindOf j w) h k = inr (inl tt)
conditions_compared header cs o (conds.KindOf i v) (conds.Bound w) h k = inr (inr tt)
conditions_compared header cs o (conds.KindOf i v) (conds.SameVar w y) h k = inr (inr tt)
conditions_compared header cs o (conds.KindOf i v) (conds.SameConst w t) h k = inr (inr tt)
conditions_compared header cs o (conds.KindOf i v) (conds.KindOf j w) h k =
    pairs_compared header IsKindBefore v w i j (λ v i. conds.KindOf i v)
    (one_before header v w (o.over (conds.KindOf i v) h v (inl refl)) (o.over (conds.KindOf j w) k w (inl refl)))
    (kinds_compared i j)

-- valid patterns in strict order
pub strict_patterns : (ps : List Pattern) → AllByRecursion IsValidPattern ps → (qs : List Pattern) × IsInStrictOrder qs × HaveSameMembers qs ps
strict_patterns ps valid =
    let w = sorted_there (λ p q. is_lt (trial_cmp p q) ≡ true) patterns_chain ps (λ p q h k. patterns_compared p q (all_in IsValidPattern ps p valid h) (all_in IsValidPattern ps q valid k)) in
    (w.0, strict_from w.0 w.1, w.2)

-- conditions in the order of trial
pub ordered_conditions : (header : List Name) (cs : List Cond) → EachOnce header → AreOrderable header cs → (ds : List Cond) × AreInTrialOrder header ds × HaveSameMembers ds cs
ordered_conditions header cs once o =
    let w = sorted_there (IsTriedBefore header) (conditions_chain header once) cs (conditions_compared header cs o) in
    (w.0, order_from header w.0 w.1, w.2)

-- valid patterns in strict order stand in the order of trial, each once
strict_once : (ps : List Pattern) → IsInStrictOrder ps → EachOnce ps × IsInTrialOrder ps
strict_once [] h = (tt, tt)
strict_once (p ∷ ps) h =
    let rest = strict_once ps h.1 in (
      ((λ k. let first = all_in (λ q. is_lt (trial_cmp p q) ≡ true) ps p h.0 k in patterns_apart p p first first), rest.0),
      (all_from (λ q. is_lt (trial_cmp q p) ≡ false) ps (λ q k. trial_weak.one_way p q (all_in (λ q. is_lt (trial_cmp p q) ≡ true) ps q h.0 k)), rest.1),
    )

-- and the other way round
once_strict : (ps : List Pattern) → AllByRecursion IsValidPattern ps → EachOnce ps → IsInTrialOrder ps → IsInStrictOrder ps
once_strict [] valid once h = tt
once_strict (p ∷ ps) valid once h = (
  all_from (λ q. is_lt (trial_cmp p q) ≡ true) ps (λ q k.
      ⊎_elim
      (λ e. absurd (once.0 (subst (In ps) (sym e) k)))
      (λ r. ⊎_elim (λ first. first.0) (λ first. absurd (not_both _ first.0 (all_in (λ q. is_lt (trial_cmp q p) ≡ false) ps q h.0 k))) r)
      (tried_first p q valid.0 (all_in IsValidPattern ps q valid.1 k))),
  once_strict ps valid.1 once.1 h.1,
)

-- both are there, and one
pub sorted_lists : SortedListsAreOneAndThere
sorted_lists = record {
  strict = λ ps valid. (strict_once ps, λ h. once_strict ps valid h.0 h.1);
  patterns = strict_patterns;
  one_of_patterns = λ ps qs a b same. sorted_same (λ p q. is_lt (trial_cmp p q) ≡ true) patterns_apart ps qs (tried_strictly ps a) (tried_strictly qs b) same;
  conditions = ordered_conditions;
  one_of_conditions = λ header cs ds once a b same. sorted_same (IsTriedBefore header) (conditions_apart header once) cs ds (tried_in_order header cs a) (tried_in_order header ds b) same;
}

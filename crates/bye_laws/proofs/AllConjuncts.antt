-- The lists of all common conjuncts at a variable: whatever is claimed of them is claimed of lists that are there.
use Rattle.bye_pattern.specs.declared.level.Level.{Level}
use Rattle.std.proofs.Common.{◌≡◌, refl, true, List, [], ◌∷◌, ◌++◌, map, Option, Some, None, inl, inr, ⊎_elim, sym, ap, subst, ◌↔◌}
use Rattle.std.specs.List.{flat_map}
use Rattle.bye_terms.specs.declared.term.Term.{Term}
use Rattle.bye_terms.specs.Members.{In}
use Rattle.bye_terms.specs.Terms.{Statement}
use Rattle.bye_terms.proofs.Members.{all_in, flat_in, in_left, in_right}
use Rattle.bye_pattern.specs.declared.kind.Kind.{Kind}
use Rattle.bye_pattern.specs.declared.kind.Kind.TheVariants as kinds
use Rattle.bye_pattern.specs.declared.cond.Cond.{Cond}
use Rattle.bye_pattern.specs.declared.slot.Slot.{Slot}
use Rattle.bye_pattern.specs.declared.slot.Slot.TheVariants.{Const, Var}
use Rattle.bye_pattern.specs.Conditions.{Holds, cond_vars, same_term, same_value}
use Rattle.bye_pattern.specs.Conjuncts.{MeetsCond}
use Rattle.bye_table.specs.Domains.{IsSeen, IsWithin}
use Rattle.bye_table.specs.Mappings.{Binds, Mapping, Name}
use Rattle.bye_pattern.specs.Patterns.{Meets, Pattern, slot_under, slot_vars, vars}
use Rattle.bye_pattern.specs.Starting.{IsCommonAt, IsCommonCondAt, IsInForm}
use Rattle.bye_table.proofs.Merging.{some_same}
use Rattle.bye_pattern.proofs.SameTerms.{terms_same}
use Rattle.bye_pattern.specs.declared.cond.Cond.TheVariants as conds

-- all common triple patterns at x, and all common conditions in form, in any order
abbrev pub AreAllAt : (level : Level) → List Statement → List Mapping → List Name → Name → List Pattern → List Cond → Type 0
AreAllAt level g rows header x ps cs = ((p : Pattern) → In ps p ↔ IsCommonAt g rows x p) × ((c : Cond) → In cs c ↔ (IsCommonCondAt level rows x c × IsInForm header c))

-- of a list, the elements of which something holds; without a decision it is not so that there is no such list
sieve : {X : Type 0} (P : X → Type 0) (xs : List X) → ((ys : List X) → ((x : X) → In ys x ↔ (In xs x × P x)) → ⊥) → ⊥
sieve P [] k = k [] (λ x. ((λ h. absurd h), (λ h. h.0)))
sieve {X} P (x ∷ xs) k = sieve P xs rest
  where
    rest : (ys : List X) → ((y : X) → In ys y ↔ (In xs y × P y)) → ⊥
    rest ys same = k ys (λ y. (
      (λ h. let w = (same y).0 h in (inr w.0, w.1)),
      (λ h. ⊎_elim (λ e. absurd (left (subst P (sym e) h.1))) (λ k. (same y).1 (k, h.1)) h.0),
    ))
      where
        left : P x → ⊥
        left here = k (x ∷ ys) (λ y. (
          (λ h. ⊎_elim (λ e. (inl e, subst P e here)) (λ k. let w = (same y).0 k in (inr w.0, w.1)) h),
          (λ h. ⊎_elim (λ e. inl e) (λ k. inr ((same y).1 (k, h.1))) h.0),
        ))

-- what may stand where a triple has a term
slots : List Name → Term → List Slot
slots vs t = Const t ∷ map Var vs

-- patterns with this subject and predicate, and what may stand as object
shapes_at : List Name → Statement → Slot → Slot → List Pattern
shapes_at vs f s p = map (λ o. record { s = s; p = p; o = o }) (slots vs f.o)

-- patterns that may become the triple
pub shapes : List Name → Statement → List Pattern
shapes vs f = flat_map (λ s. flat_map (shapes_at vs f s) (slots vs f.p)) (slots vs f.s)

-- an element of a list, mapped
in_map : {X Y : Type 0} (f : X → Y) (xs : List X) (x : X) → In xs x → In (map f xs) (f x)
in_map f [] x h = absurd h
in_map f (z ∷ xs) x (inl e) = inl (ap f e)
in_map f (z ∷ xs) x (inr h) = inr (in_map f xs x h)

-- what stands for a term is the term itself or one of the variables
slot_in : (vs : List Name) (m : Mapping) (s : Slot) (t : Term) → ((v : Name) → In (slot_vars s) v → In vs v) → slot_under m s ≡ Some t → In (slots vs t) s
unfolding slots
slot_in vs m (Var v) t inside e = inr (in_map Var vs v (inside v (inl refl)))
slot_in vs m (Const c) t inside e = inl (ap Const (sym (some_same e)))

-- a pattern over these variables that is met is one of the shapes
pub shape_in : (vs : List Name) (m : Mapping) (g : List Statement) (p : Pattern) → ((v : Name) → In (vars p) v → In vs v) → Meets g m p → In (flat_map (shapes vs) g) p
unfolding shapes shapes_at
shape_in vs m g p inside (f, there, is) =
    flat_in (shapes vs) g f p there
    (flat_in (λ s. flat_map (shapes_at vs f s) (slots vs f.p)) (slots vs f.s) p.s p
    (slot_in vs m p.s f.s (λ v h. inside v (in_left _ _ v (in_left _ _ v h))) is.s)
    (flat_in (shapes_at vs f p.s) (slots vs f.p) p.p p
    (slot_in vs m p.p f.p (λ v h. inside v (in_left _ _ v (in_right (slot_vars p.s) _ v h))) is.p)
    (in_map (λ o. record { s = p.s; p = p.p; o = o }) (slots vs f.o) p.o
    (slot_in vs m p.o f.o (λ v h. inside v (in_right (slot_vars p.s ++ slot_vars p.p) _ v h)) is.o))))

-- the condition that a variable has its value
unfoldable pub value_conds : Name → Option Term → List Cond
value_conds v None = []
value_conds v (Some t) = conds.SameConst v t ∷ []

-- the kind tests of a variable
unfoldable pub kind_conds : Name → List Cond
kind_conds v = conds.KindOf kinds.Iri v ∷ conds.KindOf kinds.Blank v ∷ conds.KindOf kinds.Literal v ∷ []

-- conditions over these variables that may hold of the mapping
unfoldable pub cond_shapes : List Name → Mapping → List Cond
cond_shapes vs m = map conds.Bound vs ++ (flat_map (λ v. map (conds.SameVar v) vs) vs ++ (flat_map (λ v. value_conds v (m v)) vs ++ flat_map kind_conds vs))

-- a sameTerm that is true tells the value
pub same_of : (o : Option Term) (t : Term) → same_value o (Some t) ≡ Some true → o ≡ Some t
same_of None t e = cc
same_of (Some s) t e = let k : same_term s t ≡ true = cc in ap Some (terms_same s t k)

-- the condition of a value is there
value_in : (v : Name) (o : Option Term) (t : Term) → o ≡ Some t → In (value_conds v o) (conds.SameConst v t)
unfolding value_conds
value_in v None t e = cc
value_in v (Some s) t e = inl (ap (conds.SameConst v) (some_same e))

-- each kind test is there
kind_in : (v : Name) (kind : Kind) → In (kind_conds v) (conds.KindOf kind v)
unfolding kind_conds
kind_in v kinds.Iri = inl refl
kind_in v kinds.Blank = inr (inl refl)
kind_in v kinds.Literal = inr (inr (inl refl))

-- a condition over these variables that holds is one of the shapes
pub cond_in : (vs : List Name) (m : Mapping) (c : Cond) → ((v : Name) → In (cond_vars c) v → In vs v) → Holds m c → In (cond_shapes vs m) c
unfolding cond_shapes
cond_in vs m (conds.Bound v) inside h = in_left _ _ (conds.Bound v) (in_map conds.Bound vs v (inside v (inl refl)))
cond_in vs m (conds.SameVar v w) inside h =
    in_right (map conds.Bound vs) _ (conds.SameVar v w) (in_left _ _ (conds.SameVar v w)
    (flat_in (λ v. map (conds.SameVar v) vs) vs v (conds.SameVar v w) (inside v (inl refl)) (in_map (conds.SameVar v) vs w (inside w (inr (inl refl))))))
cond_in vs m (conds.SameConst v t) inside h =
    in_right (map conds.Bound vs) _ (conds.SameConst v t) (in_right (flat_map (λ v. map (conds.SameVar v) vs) vs) _ (conds.SameConst v t)
    (in_left _ _ (conds.SameConst v t) (flat_in (λ v. value_conds v (m v)) vs v (conds.SameConst v t) (inside v (inl refl)) (value_in v (m v) t (same_of (m v) t h)))))
cond_in vs m (conds.KindOf kind v) inside h =
    in_right (map conds.Bound vs) _ (conds.KindOf kind v) (in_right (flat_map (λ v. map (conds.SameVar v) vs) vs) _ (conds.KindOf kind v)
    (in_right (flat_map (λ v. value_conds v (m v)) vs) _ (conds.KindOf kind v)
    (flat_in kind_conds vs v (conds.KindOf kind v) (inside v (inl refl)) (kind_in v kind))))

-- it is not so that there are no such lists
pub some_lists : (level : Level) → (g : List Statement) (rows : List Mapping) (header : List Name) (x : Name) → IsSeen rows x → ((v : Name) → IsWithin rows x v → In header v)
    → ((ps : List Pattern) (cs : List Cond) → AreAllAt level g rows header x ps cs → ⊥) → ⊥
some_lists level g rows header x seen inside k =
    let m = seen.0 in
    sieve (IsCommonAt g rows x) (flat_map (shapes header) g) (λ ps triples.
    sieve (λ c. IsCommonCondAt level rows x c × IsInForm header c) (cond_shapes header m) (λ cs conditions.
    k ps cs (
      (λ p. (
        (λ h. ((triples p).0 h).1),
        (λ common. (triples p).1 (shape_in header m g p (λ v h. inside v (common.over v h)) (all_in (λ m. Binds m x → Meets g m p) rows m common.holds seen.1 seen.2), common)),
      )),
      (λ c. (
        (λ h. ((conditions c).0 h).1),
        (λ common. (conditions c).1 (cond_in header m c (λ v h. inside v (common.0.over v h)) (all_in (λ m. Binds m x → MeetsCond m c) rows m common.0.holds seen.1 seen.2).1, common)),
      )),
    )))

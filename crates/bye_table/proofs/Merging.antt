-- What mappings bind, and how they merge and are restricted.
use Rattle.std.proofs.Common.{◌≡◌, refl, true, cond, ◌||◌, List, [], ◌∷◌, Option, Some, None, ◌⊎◌, inl, inr, ⊎_elim, sym, ◌∙◌, ap, subst, IsSome}
use Rattle.std.specs.Str.{bytes_eq}
use Rattle.std.proofs.lemmas.Slice.Eq.{bytes_eq-Decides}
use Rattle.bye_terms.specs.declared.term.Term.{Term}
use Rattle.bye_terms.specs.Members.{In}
use Rattle.bye_terms.proofs.Tests.{bool_cases, one_part, second, not_both}
use Rattle.bye_table.specs.Mappings.{Name, Mapping, nothing, Binds, Exactly, first_of, merge, Compatible, is_in, restrict}

-- a value that is there
pub bound : (o : Option Term) → IsSome o → (t : Term) × (o ≡ Some t)
bound None h = cc
bound (Some t) h = (t, refl)

pub binds : (o : Option Term) (t : Term) → o ≡ Some t → IsSome o
binds o t e = subst (λ o. IsSome o) (sym e) refl

pub unbound : (o : Option Term) → (IsSome o → ⊥) → o ≡ None
unbound None h = refl
unbound (Some t) h = absurd (h refl)

pub some_or_none : (o : Option Term) → IsSome o ⊎ (o ≡ None)
some_or_none None = inr refl
some_or_none (Some t) = inl refl

pub not_bound : (o : Option Term) → o ≡ None → IsSome o → ⊥
not_bound o e h = let k = subst (λ o. IsSome o) e h in cc

pub some_same : {s t : Term} → ◌≡◌ {A = Option Term} (Some s) (Some t) → s ≡ t
some_same e = cc

pub nothing_bound : (m : Mapping) → ((v : Name) → Binds m v → ⊥) → m ≡ nothing
nothing_bound m h = λ i v. unbound (m v) (h v) i

-- the test of a name in a list
pub in_is : (vs : List Name) (v : Name) → In vs v → is_in vs v ≡ true
in_is [] v h = absurd h
in_is (w ∷ vs) v (inl e) = ap (λ b. b || is_in vs v) ((bytes_eq-Decides w v).1 e)
in_is (w ∷ vs) v (inr h) = second (bytes_eq w v) _ (in_is vs v h)

pub is_in_in : (vs : List Name) (v : Name) → is_in vs v ≡ true → In vs v
is_in_in [] v h = cc
is_in_in (w ∷ vs) v h = ⊎_elim (λ e. inl ((bytes_eq-Decides w v).0 e)) (λ e. inr (is_in_in vs v e)) (one_part _ _ h)

pub in_or_not : (vs : List Name) (v : Name) → In vs v ⊎ (In vs v → ⊥)
in_or_not vs v = ⊎_elim (λ e. inl (is_in_in vs v e)) (λ e. inr (λ h. not_both _ (in_is vs v h) e)) (bool_cases (is_in vs v))

-- restriction
pub restrict_in : (vs : List Name) (m : Mapping) (v : Name) → In vs v → restrict vs m v ≡ m v
restrict_in vs m v h = ap (λ b. cond b (m v) None) (in_is vs v h)

pub restrict_some : (vs : List Name) (m : Mapping) (v : Name) (t : Term) → restrict vs m v ≡ Some t → In vs v × (m v ≡ Some t)
restrict_some vs m v t e =
    ⊎_elim (λ h. (is_in_in vs v h, sym (ap (λ b. cond b (m v) None) h) ∙ e))
    (λ h. let n = sym (ap (λ b. cond b (m v) None) h) ∙ e in cc) (bool_cases (is_in vs v))

pub restrict_tells : (vs : List Name) (m : Mapping) (v : Name) (t : Term) → In vs v → m v ≡ Some t → restrict vs m v ≡ Some t
restrict_tells vs m v t h e = restrict_in vs m v h ∙ e

pub restrict_binds : (vs : List Name) (m : Mapping) (v : Name) → Binds (restrict vs m) v → In vs v × Binds m v
restrict_binds vs m v h =
    let w = bound (restrict vs m v) h in
    let r = restrict_some vs m v w.0 w.1 in
    (r.0, binds (m v) w.0 r.1)

pub restrictions_agree : (xs ys : List Name) (m : Mapping) → Compatible (restrict xs m) (restrict ys m)
restrictions_agree xs ys m v s t d e =
    some_same (sym (restrict_some xs m v s d).1 ∙ (restrict_some ys m v t e).1)

-- a mapping is its restriction to variables among which it binds all that it binds
pub restrict_within : (vs : List Name) (m : Mapping) → ((v : Name) → Binds m v → In vs v) → m ≡ restrict vs m
restrict_within vs m within = λ i v. at v i
  where
    at : (v : Name) → m v ≡ restrict vs m v
    at v = ⊎_elim (λ h. sym (restrict_in vs m v (within v h)))
        (λ e. e ∙ sym (unbound (restrict vs m v) (λ h. not_bound (m v) e (restrict_binds vs m v h).1))) (some_or_none (m v))

pub restrict_whole : (vs : List Name) (m : Mapping) → Exactly vs m → m ≡ restrict vs m
restrict_whole vs m exactly = restrict_within vs m (λ v h. (exactly v).0 h)

-- merging
first_right : (o p : Option Term) (t : Term) → ((s : Term) → o ≡ Some s → s ≡ t) → p ≡ Some t → first_of o p ≡ Some t
first_right None p t same e = e
first_right (Some s) p t same e = ap Some (same s refl)

first_bound : (o p : Option Term) → IsSome (first_of o p) → IsSome o ⊎ IsSome p
first_bound None p h = inr h
first_bound (Some s) p h = inl refl

pub merge_left : (a b : Mapping) (v : Name) (t : Term) → a v ≡ Some t → merge a b v ≡ Some t
merge_left a b v t e = ap (λ o. first_of o (b v)) e

pub merge_right : (a b : Mapping) (v : Name) (t : Term) → Compatible a b → b v ≡ Some t → merge a b v ≡ Some t
merge_right a b v t same e = first_right (a v) (b v) t (λ s d. same v s t d e) e

pub merge_bound : (a b : Mapping) (v : Name) → Binds (merge a b) v → Binds a v ⊎ Binds b v
merge_bound a b v h = first_bound (a v) (b v) h

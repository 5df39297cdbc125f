-- Tests of a list's elements, lists that are filtered, and lists that are mapped.
use Rattle.std.proofs.Common.{◌≡◌, refl, Bool, true, false, cond, ◌||◌, List, [], ◌∷◌, ◌++◌, map, inl, inr, ⊎_elim, sym, ◌∙◌, ap, subst}
use Rattle.std.specs.List.{AllByRecursion, filter, list_any, list_all}
use Rattle.bye_terms.specs.Members.{In, EachOnce}
use Rattle.bye_terms.proofs.Tests.{bool_cases, both, both_parts, not_both, one_part, second}

-- where some element passes, there is one
pub any_in : {X : Type 0} (f : X → Bool) (xs : List X) → list_any f xs ≡ true → (x : X) × In xs x × (f x ≡ true)
any_in f [] e = cc
any_in f (x ∷ xs) e = ⊎_elim (λ h. (x, inl refl, h)) (λ h. let w = any_in f xs h in (w.0, inr w.1, w.2)) (one_part _ _ e)

pub in_any : {X : Type 0} (f : X → Bool) (xs : List X) (x : X) → In xs x → f x ≡ true → list_any f xs ≡ true
in_any f [] x h e = absurd h
in_any f (y ∷ xs) x (inl same) e = ap (λ b. b || list_any f xs) (ap f same ∙ e)
in_any f (y ∷ xs) x (inr h) e = second (f y) _ (in_any f xs x h e)

-- where none passes, each fails
pub none_of : {X : Type 0} (f : X → Bool) (xs : List X) → list_any f xs ≡ false → (x : X) → In xs x → f x ≡ false
none_of f xs e x h = ⊎_elim (λ t. absurd (not_both _ (in_any f xs x h t) e)) (λ n. n) (bool_cases (f x))

-- where all pass, each does
pub each_of : {X : Type 0} (f : X → Bool) (xs : List X) → list_all f xs ≡ true → (x : X) → In xs x → f x ≡ true
each_of f [] e x h = absurd h
each_of f (y ∷ xs) e x (inl same) = sym (ap f same) ∙ (both_parts _ _ e).0
each_of f (y ∷ xs) e x (inr h) = each_of f xs (both_parts _ _ e).1 x h

pub of_each : {X : Type 0} (f : X → Bool) (xs : List X) → ((x : X) → In xs x → f x ≡ true) → list_all f xs ≡ true
of_each f [] h = refl
of_each f (x ∷ xs) h = both _ _ (h x (inl refl)) (of_each f xs (λ y k. h y (inr k)))

-- what is filtered is of the list, and passes
kept_one : {X : Type 0} (f : X → Bool) (y : X) (xs : List X) (x : X) (b : Bool) → f y ≡ b → (In (filter f xs) x → In xs x × (f x ≡ true)) → In (cond b (y ∷ filter f xs) (filter f xs)) x → In (y ∷ xs) x × (f x ≡ true)
kept_one f y xs x true e later (inl same) = (inl same, sym (ap f same) ∙ e)
kept_one f y xs x true e later (inr k) = (inr (later k).0, (later k).1)
kept_one f y xs x false e later k = (inr (later k).0, (later k).1)

pub filtered : {X : Type 0} (f : X → Bool) (xs : List X) (x : X) → In (filter f xs) x → In xs x × (f x ≡ true)
filtered f [] x h = absurd h
filtered f (y ∷ xs) x h = kept_one f y xs x (f y) refl (filtered f xs x) h

kept_later : {X : Type 0} (b : Bool) (y : X) (xs : List X) (x : X) → In xs x → In (cond b (y ∷ xs) xs) x
kept_later true y xs x h = inr h
kept_later false y xs x h = h

pub in_filtered : {X : Type 0} (f : X → Bool) (xs : List X) (x : X) → In xs x → f x ≡ true → In (filter f xs) x
in_filtered f [] x h e = absurd h
in_filtered f (y ∷ xs) x (inl same) e = subst (λ b. In (cond b (y ∷ filter f xs) (filter f xs)) x) (sym (ap f same ∙ e)) (inl same)
in_filtered f (y ∷ xs) x (inr h) e = kept_later (f y) y (filter f xs) x (in_filtered f xs x h e)

-- a list without repeats stays so
once_kept : {X : Type 0} (f : X → Bool) (y : X) (xs : List X) (b : Bool) → EachOnce (y ∷ xs) → EachOnce (filter f xs) → EachOnce (cond b (y ∷ filter f xs) (filter f xs))
once_kept f y xs true once rest = ((λ h. once.0 (filtered f xs y h).0), rest)
once_kept f y xs false once rest = rest

pub filtered_once : {X : Type 0} (f : X → Bool) (xs : List X) → EachOnce xs → EachOnce (filter f xs)
filtered_once f [] once = tt
filtered_once f (y ∷ xs) once = once_kept f y xs (f y) once (filtered_once f xs once.1)

-- what is mapped comes from the list
pub in_map : {X Y : Type 0} (f : X → Y) (xs : List X) (y : Y) → In (map f xs) y → (x : X) × In xs x × (f x ≡ y)
in_map f [] y h = absurd h
in_map f (x ∷ xs) y (inl e) = (x, inl refl, e)
in_map f (x ∷ xs) y (inr h) = let w = in_map f xs y h in (w.0, inr w.1, w.2)

pub map_in : {X Y : Type 0} (f : X → Y) (xs : List X) (x : X) → In xs x → In (map f xs) (f x)
map_in f [] x h = absurd h
map_in f (z ∷ xs) x (inl e) = inl (ap f e)
map_in f (z ∷ xs) x (inr h) = inr (map_in f xs x h)

-- a fact of all that is mapped
pub all_map : {X Y : Type 0} (P : Y → Type 0) (f : X → Y) (xs : List X) → AllByRecursion (λ x. P (f x)) xs → AllByRecursion P (map f xs)
all_map P f [] all = tt
all_map P f (x ∷ xs) all = (all.0, all_map P f xs all.1)

pub map_all : {X Y : Type 0} (P : Y → Type 0) (f : X → Y) (xs : List X) → AllByRecursion P (map f xs) → AllByRecursion (λ x. P (f x)) xs
map_all P f [] all = tt
map_all P f (x ∷ xs) all = (all.0, map_all P f xs all.1)

-- a fact of all elements of two lists joined
pub all_join : {X : Type 0} (P : X → Type 0) (xs ys : List X) → AllByRecursion P xs → AllByRecursion P ys → AllByRecursion P (xs ++ ys)
all_join P [] ys a b = b
all_join P (x ∷ xs) ys a b = (a.0, all_join P xs ys a.1 b)

pub all_parts : {X : Type 0} (P : X → Type 0) (xs ys : List X) → AllByRecursion P (xs ++ ys) → AllByRecursion P xs × AllByRecursion P ys
all_parts P [] ys all = (tt, all)
all_parts P (x ∷ xs) ys all = let w = all_parts P xs ys all.1 in ((all.0, w.0), w.1)

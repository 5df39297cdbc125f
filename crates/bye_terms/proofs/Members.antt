-- Elements of lists.
use Rattle.std.proofs.Common.{◌≡◌, refl, ℕ, zero, suc, ◌<◌, List, [], ◌∷◌, ◌++◌, ◌⊎◌, inl, inr, ⊎_elim, subst, sym, length, get_or, arith}
use Rattle.std.specs.List.{flat_map, Contains, AllByRecursion}
use Rattle.bye_terms.specs.Members.{In, EachOnce}

pub in_cases : {X : Type 0} (xs ys : List X) (x : X) → In (xs ++ ys) x → In xs x ⊎ In ys x
in_cases [] ys x h = inr h
in_cases (z ∷ xs) ys x (inl e) = inl (inl e)
in_cases (z ∷ xs) ys x (inr h) = ⊎_elim (λ h. inl (inr h)) inr (in_cases xs ys x h)

pub in_left : {X : Type 0} (xs ys : List X) (x : X) → In xs x → In (xs ++ ys) x
in_left [] ys x h = absurd h
in_left (z ∷ xs) ys x (inl e) = inl e
in_left (z ∷ xs) ys x (inr h) = inr (in_left xs ys x h)

pub in_right : {X : Type 0} (xs ys : List X) (x : X) → In ys x → In (xs ++ ys) x
in_right [] ys x h = h
in_right (z ∷ xs) ys x h = inr (in_right xs ys x h)

pub in_flat : {X Y : Type 0} (f : X → List Y) (xs : List X) (y : Y) → In (flat_map f xs) y → (x : X) × In xs x × In (f x) y
in_flat f [] y h = absurd h
in_flat f (x ∷ xs) y h = ⊎_elim (λ k. (x, inl refl, k)) (λ k. let w = in_flat f xs y k in (w.0, inr w.1, w.2)) (in_cases (f x) _ y h)

pub flat_in : {X Y : Type 0} (f : X → List Y) (xs : List X) (x : X) (y : Y) → In xs x → In (f x) y → In (flat_map f xs) y
flat_in f [] x y h k = absurd h
flat_in f (z ∷ xs) x y (inl e) k = in_left _ _ y (subst (λ x. In (f x) y) (sym e) k)
flat_in f (z ∷ xs) x y (inr h) k = in_right (f z) _ y (flat_in f xs x y h k)

-- a fact of each element
pub all_in : {X : Type 0} (P : X → Type 0) (xs : List X) (x : X) → AllByRecursion P xs → In xs x → P x
all_in P [] x all h = absurd h
all_in P (y ∷ xs) x all (inl e) = subst P e all.0
all_in P (y ∷ xs) x all (inr h) = all_in P xs x all.1 h

pub all_from : {X : Type 0} (P : X → Type 0) (xs : List X) → ((x : X) → In xs x → P x) → AllByRecursion P xs
all_from P [] h = tt
all_from P (x ∷ xs) h = (h x (inl refl), all_from P xs (λ y k. h y (inr k)))

-- an element by its place
pub in_contains : {X : Type 0} (xs : List X) (x : X) → In xs x → Contains xs x
in_contains [] x h = absurd h
in_contains (y ∷ xs) x (inl e) = (0, omega arith, e)
in_contains (y ∷ xs) x (inr h) = let w = in_contains xs x h in let k : ℕ = w.0 in let l : k < length xs = w.1 in (suc k, omega arith, w.2)

contained : {X : Type 0} (xs : List X) (x : X) (k : ℕ) → k < length xs → get_or xs k x ≡ x → In xs x
contained [] x k l e = absurd (omega arith)
contained (y ∷ xs) x zero l e = inl e
contained (y ∷ xs) x (suc k) l e = inr (contained xs x k (omega arith) e)

pub contains_in : {X : Type 0} (xs : List X) (x : X) → Contains xs x → In xs x
contains_in xs x h = contained xs x h.0 h.1 h.2

-- one more element, which is not there yet
pub once_more : {X : Type 0} (xs : List X) (x : X) → EachOnce xs → (In xs x → ⊥) → EachOnce (xs ++ x ∷ [])
once_more [] x once new = ((λ h. h), tt)
once_more (y ∷ xs) x once new = (
  (λ h. ⊎_elim once.0 (λ k. ⊎_elim (λ e. new (inl (sym e))) (λ n. n) k) (in_cases xs (x ∷ []) y h)),
  once_more xs x once.1 (λ h. new (inr h)),
)

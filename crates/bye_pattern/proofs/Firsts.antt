-- The first of a list with a property.
use Rattle.std.proofs.Common.{◌≡◌, refl, Bool, true, false, cond, List, [], ◌∷◌, Some, inl, inr, subst, ◌↔◌}
use Rattle.std.specs.Prelude.{find}
use Rattle.std.specs.List.{filter}
use Rattle.bye_terms.specs.Members.{In}
use Rattle.bye_terms.proofs.Tests.{not_both}
use Rattle.bye_table.specs.Mappings.{Name}
use Rattle.bye_pattern.specs.FirstClaims.{IsFirstWith}

-- it is of the list, and has it
pub first_has : (P : Name → Type 0) (xs : List Name) (x : Name) → IsFirstWith P xs x → In xs x × P x
first_has P [] x h = absurd h
first_has P (y ∷ xs) x (inl h) = (inl h.0, subst P h.0 h.1)
first_has P (y ∷ xs) x (inr h) = let w = first_has P xs x h.1 in (inr w.0, w.1)

-- by an equal property, by a test, and by a test of those that pass another
pub first_alike : (P Q : Name → Type 0) (xs : List Name) (x : Name) → ((v : Name) → P v ↔ Q v) → IsFirstWith P xs x → IsFirstWith Q xs x
first_alike P Q [] x same h = h
first_alike P Q (y ∷ xs) x same (inl h) = inl (h.0, (same y).0 h.1)
first_alike P Q (y ∷ xs) x same (inr h) = inr ((λ q. h.0 ((same y).1 q)), first_alike P Q xs x same h.1)

first_here : (f : Name → Bool) (y : Name) (xs : List Name) (x : Name) (b : Bool) → f y ≡ b → (find f xs ≡ Some x → IsFirstWith (λ v. f v ≡ true) xs x) → cond b (Some y) (find f xs) ≡ Some x
    → IsFirstWith (λ v. f v ≡ true) (y ∷ xs) x
first_here f y xs x true k later e = let same : y ≡ x = cc in inl (same, k)
first_here f y xs x false k later e = inr ((λ t. not_both (f y) t k), later e)

pub first_found : (f : Name → Bool) (xs : List Name) (x : Name) → find f xs ≡ Some x → IsFirstWith (λ v. f v ≡ true) xs x
first_found f [] x e = cc
first_found f (y ∷ xs) x e = first_here f y xs x (f y) refl (λ e. first_found f xs x e) e

filter_here : (b f : Name → Bool) (y : Name) (xs : List Name) (x : Name) (c : Bool) → b y ≡ c
    → (IsFirstWith (λ v. f v ≡ true) (filter b xs) x → IsFirstWith (λ v. (b v ≡ true) × (f v ≡ true)) xs x)
    → IsFirstWith (λ v. f v ≡ true) (cond c (y ∷ filter b xs) (filter b xs)) x → IsFirstWith (λ v. (b v ≡ true) × (f v ≡ true)) (y ∷ xs) x
filter_here b f y xs x true k later (inl h) = inl (h.0, (k, h.1))
filter_here b f y xs x true k later (inr h) = inr ((λ w. h.0 w.1), later h.1)
filter_here b f y xs x false k later h = inr ((λ w. not_both (b y) w.0 k), later h)

pub first_filtered : (b f : Name → Bool) (xs : List Name) (x : Name) → IsFirstWith (λ v. f v ≡ true) (filter b xs) x → IsFirstWith (λ v. (b v ≡ true) × (f v ≡ true)) xs x
first_filtered b f [] x h = h
first_filtered b f (y ∷ xs) x h = filter_here b f y xs x (b y) refl (first_filtered b f xs x) h

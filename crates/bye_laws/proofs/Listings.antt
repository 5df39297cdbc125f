-- The values of a mapping as the list of a certificate.
use Rattle.std.proofs.Common.{◌≡◌, cond, List, [], ◌∷◌, Option, Some, None, ◌⊎◌, inl, inr, ⊎_elim, sym, ◌∙◌, ap}
use Rattle.std.specs.Str.{bytes_eq}
use Rattle.std.proofs.lemmas.Slice.Eq.{bytes_eq-Decides}
use Rattle.bye_terms.specs.declared.term.Term.{Term}
use Rattle.bye_terms.specs.Members.{EachOnce, In}
use Rattle.bye_terms.proofs.Tests.{bool_cases, not_both}
use Rattle.bye_table.specs.Mappings.{Binds, Mapping, Name, NoRepeat, Pairs, row_mapping}
use Rattle.bye_pattern.specs.FirstClaims.{listing, with_value}
use Rattle.bye_table.proofs.Merging.{binds, bound, not_bound, some_or_none, unbound}

-- what a longer list tells
from_pair : (v w : Name) (o : Option Term) (rest : Pairs) (t : Term) → row_mapping (with_value v o rest) w ≡ Some t → ((v ≡ w) × (o ≡ Some t)) ⊎ (row_mapping rest w ≡ Some t)
from_pair v w None rest t e = inr e
from_pair v w (Some s) rest t e =
    ⊎_elim
    (λ b. inl ((bytes_eq-Decides v w).0 b, sym (ap (λ b. cond b (Some s) (row_mapping rest w)) b) ∙ e))
    (λ b. inr (sym (ap (λ b. cond b (Some s) (row_mapping rest w)) b) ∙ e))
    (bool_cases (bytes_eq v w))

-- what is told to a longer list
to_pair : (v w : Name) (o : Option Term) (rest : Pairs) (t : Term) → (v ≡ w → o ≡ Some t) → (v ≡ w) ⊎ (row_mapping rest w ≡ Some t) → row_mapping (with_value v o rest) w ≡ Some t
to_pair v w None rest t here h = ⊎_elim (λ e. let k = here e in cc) (λ k. k) h
to_pair v w (Some s) rest t here h =
    ⊎_elim
    (λ b. ap (λ b. cond b (Some s) (row_mapping rest w)) b ∙ here ((bytes_eq-Decides v w).0 b))
    (λ b. ap (λ b. cond b (Some s) (row_mapping rest w)) b ∙ ⊎_elim (λ e. absurd (not_both _ ((bytes_eq-Decides v w).1 e) b)) (λ k. k) h)
    (bool_cases (bytes_eq v w))

-- the list tells values of the mapping
listed_from : (vs : List Name) (e : Mapping) (w : Name) (t : Term) → row_mapping (listing vs e) w ≡ Some t → e w ≡ Some t
listed_from [] e w t h = cc
listed_from (v ∷ vs) e w t h = ⊎_elim (λ k. ap e (sym k.0) ∙ k.1) (λ k. listed_from vs e w t k) (from_pair v w (e v) (listing vs e) t h)

-- of these variables
listed_in : (vs : List Name) (e : Mapping) (w : Name) (t : Term) → row_mapping (listing vs e) w ≡ Some t → In vs w
listed_in [] e w t h = cc
listed_in (v ∷ vs) e w t h = ⊎_elim (λ k. inl k.0) (λ k. inr (listed_in vs e w t k)) (from_pair v w (e v) (listing vs e) t h)

-- and the values of the mapping
listed_to : (vs : List Name) (e : Mapping) (w : Name) (t : Term) → In vs w → e w ≡ Some t → row_mapping (listing vs e) w ≡ Some t
listed_to [] e w t h k = absurd h
listed_to (v ∷ vs) e w t h k =
    to_pair v w (e v) (listing vs e) t (λ same. ap e same ∙ k) (⊎_elim (λ same. inl same) (λ i. inr (listed_to vs e w t i k)) h)

-- of variables that are listed once it tells none twice
pair_once : (v : Name) (o : Option Term) (rest : Pairs) → row_mapping rest v ≡ None → NoRepeat rest → NoRepeat (with_value v o rest)
pair_once v None rest fresh once = once
pair_once v (Some t) rest fresh once = (fresh, once)

pub listed_once : (vs : List Name) (e : Mapping) → EachOnce vs → NoRepeat (listing vs e)
listed_once [] e once = tt
listed_once (v ∷ vs) e once =
    pair_once v (e v) (listing vs e)
    (unbound (row_mapping (listing vs e) v) (λ b. let w = bound (row_mapping (listing vs e) v) b in once.0 (listed_in vs e v w.0 w.1)))
    (listed_once vs e once.1)

-- a mapping that binds of these variables alone is that of its list
pub listed_whole : (vs : List Name) (e : Mapping) → ((v : Name) → Binds e v → In vs v) → row_mapping (listing vs e) ≡ e
listed_whole vs e inside = λ i w. at w i
  where
    at : (w : Name) → row_mapping (listing vs e) w ≡ e w
    at w = ⊎_elim
        (λ b. let v = bound (e w) b in listed_to vs e w v.0 (inside w b) v.1 ∙ sym v.1)
        (λ none. unbound (row_mapping (listing vs e) w) (λ b. let v = bound (row_mapping (listing vs e) w) b in not_bound (e w) none (binds (e w) v.0 (listed_from vs e w v.0 v.1))) ∙ sym none)
        (some_or_none (e w))

-- Mappings by numbers and the mappings that they are.
use Rattle.std.proofs.Common.{◌≡◌, refl, ℕ, zero, suc, ◌<◌, true, cond, List, [], ◌∷◌, Option, Some, None, inl, inr, ⊎_elim, sym, ◌∙◌, ap, subst, IsSome, length, get_or, slice_get, arith}
use Rattle.std.specs.Str.{bytes_eq}
use Rattle.std.proofs.lemmas.Slice.Eq.{bytes_eq-Decides}
use Rattle.bye_terms.specs.declared.term.Term.{Term}
use Rattle.bye_terms.specs.Members.{In, EachOnce}
use Rattle.bye_terms.proofs.Tests.{bool_cases}
use Rattle.bye_table.specs.Mappings.{Binds, Mapping, Name}
use Rattle.bye_pattern.specs.Conditions.{same_term}
use Rattle.bye_pattern.proofs.SameTerms.{same_self, terms_same}
use Rattle.bye_node.specs.Envs.{Cells, Grows, cell}
use Rattle.bye_node.specs.Steps.{value_at, decode}
use Rattle.bye_node.proofs.Cells.{in_some, none_or_some, same_some}

-- places of lists
pub get_in : {X : Type 0} (xs : List X) (i : ℕ) (x : X) → slice_get xs i ≡ Some x → In xs x
get_in [] i x e = cc
get_in (y ∷ xs) zero x e = inl (same_some y x e)
get_in (y ∷ xs) (suc i) x e = inr (get_in xs i x e)

pub in_get : {X : Type 0} (xs : List X) (x : X) → In xs x → (i : ℕ) × (slice_get xs i ≡ Some x)
in_get [] x h = absurd h
in_get (y ∷ xs) x (inl e) = (zero, ap Some e)
in_get (y ∷ xs) x (inr h) = let w = in_get xs x h in (suc w.0, w.1)

pub get_once : {X : Type 0} (xs : List X) (i j : ℕ) (x : X) → EachOnce xs → slice_get xs i ≡ Some x → slice_get xs j ≡ Some x → i ≡ j
get_once [] i j x once a b = cc
get_once (y ∷ xs) zero zero x once a b = refl
get_once (y ∷ xs) zero (suc j) x once a b = absurd (once.0 (get_in xs j y (b ∙ sym a)))
get_once (y ∷ xs) (suc i) zero x once a b = absurd (once.0 (get_in xs i y (a ∙ sym b)))
get_once (y ∷ xs) (suc i) (suc j) x once a b = ap suc (get_once xs i j x once.1 a b)

pub get_below : {X : Type 0} (xs : List X) (i : ℕ) (d : X) → i < length xs → slice_get xs i ≡ Some (get_or xs i d)
get_below [] i d l = absurd (omega arith)
get_below (x ∷ xs) zero d l = refl
get_below (x ∷ xs) (suc i) d l = get_below xs i d (omega arith)

pub below_get : {X : Type 0} (xs : List X) (i : ℕ) (x : X) → slice_get xs i ≡ Some x → i < length xs
below_get [] i x e = cc
below_get (y ∷ xs) zero x e = omega arith
below_get (y ∷ xs) (suc i) x e = let h : i < length xs = below_get xs i x e in omega arith

-- what is decoded at a variable
pub decode_at : (vs : List Name) (ts : List Term) (e : Cells) (i : ℕ) (v : Name) → EachOnce vs → slice_get vs i ≡ Some v → decode vs ts e v ≡ value_at ts (cell e i)
decode_at [] ts e i v once at = cc
decode_at (w ∷ vs) ts [] i v once at = refl
decode_at (w ∷ vs) ts (c ∷ e) zero v once at =
    ap (λ b. cond b (value_at ts c) (decode vs ts e v)) ((bytes_eq-Decides w v).1 (same_some w v at))
decode_at (w ∷ vs) ts (c ∷ e) (suc i) v once at =
    ⊎_elim
    (λ same. absurd (once.0 (subst (In vs) (sym ((bytes_eq-Decides w v).0 same)) (get_in vs i v at))))
    (λ other. ap (λ b. cond b (value_at ts c) (decode vs ts e v)) other ∙ decode_at vs ts e i v once.1 at)
    (bool_cases (bytes_eq w v))

-- and at a name that is none of them
pub decode_in : (vs : List Name) (ts : List Term) (e : Cells) (v : Name) → Binds (decode vs ts e) v → In vs v
decode_in [] ts e v h = cc
decode_in (w ∷ vs) ts [] v h = cc
decode_in (w ∷ vs) ts (c ∷ e) v h =
    ⊎_elim (λ same. inl ((bytes_eq-Decides w v).0 same))
    (λ other. inr (decode_in vs ts e v (subst (λ o. IsSome o) (ap (λ b. cond b (value_at ts c) (decode vs ts e v)) other) h)))
    (bool_cases (bytes_eq w v))

pub decode_lost : (vs : List Name) (ts : List Term) (e : Cells) (v : Name) → (In vs v → ⊥) → decode vs ts e v ≡ None
decode_lost vs ts e v gone = ⊎_elim (λ none. none) (λ w. absurd (gone (decode_in vs ts e v (in_some (decode vs ts e v) w.0 w.1)))) (none_or_some (decode vs ts e v))

value_some : (ts : List Term) (c : Option ℕ) (t : Term) → value_at ts c ≡ Some t → (k : ℕ) × (c ≡ Some k) × (slice_get ts k ≡ Some t)
value_some ts None t e = cc
value_some ts (Some k) t e = (k, refl, e)

-- what a variable has, by its number
pub decoded : (vs : List Name) (ts : List Term) (e : Cells) (v : Name) (t : Term) → EachOnce vs → decode vs ts e v ≡ Some t
    → (i : ℕ) × (k : ℕ) × (slice_get vs i ≡ Some v) × (cell e i ≡ Some k) × (slice_get ts k ≡ Some t)
decoded vs ts e v t once h =
    let w = in_get vs v (decode_in vs ts e v (in_some (decode vs ts e v) t h)) in
    let u = value_some ts (cell e w.0) t (sym (decode_at vs ts e w.0 v once w.1) ∙ h) in
    (w.0, u.0, w.1, u.1, u.2)

pub decodes : (vs : List Name) (ts : List Term) (e : Cells) (v : Name) (i k : ℕ) (t : Term) → EachOnce vs → slice_get vs i ≡ Some v → cell e i ≡ Some k
    → slice_get ts k ≡ Some t → decode vs ts e v ≡ Some t
decodes vs ts e v i k t once at is term = decode_at vs ts e i v once at ∙ ap (value_at ts) is ∙ term

-- the number of a term
abbrev later : Option ℕ → Option ℕ
later None = None
later (Some k) = Some (suc k)

abbrev number : List Term → Term → Option ℕ
number [] t = None
number (s ∷ ts) t = cond (same_term s t) (Some zero) (later (number ts t))

later_some : (o : Option ℕ) (k : ℕ) → later o ≡ Some k → (j : ℕ) × (o ≡ Some j) × (k ≡ suc j)
later_some None k e = cc
later_some (Some j) k e = (j, refl, sym (same_some (suc j) k e))

pub number_is : (ts : List Term) (t : Term) (k : ℕ) → number ts t ≡ Some k → slice_get ts k ≡ Some t
number_is [] t k e = cc
number_is (s ∷ ts) t k e =
    ⊎_elim
    (λ same. let here : Some zero ≡ Some k = sym (ap (λ b. cond b (Some zero) (later (number ts t))) same) ∙ e in
    subst (λ k. slice_get (s ∷ ts) k ≡ Some t) (same_some zero k here) (ap Some (terms_same s t same)))
    (λ other. let w = later_some (number ts t) k (sym (ap (λ b. cond b (Some zero) (later (number ts t))) other) ∙ e) in
    subst (λ k. slice_get (s ∷ ts) k ≡ Some t) (sym w.2) (number_is ts t w.0 w.1))
    (bool_cases (same_term s t))

pub has_number : (ts : List Term) (t : Term) → In ts t → (k : ℕ) × (number ts t ≡ Some k)
has_number [] t h = absurd h
has_number (s ∷ ts) t (inl e) = (zero, ap (λ b. cond b (Some zero) (later (number ts t))) (subst (λ t. same_term s t ≡ true) e (same_self s)))
has_number (s ∷ ts) t (inr h) =
    let w = has_number ts t h in
    ⊎_elim
    (λ same. (zero, ap (λ b. cond b (Some zero) (later (number ts t))) same))
    (λ other. (suc w.0, ap (λ b. cond b (Some zero) (later (number ts t))) other ∙ ap later w.1))
    (bool_cases (same_term s t))

-- a mapping by numbers over one that is begun
abbrev pub of_value : List Term → Option Term → Option ℕ
of_value ts None = None
of_value ts (Some t) = number ts t

abbrev first_cell : Option ℕ → Option ℕ → Option ℕ
first_cell None d = d
first_cell (Some k) d = Some k

abbrev pub encode : List Name → List Term → Mapping → Cells → Cells
encode [] ts m e = e
encode (w ∷ vs) ts m [] = []
encode (w ∷ vs) ts m (c ∷ e) = first_cell c (of_value ts (m w)) ∷ encode vs ts m e

encode_len : (vs : List Name) (ts : List Term) (m : Mapping) (e : Cells) → length (encode vs ts m e) ≡ length e
encode_len [] ts m e = refl
encode_len (w ∷ vs) ts m [] = refl
encode_len (w ∷ vs) ts m (c ∷ e) = ap suc (encode_len vs ts m e)

encode_keeps : (vs : List Name) (ts : List Term) (m : Mapping) (e : Cells) (i k : ℕ) → cell e i ≡ Some k → cell (encode vs ts m e) i ≡ Some k
encode_keeps [] ts m e i k h = h
encode_keeps (w ∷ vs) ts m [] i k h = cc
encode_keeps (w ∷ vs) ts m (c ∷ e) zero k h = ap (λ c. first_cell c (of_value ts (m w))) h
encode_keeps (w ∷ vs) ts m (c ∷ e) (suc i) k h = encode_keeps vs ts m e i k h

pub encode_grows : (vs : List Name) (ts : List Term) (m : Mapping) (e : Cells) → Grows e (encode vs ts m e)
encode_grows vs ts m e = record { len = encode_len vs ts m e; keeps = encode_keeps vs ts m e }

-- a new cell is the number of what the mapping has there
pub encode_new : (vs : List Name) (ts : List Term) (m : Mapping) (e : Cells) (i : ℕ) (v : Name) → length e ≡ length vs → slice_get vs i ≡ Some v → cell e i ≡ None
    → cell (encode vs ts m e) i ≡ of_value ts (m v)
encode_new [] ts m e i v len at h = cc
encode_new (w ∷ vs) ts m [] i v len at h = absurd (omega arith)
encode_new (w ∷ vs) ts m (c ∷ e) zero v len at h =
    ap (λ c. first_cell c (of_value ts (m w))) h ∙ ap (λ v. of_value ts (m v)) (same_some w v at)
encode_new (w ∷ vs) ts m (c ∷ e) (suc i) v len at h = encode_new vs ts m e i v (omega arith) at h

-- a cell that has a number has a variable
pub cell_var : (vs : List Name) (e : Cells) (i k : ℕ) → length e ≡ length vs → cell e i ≡ Some k → (v : Name) × (slice_get vs i ≡ Some v)
cell_var [] [] i k len h = cc
cell_var [] (c ∷ e) i k len h = absurd (omega arith)
cell_var (w ∷ vs) [] i k len h = cc
cell_var (w ∷ vs) (c ∷ e) zero k len h = (w, refl)
cell_var (w ∷ vs) (c ∷ e) (suc i) k len h = cell_var vs e i k (omega arith) h

pub of_some : (ts : List Term) (o : Option Term) (k : ℕ) → of_value ts o ≡ Some k → (u : Term) × (o ≡ Some u)
of_some ts None k e = cc
of_some ts (Some u) k e = (u, refl)

-- The first with a property, the least number with it, rows by their numbers, and the search for a mapping by its values.
use Rattle.std.proofs.Common.{◌≡◌, refl, ℕ, zero, suc, ◌<◌, cond, List, [], ◌∷◌, ◌++◌, map, length, Some, ◌⊎◌, inl, inr, ⊎_elim, sym, ◌∙◌, ap, subst, arith, IsSome}
use Rattle.std.specs.List.{flat_map}
use Rattle.std.specs.Str.{bytes_eq}
use Rattle.std.proofs.lemmas.Slice.Eq.{bytes_eq-Decides}
use Rattle.bye_terms.specs.declared.term.Term.{Term}
use Rattle.bye_terms.specs.Members.{In}
use Rattle.bye_terms.specs.Terms.{Statement}
use Rattle.bye_terms.proofs.Lists.{in_map, map_in}
use Rattle.bye_terms.proofs.Members.{flat_in, in_cases, in_flat, in_left, in_right}
use Rattle.bye_terms.proofs.Tests.{bool_cases}
use Rattle.bye_table.specs.Domains.{IsRowAt}
use Rattle.bye_table.specs.Mappings.{Binds, Exactly, Mapping, Name, Pairs, row_mapping}
use Rattle.bye_table.proofs.Merging.{bound, in_or_not, some_same}
use Rattle.bye_pattern.specs.declared.slot.Slot.{Slot}
use Rattle.bye_pattern.specs.declared.slot.Slot.TheVariants.{Var, Const}
use Rattle.bye_pattern.specs.Patterns.{Meets, Pattern, slot_under, slot_vars, vars}
use Rattle.bye_pattern.specs.FirstClaims.{IsFirstWith, IsLeast, listing, with_value}
use Rattle.bye_laws.proofs.Decided.{both_or_not, each_or_not, one_or_none}
use Rattle.bye_table.proofs.RowNumbers.{one_at}
use Rattle.bye_laws.proofs.Examples.{either_less}
use Rattle.bye_laws.proofs.Listings.{listed_whole}
use Rattle.bye_laws.proofs.Withins.{binds_or_not}

-- what follows from a fact, and what is not so
pub implied_or_not : {A B : Type 0} → A ⊎ (A → ⊥) → B ⊎ (B → ⊥) → (A → B) ⊎ ((A → B) → ⊥)
implied_or_not (inl a) (inl b) = inl (λ h. b)
implied_or_not (inl a) (inr n) = inr (λ f. n (f a))
implied_or_not (inr n) d = inl (λ a. absurd (n a))

pub not_or_not : {A : Type 0} → A ⊎ (A → ⊥) → (A → ⊥) ⊎ ((A → ⊥) → ⊥)
not_or_not (inl a) = inr (λ n. n a)
not_or_not (inr n) = inl n

-- a fact of some element or of each, where those that matter are in a list
pub some_or_not : {X : Type 0} (P : X → Type 0) → ((x : X) → P x ⊎ (P x → ⊥)) → (xs : List X) → ((x : X) → P x → In xs x) → ((x : X) × P x) ⊎ (((x : X) × P x) → ⊥)
some_or_not P decide xs inside = ⊎_elim (λ w. inl (w.0, w.2)) (λ never. inr (λ h. never h.0 (inside h.0 h.1) h.1)) (one_or_none P decide xs)

pub every_or_not : {X : Type 0} (P : X → Type 0) → ((x : X) → P x ⊎ (P x → ⊥)) → (xs : List X) → ((x : X) → (P x → ⊥) → In xs x) → ((x : X) → P x) ⊎ (((x : X) → P x) → ⊥)
every_or_not P decide xs inside =
    ⊎_elim (λ each. inl (λ x. ⊎_elim (λ h. h) (λ n. each x (inside x n)) (decide x))) (λ no. inr (λ all. no (λ x h. all x))) (each_or_not P decide xs)

-- the first with a property is one
pub one_first_with : (P : Name → Type 0) (xs : List Name) (x y : Name) → IsFirstWith P xs x → IsFirstWith P xs y → x ≡ y
one_first_with P [] x y h k = absurd h
one_first_with P (z ∷ xs) x y (inl h) (inl k) = sym h.0 ∙ k.0
one_first_with P (z ∷ xs) x y (inl h) (inr k) = absurd (k.0 h.1)
one_first_with P (z ∷ xs) x y (inr h) (inl k) = absurd (h.0 k.1)
one_first_with P (z ∷ xs) x y (inr h) (inr k) = one_first_with P xs x y h.1 k.1

-- and where it is decided of each, there is a first or none has the property
pub first_or_none : (P : Name → Type 0) → ((x : Name) → P x ⊎ (P x → ⊥)) → (xs : List Name) → ((x : Name) × IsFirstWith P xs x) ⊎ ((x : Name) → In xs x → P x → ⊥)
first_or_none P decide [] = inr (λ x h k. h)
first_or_none P decide (y ∷ xs) =
    ⊎_elim
    (λ h. inl (y, inl (refl, h)))
    (λ never. ⊎_elim
    (λ w. inl (w.0, inr (never, w.1)))
    (λ rest. inr (λ x h k. ⊎_elim (λ e. never (subst P (sym e) k)) (λ i. rest x i k) h))
    (first_or_none P decide xs))
    (decide y)

-- the least number with a property is one
pub one_least : (P : ℕ → Type 0) (m n : ℕ) → IsLeast P m → IsLeast P n → m ≡ n
one_least P m n a b = ⊎_elim (λ l. absurd (b.1 m l a.0)) (λ r. ⊎_elim (λ e. e) (λ l. absurd (a.1 n l b.0)) r) (either_less m n)

-- and where it is decided of each, there is a least one or no number below a bound has the property
least_below : (P : ℕ → Type 0) → ((k : ℕ) → P k ⊎ (P k → ⊥)) → (n : ℕ) → ((k : ℕ) × IsLeast P k) ⊎ ((k : ℕ) → k < n → P k → ⊥)
least_below P decide zero = inr (λ k l h. absurd (omega arith))
least_below P decide (suc n) =
    ⊎_elim
    inl
    (λ none. ⊎_elim
    (λ h. inl (n, (h, none)))
    (λ never. inr (λ k l h. ⊎_elim (λ s. none k s h) (λ r. ⊎_elim (λ e. never (subst P e h)) (λ s. absurd (omega arith)) r) (either_less k n)))
    (decide n))
    (least_below P decide n)

-- one number is less than another or is not
pub less_or_not : (i j : ℕ) → (i < j) ⊎ (i < j → ⊥)
less_or_not i j = ⊎_elim inl (λ r. inr (λ l. ⊎_elim (λ e. absurd (omega arith)) (λ k. absurd (omega arith)) r)) (either_less i j)

-- a row has a number that is at most that of all rows
row_number : (rows : List Mapping) (i : ℕ) (m : Mapping) → IsRowAt rows i m → i < suc (length rows)
row_number [] i m at = absurd at
row_number (r ∷ rows) zero m at = absurd at
row_number (r ∷ rows) (suc zero) m at = omega arith
row_number (r ∷ rows) (suc (suc i)) m at = let l = row_number rows (suc i) m at in omega arith

-- a number has a row or none
pub row_or_none : (rows : List Mapping) (i : ℕ) → ((m : Mapping) × IsRowAt rows i m) ⊎ ((m : Mapping) → IsRowAt rows i m → ⊥)
row_or_none [] i = inr (λ m h. h)
row_or_none (r ∷ rows) zero = inr (λ m h. h)
row_or_none (r ∷ rows) (suc zero) = inl (r, refl)
row_or_none (r ∷ rows) (suc (suc i)) = row_or_none rows (suc i)

-- a fact of the row of a number
pub row_is_or_not : (rows : List Mapping) (i : ℕ) (P : Mapping → Type 0) → ((m : Mapping) → IsRowAt rows i m → P m ⊎ (P m → ⊥))
    → ((m : Mapping) × IsRowAt rows i m × P m) ⊎ (((m : Mapping) × IsRowAt rows i m × P m) → ⊥)
row_is_or_not rows i P decide =
    ⊎_elim
    (λ w. ⊎_elim (λ h. inl (w.0, w.1, h)) (λ never. inr (λ h. never (subst P (one_at rows i h.0 w.0 h.1 w.1) h.2))) (decide w.0 w.1))
    (λ none. inr (λ h. none h.0 h.1))
    (row_or_none rows i)

-- of the numbers of rows the least with a property, or none has it
pub least_row_or_none : (rows : List Mapping) (P : ℕ → Type 0) → ((k : ℕ) → P k ⊎ (P k → ⊥)) → ((k : ℕ) → P k → (m : Mapping) × IsRowAt rows k m)
    → ((k : ℕ) × IsLeast P k) ⊎ ((k : ℕ) → P k → ⊥)
least_row_or_none rows P decide row =
    ⊎_elim inl (λ none. inr (λ k h. let w = row k h in none k (row_number rows k w.0 w.1) h)) (least_below P decide (suc (length rows)))

-- each of these variables with each of these terms
abbrev assignments : List Name → List Term → List Pairs
assignments [] ts = [] ∷ []
assignments (v ∷ vs) ts = flat_map (λ t. map (λ rest. (v, t) ∷ rest) (assignments vs ts)) ts

-- a pair more binds its variable more
longer_exact : (w : Name) (t : Term) (rest : Pairs) (vs : List Name) → Exactly vs (row_mapping rest) → Exactly (w ∷ vs) (row_mapping ((w, t) ∷ rest))
longer_exact w t rest vs exact v = ⊎_elim
    (λ e. ((λ b. inl ((bytes_eq-Decides w v).0 e)), (λ h. subst (λ b. IsSome (cond b (Some t) (row_mapping rest v))) (sym e) refl)))
    (λ e. (
      (λ b. inr ((exact v).0 (subst (λ b. IsSome (cond b (Some t) (row_mapping rest v))) e b))),
      (λ h. subst (λ b. IsSome (cond b (Some t) (row_mapping rest v))) (sym e) (⊎_elim (λ same. let k = (bytes_eq-Decides w v).1 same in let n = sym k ∙ e in cc) (λ i. (exact v).1 i) h)),
    ))
    (bool_cases (bytes_eq w v))

-- so an assignment binds exactly these variables
assigned : (vs : List Name) (ts : List Term) (es : Pairs) → In (assignments vs ts) es → Exactly vs (row_mapping es)
assigned [] ts es h = ⊎_elim (λ e. subst (λ es. Exactly [] (row_mapping es)) e (λ v. ((λ b. cc), (λ k. absurd k)))) (λ k. absurd k) h
assigned (w ∷ vs) ts es h =
    let a = in_flat (λ t. map (λ rest. (w, t) ∷ rest) (assignments vs ts)) ts es h in
    let b = in_map (λ rest. (w, a.0) ∷ rest) (assignments vs ts) es a.2 in
    subst (λ es. Exactly (w ∷ vs) (row_mapping es)) b.2 (longer_exact w a.0 b.0 vs (assigned vs ts b.0 b.1))

-- and a mapping of these variables to these terms is listed as an assignment
listed_assigned : (vs : List Name) (ts : List Term) (e : Mapping) → ((v : Name) → In vs v → (t : Term) × In ts t × (e v ≡ Some t)) → In (assignments vs ts) (listing vs e)
listed_assigned [] ts e told = inl refl
listed_assigned (v ∷ vs) ts e told =
    let w = told v (inl refl) in
    flat_in (λ t. map (λ rest. (v, t) ∷ rest) (assignments vs ts)) ts w.0 (listing (v ∷ vs) e) w.1
    (subst (λ o. In (map (λ rest. (v, w.0) ∷ rest) (assignments vs ts)) (with_value v o (listing vs e))) (sym w.2)
    (map_in (λ rest. (v, w.0) ∷ rest) (assignments vs ts) (listing vs e) (listed_assigned vs ts e (λ u h. told u (inr h)))))

-- so of the mappings of exactly these variables to these terms one has a property that is decided of each, or none has it
pub mapping_or_none : (vs : List Name) (ts : List Term) (P : Mapping → Type 0) → ((e : Mapping) → P e ⊎ (P e → ⊥))
    → ((e : Mapping) × Exactly vs e × P e) ⊎ ((e : Mapping) → Exactly vs e → ((v : Name) (t : Term) → e v ≡ Some t → In ts t) → P e → ⊥)
mapping_or_none vs ts P decide =
    ⊎_elim
    (λ w. inl (row_mapping w.0, assigned vs ts w.0 w.1, w.2))
    (λ none. inr (λ e exact told h. none (listing vs e)
    (listed_assigned vs ts e (λ v i. let b = bound (e v) ((exact v).1 i) in (b.0, told v b.0 b.1, b.1)))
    (subst P (sym (listed_whole vs e (λ v b. (exact v).0 b))) h)))
    (one_or_none (λ es. P (row_mapping es)) (λ es. decide (row_mapping es)) (assignments vs ts))

-- a mapping binds exactly these variables or not, where all that it binds are in a list
pub exactly_or_not : (header vs : List Name) (m : Mapping) → ((v : Name) → Binds m v → In header v) → Exactly vs m ⊎ (Exactly vs m → ⊥)
exactly_or_not header vs m inside =
    every_or_not (λ v. (Binds m v → In vs v) × (In vs v → Binds m v))
    (λ v. both_or_not (implied_or_not (binds_or_not m v) (in_or_not vs v)) (implied_or_not (in_or_not vs v) (binds_or_not m v)))
    (header ++ vs)
    (λ v never. ⊎_elim
    (λ b. in_left header vs v (inside v b))
    (λ lacks. ⊎_elim (λ i. in_right header vs v i) (λ out. absurd (never ((λ b. absurd (lacks b)), (λ i. absurd (out i))))) (in_or_not vs v))
    (binds_or_not m v))

-- the terms of a graph
abbrev pub terms_of : Statement → List Term
terms_of f = f.s ∷ f.p ∷ f.o ∷ []

abbrev pub graph_terms : List Statement → List Term
graph_terms g = flat_map terms_of g

-- what a variable of a place becomes is the value of the place
slot_told : (m : Mapping) (s : Slot) (v : Name) (t u : Term) → In (slot_vars s) v → slot_under m s ≡ Some u → m v ≡ Some t → u ≡ t
slot_told m (Var w) v t u h is e = ⊎_elim (λ same. some_same (sym is ∙ ap m same ∙ e)) (λ k. absurd k) h
slot_told m (Const c) v t u h is e = absurd h

-- the value of a variable of a pattern that is met is a term of the graph
pub met_term : (g : List Statement) (m : Mapping) (p : Pattern) (v : Name) (t : Term) → Meets g m p → In (vars p) v → m v ≡ Some t → In (graph_terms g) t
met_term g m p v t (f, there, is) h e =
    flat_in terms_of g f t there (⊎_elim
    (λ k. ⊎_elim
    (λ i. inl (slot_told m p.s v t f.s i is.s e))
    (λ i. inr (inl (slot_told m p.p v t f.p i is.p e)))
    (in_cases (slot_vars p.s) (slot_vars p.p) v k))
    (λ i. inr (inr (inl (slot_told m p.o v t f.o i is.o e))))
    (in_cases (slot_vars p.s ++ slot_vars p.p) (slot_vars p.o) v h))

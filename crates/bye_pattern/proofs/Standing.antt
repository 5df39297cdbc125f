-- The candidates are the patterns of the class that become a triple of the graph under the row.
use Rattle.std.proofs.Common.{◌≡◌, refl, Bool, true, false, cond, ◌&&◌, ◌||◌, List, [], ◌∷◌, ◌++◌, Option, Some, None, inl, inr, ⊎_elim, sym, ◌∙◌, ap, subst}
use Rattle.std.specs.List.{flat_map}
use Rattle.std.specs.Str.{bytes_eq}
use Rattle.std.proofs.lemmas.Slice.Eq.{bytes_eq-Decides}
use Rattle.bye_terms.specs.declared.term.Term.{Term}
use Rattle.bye_terms.specs.declared.term.Term.TheVariants.{Iri, Blank, Lit}
use Rattle.bye_terms.specs.Terms.{Statement, is_blank, is_subject, is_iri_term, IsTriple}
use Rattle.bye_terms.specs.Members.{In}
use Rattle.std.specs.List.{AllByRecursion}
use Rattle.bye_terms.proofs.Tests.{bool_cases, both_parts, both, one_part, second}
use Rattle.bye_terms.proofs.Members.{in_cases, in_left, in_right, in_flat, flat_in, all_in}
use Rattle.bye_pattern.specs.declared.slot.Slot.{Slot}
use Rattle.bye_pattern.specs.declared.slot.Slot.TheVariants.{Var, Const}
use Rattle.bye_table.specs.Mappings.{Name, Mapping, Pairs, row_mapping, NoRepeat}
use Rattle.bye_pattern.specs.Patterns.{Pattern, slot_under, slot_vars, vars, Becomes, Meets, IsNamed, is_place}
use Rattle.bye_pattern.specs.Conditions.{same_term}
use Rattle.bye_pattern.specs.Classes.{IsClassTriple}
use Rattle.bye_pattern.specs.Candidates.{var_slot, const_slot, slots, is_var, of_slots, offered, with_objects, with_predicates, of_terms, touches, of_statement, candidates}
use Rattle.bye_pattern.proofs.SameTerms.{terms_same, same_self}

Some-same : {s t : Term} → ◌≡◌ {A = Option Term} (Some s) (Some t) → s ≡ t
Some-same e = cc

in_one : (b : Bool) (s t : Slot) → In (cond b (t ∷ []) []) s → (b ≡ true) × (t ≡ s)
in_one true s t (inl e) = (refl, e)
in_one true s t (inr h) = absurd h
in_one false s t h = absurd h

row_first : (row : Pairs) (v : Name) (t : Term) (n : Name) → bytes_eq n v ≡ true → row_mapping ((n, t) ∷ row) v ≡ Some t
row_first row v t n e = ap (λ b. cond b (Some t) (row_mapping row v)) e

row_later : (e : Name × Term) (es : Pairs) (s : Slot) (t : Term) → row_mapping es e.0 ≡ None → slot_under (row_mapping es) s ≡ Some t → slot_under (row_mapping (e ∷ es)) s ≡ Some t
row_later e es (Const c) t fresh h = h
row_later e es (Var v) t fresh h =
    ⊎_elim
    (λ b. let k = sym fresh ∙ ap (row_mapping es) ((bytes_eq-Decides e.0 v).0 b) ∙ h in cc)
    (λ b. ap (λ b. cond b (Some e.1) (row_mapping es v)) b ∙ h)
    (bool_cases (bytes_eq e.0 v))

vars_sound : (row : Pairs) (term : Term) (s : Slot) → NoRepeat row → In (flat_map (var_slot term) row) s → slot_under (row_mapping row) s ≡ Some term
vars_sound [] term s distinct h = absurd h
vars_sound (e ∷ es) term s (fresh, distinct) h =
    ⊎_elim
    (λ k. let w = in_one (same_term e.1 term) s (Var e.0) k in
    subst (λ s. slot_under (row_mapping (e ∷ es)) s ≡ Some term) w.1
    (row_first es e.0 e.1 e.0 ((bytes_eq-Decides e.0 e.0).1 refl) ∙ ap Some (terms_same e.1 term w.0)))
    (λ k. row_later e es s term fresh (vars_sound es term s distinct k))
    (in_cases (var_slot term e) _ s h)

vars_complete : (row : Pairs) (term : Term) (v : Name) → row_mapping row v ≡ Some term → In (flat_map (var_slot term) row) (Var v)
vars_complete [] term v h = cc
vars_complete (e ∷ es) term v h =
    ⊎_elim
    (λ b. let same = Some-same (sym (ap (λ b. cond b (Some e.1) (row_mapping es v)) b) ∙ h) in
    in_left _ _ (Var v) (subst (λ c. In (cond c (Var e.0 ∷ []) []) (Var v)) (sym (ap (λ t. same_term e.1 t) (sym same) ∙ same_self e.1)) (inl (ap Var ((bytes_eq-Decides e.0 v).0 b)))))
    (λ b. in_right (var_slot term e) _ (Var v) (vars_complete es term v (sym (ap (λ b. cond b (Some e.1) (row_mapping es v)) b) ∙ h)))
    (bool_cases (bytes_eq e.0 v))

var_named : (row : Pairs) (term : Term) (s : Slot) → In (flat_map (var_slot term) row) s → IsNamed s
var_named [] term s h = absurd h
var_named (e ∷ es) term s h =
    ⊎_elim (λ k. subst IsNamed (in_one (same_term e.1 term) s (Var e.0) k).1 tt) (λ k. var_named es term s k) (in_cases (var_slot term e) _ s h)

-- the constant alone, where the term is not blank
in_const : (term : Term) (s : Slot) → In (const_slot term) s → (is_blank term ≡ false) × (Const term ≡ s)
in_const term s h =
    ⊎_elim (λ b. absurd (subst (λ b. In (cond b [] (Const term ∷ [])) s) b h))
    (λ b. ⊎_elim (λ e. (b, e)) (λ k. absurd k) (subst (λ b. In (cond b [] (Const term ∷ [])) s) b h))
    (bool_cases (is_blank term))

-- what the slots of a term are
slots_sound : (row : Pairs) (term : Term) (s : Slot) → NoRepeat row → In (slots row term) s → slot_under (row_mapping row) s ≡ Some term
slots_sound row term s distinct h =
    ⊎_elim
    (λ k. subst (λ s. slot_under (row_mapping row) s ≡ Some term) (in_const term s k).1 refl)
    (λ k. vars_sound row term s distinct k)
    (in_cases (const_slot term) _ s h)

slots_named : (row : Pairs) (term : Term) (s : Slot) → In (slots row term) s → IsNamed s
slots_named row term s h =
    ⊎_elim
    (λ k. let w = in_const term s k in subst IsNamed w.1 w.0)
    (λ k. var_named row term s k)
    (in_cases (const_slot term) _ s h)

slots_complete : (row : Pairs) (term : Term) (s : Slot) → IsNamed s → slot_under (row_mapping row) s ≡ Some term → In (slots row term) s
slots_complete row term (Var v) named h = in_right (const_slot term) _ (Var v) (vars_complete row term v h)
slots_complete row term (Const c) named h =
    let e = Some-same h in
    in_left _ _ (Const c) (subst (λ b. In (cond b [] (Const term ∷ [])) (Const c)) (sym (ap is_blank (sym e) ∙ named)) (inl (ap Const (sym e))))

-- what is offered
in_offered : (s p o : Slot) (q : Pattern) → In (offered s p o) q → ((is_place s && is_place p && (is_var s || is_var p || is_var o)) ≡ true) × (of_slots s p o ≡ q)
in_offered s p o q h = picked (is_place s && is_place p && (is_var s || is_var p || is_var o)) (of_slots s p o) q h
  where
    picked : (b : Bool) (x q : Pattern) → In (cond b (x ∷ []) []) q → (b ≡ true) × (x ≡ q)
    picked true x q (inl e) = (refl, e)
    picked true x q (inr h) = absurd h
    picked false x q h = absurd h

offered_in : (s p o : Slot) → (is_place s && is_place p && (is_var s || is_var p || is_var o)) ≡ true → In (offered s p o) (of_slots s p o)
offered_in s p o e = subst (λ b. In (cond b (of_slots s p o ∷ []) []) (of_slots s p o)) (sym e) (inl refl)

slot_var : (s : Slot) → is_var s ≡ true → (v : Name) × In (slot_vars s) v
slot_var (Var v) e = (v, inl refl)
slot_var (Const c) e = cc

var_slot_of : (s : Slot) (v : Name) → In (slot_vars s) v → is_var s ≡ true
var_slot_of (Var w) v h = refl
var_slot_of (Const c) v h = absurd h

-- a pattern has a variable where one of its places is one
some_var : (q : Pattern) → (is_var q.s || is_var q.p || is_var q.o) ≡ true → (v : Name) × In (vars q) v
some_var q e =
    ⊎_elim
    (λ h. ⊎_elim (λ h. let w = slot_var q.s h in (w.0, in_left _ _ w.0 (in_left _ _ w.0 w.1)))
    (λ h. let w = slot_var q.p h in (w.0, in_left _ _ w.0 (in_right (slot_vars q.s) _ w.0 w.1))) (one_part _ _ h))
    (λ h. let w = slot_var q.o h in (w.0, in_right (slot_vars q.s ++ slot_vars q.p) _ w.0 w.1))
    (one_part _ _ e)

first_true : (a b : Bool) → a ≡ true → (a || b) ≡ true
first_true a b e = ap (λ a. a || b) e

var_some : (q : Pattern) (v : Name) → In (vars q) v → (is_var q.s || is_var q.p || is_var q.o) ≡ true
var_some q v h =
    ⊎_elim
    (λ h. ⊎_elim (λ h. first_true _ _ (first_true _ _ (var_slot_of q.s v h))) (λ h. first_true _ _ (second (is_var q.s) _ (var_slot_of q.p v h))) (in_cases (slot_vars q.s) _ v h))
    (λ h. second (is_var q.s || is_var q.p) _ (var_slot_of q.o v h))
    (in_cases (slot_vars q.s ++ slot_vars q.p) _ v h)

-- what stands among the patterns of three terms
in_terms : (row : Pairs) (s p o : Term) (q : Pattern) → In (of_terms row s p o) q
    → In (slots row s) q.s × In (slots row p) q.p × In (slots row o) q.o × ((is_place q.s && is_place q.p && (is_var q.s || is_var q.p || is_var q.o)) ≡ true)
unfolding of_terms
in_terms row s p o q h =
    let a = in_flat (with_predicates (slots row p) (slots row o)) (slots row s) q h in
    let b = in_flat (with_objects (slots row o) a.0) (slots row p) q a.2 in
    let d = in_flat (offered a.0 b.0) (slots row o) q b.2 in
    let w = in_offered a.0 b.0 d.0 q d.2 in
    subst (λ q. In (slots row s) q.s × In (slots row p) q.p × In (slots row o) q.o × ((is_place q.s && is_place q.p && (is_var q.s || is_var q.p || is_var q.o)) ≡ true)) w.1 (a.1, b.1, d.1, w.0)

terms_in : (row : Pairs) (s p o : Term) (q : Pattern) → In (slots row s) q.s → In (slots row p) q.p → In (slots row o) q.o
    → (is_place q.s && is_place q.p && (is_var q.s || is_var q.p || is_var q.o)) ≡ true → In (of_terms row s p o) q
unfolding of_terms
terms_in row s p o q a b d e =
    flat_in (with_predicates (slots row p) (slots row o)) (slots row s) q.s q a
    (flat_in (with_objects (slots row o) q.s) (slots row p) q.p q b
    (flat_in (offered q.s q.p) (slots row o) q.o q d (offered_in q.s q.p q.o e)))

in_statement : (row : Pairs) (f : Statement) (q : Pattern) → In (of_statement row f) q → In (of_terms row f.s f.p f.o) q
in_statement row f q h = kept (touches row f) (of_terms row f.s f.p f.o) q h
  where
    kept : (b : Bool) (xs : List Pattern) (q : Pattern) → In (cond b xs []) q → In xs q
    kept true xs q h = h
    kept false xs q h = absurd h

-- each candidate is of the class, and becomes a triple under the row
pub candidate_meets : (row : Pairs) (g : List Statement) (q : Pattern) → NoRepeat row → In (candidates row g) q → IsClassTriple q × Meets g (row_mapping row) q
candidate_meets row g q distinct h =
    let f = in_flat (of_statement row) g q h in
    let w = in_terms row f.0.s f.0.p f.0.o q (in_statement row f.0 q f.2) in (
      record {
        variable = some_var q (both_parts _ _ w.3).1;
        subject = slots_named row f.0.s q.s w.0;
        predicate = slots_named row f.0.p q.p w.1;
        object = slots_named row f.0.o q.o w.2;
      },
      (f.0, f.1, record { s = slots_sound row f.0.s q.s distinct w.0; p = slots_sound row f.0.p q.p distinct w.1; o = slots_sound row f.0.o q.o distinct w.2 }),
    )

-- a variable of the pattern stands for a term of the triple, which is then one of the row's
touched : (row : Pairs) (f : Statement) (v : Name) (t : Term) → row_mapping row v ≡ Some t → (same_term t f.s || same_term t f.p || same_term t f.o) ≡ true → touches row f ≡ true
touched [] f v t h e = cc
touched (x ∷ row) f v t h e =
    ⊎_elim
    (λ b. first_true _ _ (subst (λ t. (same_term t f.s || same_term t f.p || same_term t f.o) ≡ true) (sym (Some-same (sym (ap (λ b. cond b (Some x.1) (row_mapping row v)) b) ∙ h))) e))
    (λ b. second (same_term x.1 f.s || same_term x.1 f.p || same_term x.1 f.o) _ (touched row f v t (sym (ap (λ b. cond b (Some x.1) (row_mapping row v)) b) ∙ h) e))
    (bool_cases (bytes_eq x.0 v))

slot_value : (m : Mapping) (s : Slot) (v : Name) (t : Term) → In (slot_vars s) v → slot_under m s ≡ Some t → m v ≡ Some t
slot_value m (Var w) v t (inl e) h = ap m (sym e) ∙ h
slot_value m (Var w) v t (inr k) h = absurd k
slot_value m (Const c) v t k h = absurd k

touched_by : (row : Pairs) (f : Statement) (q : Pattern) (v : Name) → Becomes (row_mapping row) q f → In (vars q) v → touches row f ≡ true
touched_by row f q v is h =
    ⊎_elim
    (λ h. ⊎_elim
    (λ h. touched row f v f.s (slot_value _ q.s v f.s h is.s) (first_true _ _ (first_true _ _ (same_self f.s))))
    (λ h. touched row f v f.p (slot_value _ q.p v f.p h is.p) (first_true _ _ (second (same_term f.p f.s) _ (same_self f.p)))) (in_cases (slot_vars q.s) _ v h))
    (λ h. touched row f v f.o (slot_value _ q.o v f.o h is.o) (second (same_term f.o f.s || same_term f.o f.p) _ (same_self f.o)))
    (in_cases (slot_vars q.s ++ slot_vars q.p) _ v h)

-- a constant that is no blank node, where the triple has a subject or a predicate
pub subject_place : (m : Mapping) (s : Slot) (t : Term) → IsNamed s → is_subject t ≡ true → slot_under m s ≡ Some t → is_place s ≡ true
subject_place m (Var v) t named valid h = refl
subject_place m (Const c) t named valid h = iri c named (ap is_subject (Some-same h) ∙ valid)
  where
    iri : (c : Term) → is_blank c ≡ false → is_subject c ≡ true → is_iri_term c ≡ true
    iri (Iri t) a b = refl
    iri (Blank t) a b = cc
    iri (Lit t) a b = cc

pub predicate_place : (m : Mapping) (s : Slot) (t : Term) → is_iri_term t ≡ true → slot_under m s ≡ Some t → is_place s ≡ true
predicate_place m (Var v) t valid h = refl
predicate_place m (Const c) t valid h = ap is_iri_term (Some-same h) ∙ valid

-- and each such pattern is a candidate
pub meets_candidate : (row : Pairs) (g : List Statement) (q : Pattern) → AllByRecursion IsTriple g → IsClassTriple q → Meets g (row_mapping row) q → In (candidates row g) q
meets_candidate row g q valid is (f, inside, becomes) =
    let triple = all_in IsTriple g f valid inside in
    let places = both _ _ (both _ _ (subject_place _ q.s f.s is.subject triple.0 becomes.s) (predicate_place _ q.p f.p triple.1 becomes.p)) (var_some q is.variable.0 is.variable.1) in
    let here = terms_in row f.s f.p f.o q (slots_complete row f.s q.s is.subject becomes.s) (slots_complete row f.p q.p is.predicate becomes.p) (slots_complete row f.o q.o is.object becomes.o) places in
    flat_in (of_statement row) g f q inside
    (subst (λ b. In (cond b (of_terms row f.s f.p f.o) []) q) (sym (touched_by row f q is.variable.0 becomes is.variable.1)) here)

-- What is decided: whether terms are equal, whether a mapping meets a conjunct, and whether all of a list do; and what is decided with it.
use Rattle.std.proofs.Common.{◌≡◌, refl, Bool, true, false, List, [], ◌∷◌, Option, Some, None, ◌⊎◌, inl, inr, ⊎_elim, sym, ap, subst, ◌↔◌}
use Rattle.std.specs.List.{AllByRecursion, filter}
use Rattle.bye_terms.specs.declared.term.Term.{Term}
use Rattle.bye_terms.specs.Members.{In}
use Rattle.bye_terms.specs.Terms.{Statement}
use Rattle.bye_terms.proofs.Lists.{filtered, in_filtered}
use Rattle.bye_terms.proofs.Members.{all_from, all_in}
use Rattle.bye_terms.proofs.Tests.{bool_cases, not_both}
use Rattle.bye_table.specs.Mappings.{Mapping}
use Rattle.bye_table.proofs.Merging.{some_same}
use Rattle.bye_pattern.specs.declared.cond.Cond.{Cond}
use Rattle.bye_pattern.specs.Conditions.{cond_expr, same_term, value}
use Rattle.bye_pattern.specs.Conjuncts.{MeetsCond}
use Rattle.bye_pattern.specs.Patterns.{Becomes, Meets, Pattern, slot_under}
use Rattle.bye_pattern.proofs.SameTerms.{same_self, terms_same}
use Rattle.bye_laws.proofs.Telling.{holds_meets}

-- either all elements have the property, or one has not
pub all_or_one : {X : Type 0} (P : X → Type 0) → ((x : X) → P x ⊎ (P x → ⊥)) → (xs : List X) → AllByRecursion P xs ⊎ ((x : X) × In xs x × (P x → ⊥))
all_or_one P decide [] = inl tt
all_or_one P decide (x ∷ xs) =
    ⊎_elim
    (λ h. ⊎_elim (λ all. inl (h, all)) (λ w. inr (w.0, inr w.1, w.2)) (all_or_one P decide xs))
    (λ never. inr (x, inl refl, never))
    (decide x)

-- either one element has the property, or none has
pub one_or_none : {X : Type 0} (P : X → Type 0) → ((x : X) → P x ⊎ (P x → ⊥)) → (xs : List X) → ((x : X) × In xs x × P x) ⊎ ((x : X) → In xs x → P x → ⊥)
one_or_none P decide [] = inr (λ x h k. h)
one_or_none P decide (x ∷ xs) =
    ⊎_elim
    (λ h. inl (x, inl refl, h))
    (λ never. ⊎_elim (λ w. inl (w.0, inr w.1, w.2)) (λ rest. inr (λ y h k. ⊎_elim (λ e. never (subst P (sym e) k)) (λ i. rest y i k) h)) (one_or_none P decide xs))
    (decide x)

-- two terms
pub terms_or_not : (s t : Term) → (s ≡ t) ⊎ (s ≡ t → ⊥)
terms_or_not s t = ⊎_elim (λ e. inl (terms_same s t e)) (λ e. inr (λ same. not_both (same_term s t) (subst (λ t. same_term s t ≡ true) same (same_self s)) e)) (bool_cases (same_term s t))

-- a place that holds a term
pub given_or_not : (o : Option Term) (t : Term) → (o ≡ Some t) ⊎ (o ≡ Some t → ⊥)
given_or_not None t = inr (λ e. nothing e)
  where
    nothing : ◌≡◌ {A = Option Term} None (Some t) → ⊥
    nothing e = cc
given_or_not (Some s) t = ⊎_elim (λ e. inl (ap Some e)) (λ never. inr (λ e. never (some_same e))) (terms_or_not s t)

-- a pattern that becomes a triple
pub becomes_or_not : (m : Mapping) (p : Pattern) (f : Statement) → Becomes m p f ⊎ (Becomes m p f → ⊥)
becomes_or_not m p f =
    ⊎_elim
    (λ s. ⊎_elim
    (λ r. ⊎_elim (λ o. inl (record { s = s; p = r; o = o })) (λ never. inr (λ h. never h.o)) (given_or_not (slot_under m p.o) f.o))
    (λ never. inr (λ h. never h.p))
    (given_or_not (slot_under m p.p) f.p))
    (λ never. inr (λ h. never h.s))
    (given_or_not (slot_under m p.s) f.s)

-- a pattern that is met
pub meets_or_not : (g : List Statement) (m : Mapping) (p : Pattern) → Meets g m p ⊎ (Meets g m p → ⊥)
meets_or_not g m p = ⊎_elim inl (λ never. inr (λ h. never h.0 h.1 h.2)) (one_or_none (Becomes m p) (becomes_or_not m p) g)

-- a value that is true
pub true_or_not : (o : Option Bool) → (o ≡ Some true) ⊎ (o ≡ Some true → ⊥)
true_or_not None = inr (λ e. nothing e)
  where
    nothing : ◌≡◌ {A = Option Bool} None (Some true) → ⊥
    nothing e = cc
true_or_not (Some true) = inl refl
true_or_not (Some false) = inr (λ e. differ e)
  where
    differ : ◌≡◌ {A = Option Bool} (Some false) (Some true) → ⊥
    differ e = cc

-- a condition that is met
pub met_or_not : (m : Mapping) (c : Cond) → MeetsCond m c ⊎ (MeetsCond m c → ⊥)
met_or_not m c = ⊎_elim (λ h. inl (holds_meets m c h)) (λ never. inr (λ h. never h.1)) (true_or_not (value m (cond_expr c)))

-- what is decided, as a test
abbrev pub is_so : {A : Type 0} → A ⊎ (A → ⊥) → Bool
is_so (inl a) = true
is_so (inr n) = false

pub so_from : {A : Type 0} (d : A ⊎ (A → ⊥)) → is_so d ≡ true → A
so_from (inl a) e = a
so_from (inr n) e = cc

pub so_to : {A : Type 0} (d : A ⊎ (A → ⊥)) → A → is_so d ≡ true
so_to (inl a) h = refl
so_to (inr n) h = absurd (n h)

pub not_so : {A : Type 0} (d : A ⊎ (A → ⊥)) → (A → ⊥) → is_so d ≡ false
not_so (inl a) n = absurd (n a)
not_so (inr m) n = refl

-- a test is true or is not
pub test_or_not : (b c : Bool) → (b ≡ c) ⊎ (b ≡ c → ⊥)
test_or_not true true = inl refl
test_or_not true false = inr (λ e. cc)
test_or_not false true = inr (λ e. cc)
test_or_not false false = inl refl

-- what says the same is decided too
pub same_decided : {A B : Type 0} → (A → B) → (B → A) → A ⊎ (A → ⊥) → B ⊎ (B → ⊥)
same_decided f g (inl a) = inl (f a)
same_decided f g (inr n) = inr (λ b. n (g b))

-- two facts together, and one of two
pub both_or_not : {A B : Type 0} → A ⊎ (A → ⊥) → B ⊎ (B → ⊥) → (A × B) ⊎ ((A × B) → ⊥)
both_or_not (inl a) (inl b) = inl (a, b)
both_or_not (inl a) (inr n) = inr (λ h. n h.1)
both_or_not (inr n) d = inr (λ h. n h.0)

pub either_or_not : {A B : Type 0} → A ⊎ (A → ⊥) → B ⊎ (B → ⊥) → (A ⊎ B) ⊎ ((A ⊎ B) → ⊥)
either_or_not (inl a) d = inl (inl a)
either_or_not (inr n) (inl b) = inl (inr b)
either_or_not (inr n) (inr m) = inr (λ h. ⊎_elim n m h)

-- all elements have the property or not all
pub all_or_not : {X : Type 0} (P : X → Type 0) → ((x : X) → P x ⊎ (P x → ⊥)) → (xs : List X) → AllByRecursion P xs ⊎ (AllByRecursion P xs → ⊥)
all_or_not P decide xs = ⊎_elim inl (λ w. inr (λ all. w.2 (all_in P xs w.0 all w.1))) (all_or_one P decide xs)

-- the same, element by element
pub each_or_not : {X : Type 0} (P : X → Type 0) → ((x : X) → P x ⊎ (P x → ⊥)) → (xs : List X) → ((x : X) → In xs x → P x) ⊎ (((x : X) → In xs x → P x) → ⊥)
each_or_not P decide xs = same_decided (λ all x h. all_in P xs x all h) (λ f. all_from P xs f) (all_or_not P decide xs)

-- the elements of which it holds
pub picked : {X : Type 0} (P : X → Type 0) → ((x : X) → P x ⊎ (P x → ⊥)) → (xs : List X) → (ys : List X) × ((x : X) → In ys x ↔ (In xs x × P x))
picked P decide xs = (
  filter (λ x. is_so (decide x)) xs,
  λ x. (
    (λ h. let w = filtered (λ x. is_so (decide x)) xs x h in (w.0, so_from (decide x) w.1)),
    (λ h. in_filtered (λ x. is_so (decide x)) xs x h.0 (so_to (decide x) h.1)),
  ),
)

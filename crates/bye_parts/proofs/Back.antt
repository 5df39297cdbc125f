-- Whatever is read derives, and where a reader stops, what stands before is a front.
use Rattle.std.proofs.Common.{◌≡◌, refl, ℕ, zero, suc, Bool, true, false, cond, List, ◌∷◌, [], ◌++◌, Option, Some, None, inl, inr, sym, ◌∙◌, ap, append_assoc, length}
use Rattle.bye_parts.specs.Parts.{Part, token, sequence, yield, either, optional, repeated, mapped}
use Rattle.bye_parts.specs.Readers.{Outcome, Reader, Got, Wrong, Deep, onward, then, read_yield, taken, read_token, begins, seen_as, read_mapped, read_optional, read_either, before, rounds, read_repeated, read_deep}

-- what was read derives, or what stands before the stop is a front; a bracket that is too deep is one with it
abbrev pub Shown : {T V : Type 0} → Part T V → List T → Outcome T V → Type 0
Shown {T} P ts (Got v rest) = (own : List T) × (ts ≡ own ++ rest) × P.derives own v
Shown {T} P ts (Wrong rest) = (front : List T) × (ts ≡ front ++ rest) × P.front front
Shown {T} P ts (Deep rest) = (front : List T) × (c : T) × (cs : List T) × (rest ≡ c ∷ cs) × (ts ≡ front ++ c ∷ cs) × P.front (front ++ c ∷ [])

-- what the reader comes to is shown, whatever tokens stand before it
pub record Back {T V : Type 0} (P : Part T V) (p : Reader T V) : Type 0 where
  pub shown : (ts : List T) → Shown P ts (p ts)

pub back_token : {T V : Type 0} (fits : T → Option V) → Back (token fits) (read_token fits)
back_token {T} {V} fits = record { shown = shown }
  where
    took : (o : Option V) (c : T) (cs : List T) → fits c ≡ o → Shown (token fits) (c ∷ cs) (taken o c cs)
    took None c cs e = ([], refl, inl refl)
    took (Some v) c cs e = (c ∷ [], refl, (c, refl, e))

    shown : (ts : List T) → Shown (token fits) ts (read_token fits ts)
    shown [] = ([], refl, inl refl)
    shown (c ∷ cs) = took (fits c) c cs refl

pub back_yield : {T V : Type 0} (v : V) → Back (yield {T = T} v) (read_yield v)
back_yield v = record { shown = λ ts. ([], refl, (refl, refl)) }

join_on : {T A B : Type 0} (P : Part T A) (Q : A → Part T B) (ts : List T) (a : A) (own r : List T) → ts ≡ own ++ r → P.derives own a → (o : Outcome T B) → Shown (Q a) r o → Shown (sequence P Q) ts o
join_on P Q ts a own r e h (Got v rest) k =
    (own ++ k.0, e ∙ ap (λ r. own ++ r) k.1 ∙ sym (append_assoc own k.0 rest), record { own = own; rest = k.0; value = a; parts = refl; first = h; next = k.2 })
join_on P Q ts a own r e h (Wrong rest) k =
    (own ++ k.0, e ∙ ap (λ r. own ++ r) k.1 ∙ sym (append_assoc own k.0 rest), inr (record { own = own; rest = k.0; value = a; parts = refl; first = h; next = k.2 }))
join_on P Q ts a own r e h (Deep rest) k =
    (own ++ k.0, k.1, k.2, k.3, e ∙ ap (λ r. own ++ r) k.4 ∙ sym (append_assoc own k.0 (k.1 ∷ k.2)), inr (record { own = own; rest = k.0 ++ k.1 ∷ []; value = a; parts = append_assoc own k.0 (k.1 ∷ []); first = h; next = k.5 }))

shown_on : {T A B : Type 0} (P : Part T A) (Q : A → Part T B) (q : A → Reader T B) (ts : List T) → ((a : A) → Back (Q a) (q a)) → (o : Outcome T A) → Shown P ts o → Shown (sequence P Q) ts (onward o q)
shown_on P Q q ts g (Got a r) h = join_on P Q ts a h.0 r h.1 h.2 (q a r) ((g a).shown r)
shown_on P Q q ts g (Wrong r) h = (h.0, h.1, inl h.2)
shown_on P Q q ts g (Deep r) h = (h.0, h.1, h.2, h.3, h.4, inl h.5)

pub back_then : {T A B : Type 0} {P : Part T A} {p : Reader T A} {Q : A → Part T B} {q : A → Reader T B} → Back P p → ((a : A) → Back (Q a) (q a)) → Back (sequence P Q) (then p q)
back_then {T} {A} {B} {P} {p} {Q} {q} f g = record { shown = λ ts. shown_on P Q q ts g (p ts) (f.shown ts) }

pub back_mapped : {T A B : Type 0} {P : Part T A} {p : Reader T A} (h : A → B) → Back P p → Back (mapped h P) (read_mapped h p)
back_mapped {T} {A} {B} {P} {p} h f = record { shown = λ ts. seen ts (p ts) (f.shown ts) }
  where
    seen : (ts : List T) (o : Outcome T A) → Shown P ts o → Shown (mapped h P) ts (seen_as h o)
    seen ts (Got v r) k = (k.0, k.1, (v, k.2, refl))
    seen ts (Wrong r) k = k
    seen ts (Deep r) k = k

pub back_optional : {T A : Type 0} {P : Part T A} {p : Reader T A} (begin : T → Bool) → Back P p → Back (optional P) (read_optional begin p)
back_optional {T} {A} {P} {p} begin f = record { shown = λ ts. chosen ts (begins begin ts) }
  where
    seen : (ts : List T) (o : Outcome T A) → Shown P ts o → Shown (optional P) ts (seen_as Some o)
    seen ts (Got v r) k = k
    seen ts (Wrong r) k = (k.0, k.1, inr k.2)
    seen ts (Deep r) k = (k.0, k.1, k.2, k.3, k.4, inr k.5)

    chosen : (ts : List T) (b : Bool) → Shown (optional P) ts (cond b (seen_as Some (p ts)) (Got None ts))
    chosen ts true = seen ts (p ts) (f.shown ts)
    chosen ts false = ([], refl, refl)

pub back_either : {T A : Type 0} {P Q : Part T A} {p q : Reader T A} (begin : T → Bool) → Back P p → Back Q q → Back (either P Q) (read_either begin p q)
back_either {T} {A} {P} {Q} {p} {q} begin f g = record { shown = λ ts. chosen ts (begins begin ts) }
  where
    on_left : (ts : List T) (o : Outcome T A) → Shown P ts o → Shown (either P Q) ts o
    on_left ts (Got v r) k = (k.0, k.1, inl k.2)
    on_left ts (Wrong r) k = (k.0, k.1, inl k.2)
    on_left ts (Deep r) k = (k.0, k.1, k.2, k.3, k.4, inl k.5)

    on_right : (ts : List T) (o : Outcome T A) → Shown Q ts o → Shown (either P Q) ts o
    on_right ts (Got v r) k = (k.0, k.1, inr k.2)
    on_right ts (Wrong r) k = (k.0, k.1, inr k.2)
    on_right ts (Deep r) k = (k.0, k.1, k.2, k.3, k.4, inr k.5)

    chosen : (ts : List T) (b : Bool) → Shown (either P Q) ts (cond b (p ts) (q ts))
    chosen ts true = on_left ts (p ts) (f.shown ts)
    chosen ts false = on_right ts (q ts) (g.shown ts)

module _ {T A : Type 0} {P : Part T A} {p : Reader T A} (begin : T → Bool) (f : Back P p) where
  one_more : (ts : List T) (v : A) (own r : List T) → ts ≡ own ++ r → P.derives own v → (o : Outcome T (List A)) → Shown (repeated P) r o → Shown (repeated P) ts (before v o)
  one_more ts v own r e h (Got vs rest) k =
      (own ++ k.0, e ∙ ap (λ r. own ++ r) k.1 ∙ sym (append_assoc own k.0 rest), (own, k.0, refl, h, k.2))
  one_more ts v own r e h (Wrong rest) k =
      let x = k.2 in (
        own ++ k.0,
        e ∙ ap (λ r. own ++ r) k.1 ∙ sym (append_assoc own k.0 rest),
        record { own = own ++ x.own; rest = x.rest; values = v ∷ x.values; parts = ap (λ t. own ++ t) x.parts ∙ sym (append_assoc own x.own x.rest); rounds = (own, x.own, refl, h, x.rounds); next = x.next },
      )
  one_more ts v own r e h (Deep rest) k =
      let x = k.5 in (
        own ++ k.0,
        k.1,
        k.2,
        k.3,
        e ∙ ap (λ r. own ++ r) k.4 ∙ sym (append_assoc own k.0 (k.1 ∷ k.2)),
        record { own = own ++ x.own; rest = x.rest; values = v ∷ x.values; parts = append_assoc own k.0 (k.1 ∷ []) ∙ ap (λ t. own ++ t) x.parts ∙ sym (append_assoc own x.own x.rest); rounds = (own, x.own, refl, h, x.rounds); next = x.next },
      )

  round_shown : (n : ℕ) (ts : List T) → ((r : List T) → Shown (repeated P) r (rounds n begin p r)) → (o : Outcome T A) → Shown P ts o → Shown (repeated P) ts (onward o (λ v rest. before v (rounds n begin p rest)))
  round_shown n ts more (Got v r) k = one_more ts v k.0 r k.1 k.2 (rounds n begin p r) (more r)
  round_shown n ts more (Wrong r) k = (k.0, k.1, record { own = []; rest = k.0; values = []; parts = refl; rounds = refl; next = k.2 })
  round_shown n ts more (Deep r) k = (k.0, k.1, k.2, k.3, k.4, record { own = []; rest = k.0 ++ k.1 ∷ []; values = []; parts = refl; rounds = refl; next = k.5 })

  chosen : (n : ℕ) (ts : List T) (b : Bool) → ((r : List T) → Shown (repeated P) r (rounds n begin p r)) → Shown (repeated P) ts (cond b (onward (p ts) (λ v rest. before v (rounds n begin p rest))) (Got [] ts))
  chosen n ts true more = round_shown n ts more (p ts) (f.shown ts)
  chosen n ts false more = ([], refl, refl)

  rounds_shown : (n : ℕ) (ts : List T) → Shown (repeated P) ts (rounds n begin p ts)
  rounds_shown zero ts = ([], refl, refl)
  rounds_shown (suc n) ts = chosen n ts (begins begin ts) (rounds_shown n)

  pub back_repeated : Back (repeated P) (read_repeated begin p)
  unfolding read_repeated
  back_repeated = record { shown = λ ts. rounds_shown (length ts) ts }

-- a bracket that is too deep is a front of what begins with it
pub back_deep : {T V : Type 0} (opens : T → Bool) {P : Part T V} → P.front [] → ((c : T) → opens c ≡ true → P.front (c ∷ [])) → Back P (read_deep opens)
back_deep {T} {V} opens {P} none first = record { shown = shown }
  where
    chosen : (c : T) (cs : List T) (b : Bool) → opens c ≡ b → Shown P (c ∷ cs) (cond b (Deep (c ∷ cs)) (Wrong (c ∷ cs)))
    chosen c cs true e = ([], c, cs, refl, refl, first c e)
    chosen c cs false e = ([], refl, none)

    shown : (ts : List T) → Shown P ts (read_deep {T = T} {V = V} opens ts)
    shown [] = ([], refl, none)
    shown (c ∷ cs) = chosen c cs (opens c) refl

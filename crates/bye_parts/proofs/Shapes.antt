-- What the fronts of a part are like, whatever reads it.
use Rattle.std.proofs.Common.{◌≡◌, refl, ℕ, Bool, true, false, cond, ◌&&◌, List, ◌∷◌, [], ◌++◌, Option, Some, None, ◌⊎◌, inl, inr, ⊎_elim, sym, ◌∙◌, ap, subst, append_assoc}
use Rattle.std.proofs.lemmas.List.{append-nil}
use Rattle.bye_parts.specs.Parts.{Part, token, Sequence, Beyond, sequence, yield, nothing, either, Maybe, optional, Rounds, Another, repeated, mapped, any}
use Rattle.bye_parts.specs.Sets.{has}
use Rattle.bye_parts.proofs.Sets.{no_yes, and_no, has_left, has_right, has_more, subset}
use Rattle.bye_parts.proofs.Cuts.{heads, nil_parts, cuts, last_cut, last_alone, last_some}
use Rattle.bye_parts.proofs.TokenKinds.{Kinds}

-- n: whether the empty list may derive; F: the kinds with which a front may begin
pub record Shape {T V : Type 0} (K : Kinds T) (n : Bool) (F : List ℕ) (P : Part T V) : Type 0 where
  -- a token derives, where the list may not be empty
  pub some : n ≡ false → (v : V) → P.derives [] v → ⊥
  pub starts : (c : T) (t : List T) → P.front (c ∷ t) → has F (K.kind c) ≡ true
  pub empty : P.front []
  -- what derives is a front
  pub whole : (t : List T) (v : V) → P.derives t v → P.front t
  -- what begins a front is one
  pub closed : (x y : List T) → P.front (x ++ y) → P.front x
  -- a token may stand for another at the end of a front
  pub alike : (x : List T) (t u : T) → K.Alike t u → P.front (x ++ t ∷ []) → P.front (x ++ u ∷ [])

no_cons : {A : Type 0} {c : A} {t : List A} {P : Type 0} → ◌≡◌ {A = List A} (c ∷ t) [] → P
no_cons e = cc

pub shape_nothing : {T V : Type 0} (K : Kinds T) (n : Bool) (F : List ℕ) → Shape K n F (nothing {T = T} {V = V})
shape_nothing K n F = record {
  some = λ e v h. h;
  starts = λ c t h. no_cons h;
  empty = refl;
  whole = λ t v h. absurd h;
  closed = λ x y h. (nil_parts x y (sym h)).0;
  alike = λ x t u a h. absurd (last_some x t h);
}

pub shape_yield : {T V : Type 0} (K : Kinds T) (v : V) → Shape K true [] (yield {T = T} v)
shape_yield K v = record {
  some = λ e w h. no_yes e;
  starts = λ c t h. no_cons h;
  empty = refl;
  whole = λ t w h. h.0;
  closed = λ x y h. (nil_parts x y (sym h)).0;
  alike = λ x t u a h. absurd (last_some x t h);
}

pub shape_token : {T V : Type 0} (K : Kinds T) (F : List ℕ) (fits : T → Option V) → ((t : T) (v : V) → fits t ≡ Some v → has F (K.kind t) ≡ true)
    → ((t u : T) (v : V) → K.Alike t u → fits t ≡ Some v → (w : V) × (fits u ≡ Some w)) → Shape K false F (token fits)
shape_token {T} {V} K F fits first other = record {
  some = λ e v h. let k = h.1 in cc;
  starts = λ c t h. ⊎_elim no_cons (λ (k : (t' : T) × (v : V) × (c ∷ t ≡ t' ∷ []) × (fits t' ≡ Some v)).
      subst (λ t. has F (K.kind t) ≡ true) (sym (heads c k.0 t [] k.2).0) (first k.0 k.1 k.3)) h;
  empty = inl refl;
  whole = λ t v h. inr (h.0, v, h.1, h.2);
  closed = closed;
  alike = λ x t u a h. ⊎_elim (λ (e : x ++ t ∷ [] ≡ []). absurd (last_some x t e))
      (λ (k : (t' : T) × (v : V) × (x ++ t ∷ [] ≡ t' ∷ []) × (fits t' ≡ Some v)).
      let e = last_alone x t k.0 k.2 in
      let w = other t u k.1 a (ap fits e.1 ∙ k.3) in
      let r : (token fits).front (x ++ u ∷ []) = inr (u, w.0, ap (λ x. x ++ u ∷ []) e.0, w.1) in r) h;
}
  where
    closed : (x y : List T) → (token fits).front (x ++ y) → (token fits).front x
    closed [] y h = inl refl
    closed (c ∷ x) y h =
        ⊎_elim no_cons (λ (k : (t : T) × (v : V) × (c ∷ (x ++ y) ≡ t ∷ []) × (fits t ≡ Some v)).
        let e = heads c k.0 (x ++ y) [] k.2 in
        let r : (token fits).front (c ∷ x) = inr (k.0, k.1, ap (λ c. c ∷ x) e.0 ∙ ap (λ x. k.0 ∷ x) (nil_parts x y (sym e.1)).0, k.3) in r) h

module _ {T A B : Type 0} {K : Kinds T} {n m : Bool} {F F' : List ℕ} {P : Part T A} {Q : A → Part T B} (f : Shape K n F P) (g : (a : A) → Shape K m F' (Q a)) where
  next_starts : (own rest : List T) (c : T) (t : List T) (a : A) → c ∷ t ≡ own ++ rest → P.derives own a → (Q a).front rest → has (F ++ cond n F' []) (K.kind c) ≡ true
  next_starts [] rest c t a e h k =
      elim n as (λ b. n ≡ b → has (F ++ cond b F' []) (K.kind c) ≡ true) [
        | true ↦ λ e'. has_right F F' (K.kind c) ((g a).starts c t (subst (λ ts. (Q a).front ts) (sym e) k))
        | false ↦ λ e'. absurd (f.some e' a h)
      ] refl
  next_starts (x ∷ xs) rest c t a e h k =
      has_left F (cond n F' []) (K.kind c) (subst (λ x. has F (K.kind x) ≡ true) (sym (heads c x t (xs ++ rest) e).0) (f.starts x xs (f.whole (x ∷ xs) a h)))

  none_empty : (w : B) → (n && m) ≡ false → Sequence P Q [] w → ⊥
  none_empty w e s =
      let parts = nil_parts s.own s.rest s.parts in
      ⊎_elim
      (λ (k : n ≡ false). f.some k s.value (subst (λ ts. P.derives ts s.value) parts.0 s.first))
      (λ (k : (n ≡ true) × (m ≡ false)). (g s.value).some k.1 w (subst (λ ts. (Q s.value).derives ts w) parts.1 s.next))
      (and_no n m e)

  closed_then : (x y : List T) → (sequence P Q).front (x ++ y) → (sequence P Q).front x
  closed_then x y h =
      ⊎_elim (λ (k : P.front (x ++ y)). let r : (sequence P Q).front x = inl (f.closed x y k) in r)
      (λ (b : Beyond P Q (x ++ y)). ⊎_elim
      (λ (k : (more : List T) × (b.own ≡ x ++ more) × (y ≡ more ++ b.rest)).
      let r : (sequence P Q).front x = inl (f.closed x k.0 (subst (λ t. P.front t) k.1 (f.whole b.own b.value b.first))) in r)
      (λ (k : (more : List T) × (x ≡ b.own ++ more) × (b.rest ≡ more ++ y)).
      let r : (sequence P Q).front x = inr (record { own = b.own; rest = k.0; value = b.value; parts = k.1; first = b.first; next = (g b.value).closed k.0 y (subst (λ t. (Q b.value).front t) k.2 b.next) }) in r)
      (cuts x y b.own b.rest b.parts)) h

  alike_then : (x : List T) (t u : T) → K.Alike t u → (sequence P Q).front (x ++ t ∷ []) → (sequence P Q).front (x ++ u ∷ [])
  alike_then x t u a h =
      ⊎_elim (λ (k : P.front (x ++ t ∷ [])). let r : (sequence P Q).front (x ++ u ∷ []) = inl (f.alike x t u a k) in r)
      (λ (b : Beyond P Q (x ++ t ∷ [])). ⊎_elim
      (λ (k : (more : List T) × (x ≡ b.own ++ more) × (b.rest ≡ more ++ t ∷ [])).
      let r : (sequence P Q).front (x ++ u ∷ []) = inr (record {
        own = b.own;
        rest = k.0 ++ u ∷ [];
        value = b.value;
        parts = ap (λ x. x ++ u ∷ []) k.1 ∙ append_assoc b.own k.0 (u ∷ []);
        first = b.first;
        next = (g b.value).alike k.0 t u a (subst (λ t. (Q b.value).front t) k.2 b.next);
      }) in r)
      (λ (k : b.own ≡ x ++ t ∷ []). let r : (sequence P Q).front (x ++ u ∷ []) = inl (f.alike x t u a (subst (λ t. P.front t) k (f.whole b.own b.value b.first))) in r)
      (last_cut x t b.own b.rest b.parts)) h

  pub shape_then : Shape K (n && m) (F ++ cond n F' []) (sequence P Q)
  shape_then = record {
    some = λ e w h. none_empty w e h;
    starts = λ c t h. ⊎_elim
        (λ (k : P.front (c ∷ t)). has_left F (cond n F' []) (K.kind c) (f.starts c t k))
        (λ (b : Beyond P Q (c ∷ t)). next_starts b.own b.rest c t b.value b.parts b.first b.next) h;
    empty = inl f.empty;
    whole = λ t w s. inr (record { own = s.own; rest = s.rest; value = s.value; parts = s.parts; first = s.first; next = (g s.value).whole s.rest w s.next });
    closed = closed_then;
    alike = alike_then;
  }

pub shape_mapped : {T A B : Type 0} {K : Kinds T} {n : Bool} {F : List ℕ} {P : Part T A} (h : A → B) → Shape K n F P → Shape K n F (mapped h P)
shape_mapped h f = record { some = λ e w k. f.some e k.0 k.1; starts = f.starts; empty = f.empty; whole = λ t w k. f.whole t k.0 k.1; closed = f.closed; alike = f.alike }

pub shape_optional : {T A : Type 0} {K : Kinds T} {n : Bool} {F : List ℕ} {P : Part T A} → Shape K n F P → Shape K true F (optional P)
shape_optional {T} {A} {K} {n} {F} {P} f = record {
  some = λ e v h. no_yes e;
  starts = λ c t h. ⊎_elim no_cons (λ (k : P.front (c ∷ t)). f.starts c t k) h;
  empty = inl refl;
  whole = whole;
  closed = λ x y h. ⊎_elim (λ (e : x ++ y ≡ []). let r : (optional P).front x = inl (nil_parts x y (sym e)).0 in r) (λ (k : P.front (x ++ y)). let r : (optional P).front x = inr (f.closed x y k) in r) h;
  alike = λ x t u a h. ⊎_elim (λ (e : x ++ t ∷ [] ≡ []). absurd (last_some x t e)) (λ (k : P.front (x ++ t ∷ [])). let r : (optional P).front (x ++ u ∷ []) = inr (f.alike x t u a k) in r) h;
}
  where
    whole : (t : List T) (v : Option A) → Maybe P.derives t v → (optional P).front t
    whole t None h = inl h
    whole t (Some v) h = inr (f.whole t v h)

pub shape_either : {T A : Type 0} {K : Kinds T} {F F' : List ℕ} {P Q : Part T A} → Shape K false F P → Shape K false F' Q → Shape K false (F ++ F') (either P Q)
shape_either {T} {A} {K} {F} {F'} {P} {Q} f g = record {
  some = λ e v h. ⊎_elim (λ (k : P.derives [] v). f.some refl v k) (λ (k : Q.derives [] v). g.some refl v k) h;
  starts = λ c t h. ⊎_elim (λ (k : P.front (c ∷ t)). has_left F F' (K.kind c) (f.starts c t k)) (λ (k : Q.front (c ∷ t)). has_right F F' (K.kind c) (g.starts c t k)) h;
  empty = inl f.empty;
  whole = λ t v h. on t t (f.whole t v) (g.whole t v) h;
  closed = λ x y h. on (x ++ y) x (f.closed x y) (g.closed x y) h;
  alike = λ x t u a h. on (x ++ t ∷ []) (x ++ u ∷ []) (f.alike x t u a) (g.alike x t u a) h;
}
  where
    on : {X Y : Type 0} (s t : List T) → (X → P.front t) → (Y → Q.front t) → X ⊎ Y → (either P Q).front t
    on {X} {Y} s t p q h = ⊎_elim (λ (k : X). let r : (either P Q).front t = inl (p k) in r) (λ (k : Y). let r : (either P Q).front t = inr (q k) in r) h

module _ {T A : Type 0} {K : Kinds T} {F : List ℕ} {P : Part T A} (f : Shape K false F P) where
  -- a round, and a front of those that follow it
  after : (v : A) (o : List T) → P.derives o v → (x : List T) → Another P x → Another P (o ++ x)
  after v o h x k = record { own = o ++ k.own; rest = k.rest; values = v ∷ k.values; parts = ap (λ t. o ++ t) k.parts ∙ sym (append_assoc o k.own k.rest); rounds = (o, k.own, refl, h, k.rounds); next = k.next }

  only : (x : List T) → P.front x → Another P x
  only x h = record { own = []; rest = x; values = []; parts = refl; rounds = refl; next = h }

  pub first_round : (c : T) (t : List T) (vs : List A) → Rounds P.derives (c ∷ t) vs → has F (K.kind c) ≡ true
  first_round c t [] h = no_cons h
  first_round c t (v ∷ vs) ([], r, e, first, next) = absurd (f.some refl v first)
  first_round c t (v ∷ vs) (x ∷ xs, r, e, first, next) =
      subst (λ x. has F (K.kind x) ≡ true) (sym (heads c x t (xs ++ r) e).0) (f.starts x xs (f.whole (x ∷ xs) v first))

  another_starts : (own rest : List T) (c : T) (t : List T) (vs : List A) → c ∷ t ≡ own ++ rest → Rounds P.derives own vs → P.front rest → has F (K.kind c) ≡ true
  another_starts [] rest c t vs e h k = f.starts c t (subst (λ ts. P.front ts) (sym e) k)
  another_starts (x ∷ xs) rest c t vs e h k = subst (λ x. has F (K.kind x) ≡ true) (sym (heads c x t (xs ++ rest) e).0) (first_round x xs vs h)

  closed_rounds : (vs : List A) (own rest x y : List T) → x ++ y ≡ own ++ rest → Rounds P.derives own vs → P.front rest → Another P x
  closed_rounds [] own rest x y e h k = only x (f.closed x y (subst (λ t. P.front t) (sym (e ∙ ap (λ o. o ++ rest) h)) k))
  closed_rounds (v ∷ vs) own rest x y e (o, r, parts, first, next) k =
      ⊎_elim
      (λ (m : (more : List T) × (o ≡ x ++ more) × (y ≡ more ++ (r ++ rest))). only x (f.closed x m.0 (subst (λ t. P.front t) m.1 (f.whole o v first))))
      (λ (m : (more : List T) × (x ≡ o ++ more) × (r ++ rest ≡ more ++ y)).
      subst (λ t. Another P t) (sym m.1) (after v o first m.0 (closed_rounds vs r rest m.0 y (sym m.2) next k)))
      (cuts x y o (r ++ rest) (e ∙ ap (λ t. t ++ rest) parts ∙ append_assoc o r rest))

  alike_rounds : (vs : List A) (own rest x : List T) (t u : T) → K.Alike t u → x ++ t ∷ [] ≡ own ++ rest → Rounds P.derives own vs → P.front rest → Another P (x ++ u ∷ [])
  alike_rounds [] own rest x t u a e h k = only (x ++ u ∷ []) (f.alike x t u a (subst (λ t. P.front t) (sym (e ∙ ap (λ o. o ++ rest) h)) k))
  alike_rounds (v ∷ vs) own rest x t u a e (o, r, parts, first, next) k =
      ⊎_elim
      (λ (m : (more : List T) × (x ≡ o ++ more) × (r ++ rest ≡ more ++ t ∷ [])).
      subst (λ t. Another P t) (sym (ap (λ x. x ++ u ∷ []) m.1 ∙ append_assoc o m.0 (u ∷ []))) (after v o first (m.0 ++ u ∷ []) (alike_rounds vs r rest m.0 t u a (sym m.2) next k)))
      (λ (m : o ≡ x ++ t ∷ []). only (x ++ u ∷ []) (f.alike x t u a (subst (λ t. P.front t) m (f.whole o v first))))
      (last_cut x t o (r ++ rest) (e ∙ ap (λ t. t ++ rest) parts ∙ append_assoc o r rest))

  pub shape_repeated : Shape K true F (repeated P)
  shape_repeated = record {
    some = λ e v h. no_yes e;
    starts = λ c t h. another_starts h.own h.rest c t h.values h.parts h.rounds h.next;
    empty = only [] f.empty;
    whole = λ t vs h. record { own = t; rest = []; values = vs; parts = sym (append-nil t); rounds = h; next = f.empty };
    closed = λ x y h. closed_rounds h.values h.own h.rest x y h.parts h.rounds h.next;
    alike = λ x t u a h. alike_rounds h.values h.own h.rest x t u a h.parts h.rounds h.next;
  }

-- the same with more kinds
pub shape_wider : {T V : Type 0} {K : Kinds T} {n : Bool} {F : List ℕ} (F' : List ℕ) {P : Part T V} → Shape K n F P → subset F F' ≡ true → Shape K n F' P
shape_wider {T} {V} {K} {n} {F} F' f s = record { some = f.some; starts = λ c t h. has_more F F' (K.kind c) s (f.starts c t h); empty = f.empty; whole = f.whole; closed = f.closed; alike = f.alike }

-- at any depth
pub shape_any : {T V : Type 0} {K : Kinds T} {n : Bool} {F : List ℕ} {P : ℕ → Part T V} → ((d : ℕ) → Shape K n F (P d)) → Shape K n F (any P)
shape_any f = record {
  some = λ e v h. (f h.0).some e v h.1;
  starts = λ c t h. (f h.0).starts c t h.1;
  empty = (0, (f 0).empty);
  whole = λ t v h. (h.0, (f h.0).whole t v h.1);
  closed = λ x y h. (h.0, (f h.0).closed x y h.1);
  alike = λ x t u a h. (h.0, (f h.0).alike x t u a h.1);
}

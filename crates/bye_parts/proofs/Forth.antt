-- Whatever derives is read, and no reader stops within a front.
use Rattle.std.proofs.Common.{◌≡◌, refl, ℕ, ◌≤◌, Bool, true, false, cond, List, ◌∷◌, [], ◌++◌, Option, Some, None, inl, inr, ⊎_elim, sym, ◌∙◌, ap, subst, append_assoc, arith, length}
use Rattle.std.proofs.lemmas.List.{append-nil}
use Rattle.bye_parts.specs.Parts.{Part, token, Sequence, Beyond, sequence, yield, nothing, either, Maybe, optional, mapped}
use Rattle.bye_parts.specs.Readers.{Outcome, Reader, Got, Wrong, Deep, onward, then, read_yield, taken, read_token, begins, seen_as, read_mapped, read_optional, read_either, read_deep}
use Rattle.bye_parts.specs.Answers.{Comes}
use Rattle.bye_parts.specs.Sets.{has, disjoint}
use Rattle.bye_parts.proofs.Sets.{when, unless, apart_of, lacks, has_less, subset}
use Rattle.bye_parts.proofs.TokenKinds.{Kinds, Apart, apart_join}
use Rattle.bye_parts.proofs.Shapes.{Shape}

-- no more tokens are left than these
abbrev pub Past : {T V : Type 0} → List T → Outcome T V → Type 0
Past more (Got v rest) = length rest ≤ length more
Past more (Wrong rest) = length rest ≤ length more
Past more (Deep rest) = Unit {0}

-- G: the kinds with which the part may go on where it could end
pub record Forth {T V : Type 0} (K : Kinds T) (G : List ℕ) (P : Part T V) (p : Reader T V) : Type 0 where
  -- what derives is read, whatever follows that it does not go on with
  pub got : (own more : List T) (v : V) → P.derives own v → Apart K G more → Comes (p (own ++ more)) v more
  -- no token of a front is left over
  pub far : (front more : List T) → P.front front → Past more (p (front ++ more))
  -- no token is made up
  pub short : (ts : List T) → Past ts (p ts)

past_trans : {T B : Type 0} (more r : List T) (o : Outcome T B) → length r ≤ length more → Past r o → Past more o
past_trans more r (Got v x) h k = omega (arith, h, k)
past_trans more r (Wrong x) h k = omega (arith, h, k)
past_trans more r (Deep x) h k = tt

pub past_on : {T A B : Type 0} (more : List T) (o : Outcome T A) (q : A → Reader T B) → ((a : A) (r : List T) → Past r (q a r)) → Past more o → Past more (onward o q)
past_on more (Got v r) q s h = past_trans more r (q v r) h (s v r)
past_on more (Wrong r) q s h = h
past_on more (Deep r) q s h = tt

pub past_seen : {T A B : Type 0} (more : List T) (g : A → B) (o : Outcome T A) → Past more o → Past more (seen_as g o)
past_seen more g (Got v r) h = h
past_seen more g (Wrong r) h = h
past_seen more g (Deep r) h = tt

pub past_along : {T V : Type 0} (more : List T) (x y : Outcome T V) → x ≡ y → Past more y → Past more x
past_along {T} {V} more x y e h = subst (λ (o : Outcome T V). Past more o) (sym e) h

pub past_if : {T V : Type 0} (more : List T) (b : Bool) (x y : Outcome T V) → Past more x → Past more y → Past more (cond b x y)
past_if more true x y h k = h
past_if more false x y h k = k

pub comes_along : {T V : Type 0} (x y : Outcome T V) (v : V) (more : List T) → x ≡ y → Comes y v more → Comes x v more
comes_along {T} {V} x y v more e h = subst (λ (o : Outcome T V). Comes o v more) (sym e) h

pub comes_seen : {T A B : Type 0} (g : A → B) (o : Outcome T A) (v : A) (more : List T) → Comes o v more → Comes (seen_as g o) (g v) more
comes_seen {T} g o v more h =
    ⊎_elim (λ (e : o ≡ Got v more). inl (ap (λ o. seen_as g o) e)) (λ (k : (r : List T) × (o ≡ Deep r)). inr (k.0, ap (λ o. seen_as g o) k.1)) h

-- after a value that came, or a bracket that is too deep
pub comes_on : {T A B : Type 0} (o : Outcome T A) (a : A) (rest : List T) (q : A → Reader T B) (v : B) (more : List T) → Comes o a rest → Comes (q a rest) v more → Comes (onward o q) v more
comes_on {T} o a rest q v more h k =
    ⊎_elim
    (λ (e : o ≡ Got a rest). comes_along (onward o q) (q a rest) v more (ap (λ o. onward o q) e) k)
    (λ (d : (r : List T) × (o ≡ Deep r)). inr (d.0, ap (λ o. onward o q) d.1))
    h

pub past_come : {T A B : Type 0} (o : Outcome T A) (a : A) (rest more : List T) (q : A → Reader T B) → Comes o a rest → Past more (q a rest) → Past more (onward o q)
past_come {T} o a rest more q h k =
    ⊎_elim
    (λ (e : o ≡ Got a rest). past_along more (onward o q) (q a rest) (ap (λ o. onward o q) e) k)
    (λ (d : (r : List T) × (o ≡ Deep r)). past_along more (onward o q) (Deep d.0) (ap (λ o. onward o q) d.1) tt)
    h

-- a token
pub forth_token : {T V : Type 0} (K : Kinds T) (fits : T → Option V) → Forth K [] (token fits) (read_token fits)
forth_token {T} {V} K fits = record {
  got = λ own more v h a. inl (ap (λ ts. read_token fits (ts ++ more)) h.1 ∙ ap (λ o. taken o h.0 more) h.2);
  far = λ front more h. ⊎_elim
      (λ (e : front ≡ []). past_along more (read_token fits (front ++ more)) (read_token fits more) (ap (λ ts. read_token fits (ts ++ more)) e) (short more))
      (λ (k : (t' : T) × (v : V) × (front ≡ t' ∷ []) × (fits t' ≡ Some v)). past_along more (read_token fits (front ++ more)) (Got k.1 more) (ap (λ ts. read_token fits (ts ++ more)) k.2 ∙ ap (λ o. taken o k.0 more) k.3) (omega arith))
      h;
  short = short;
}
  where
    own_taken : (o : Option V) (c : T) (cs : List T) → Past (c ∷ cs) (taken o c cs)
    own_taken None c cs = omega arith
    own_taken (Some v) c cs = omega arith

    short : (ts : List T) → Past ts (read_token fits ts)
    short [] = omega arith
    short (c ∷ cs) = own_taken (fits c) c cs

-- no token
pub forth_yield : {T V : Type 0} (K : Kinds T) (v : V) → Forth K [] (yield v) (read_yield v)
forth_yield K v = record {
  got = λ own more w h a. inl (ap (λ ts. Got v (ts ++ more)) h.0 ∙ ap (λ x. Got x more) (sym h.1));
  far = λ front more h. past_along more (Got v (front ++ more)) (Got v more) (ap (λ ts. Got v (ts ++ more)) h) (omega arith);
  short = λ ts. omega arith;
}

-- one part after another
module _ {T A B : Type 0} {K : Kinds T} {n m : Bool} {F G F' G' : List ℕ} {P : Part T A} {p : Reader T A} {Q : A → Part T B} {q : A → Reader T B}
    (s : Shape K n F P) (f : Forth K G P p) (t : (a : A) → Shape K m F' (Q a)) (g : (a : A) → Forth K G' (Q a) (q a)) (d : disjoint F' G ≡ true) where
  after_rest : (rest more : List T) (a : A) (w : B) → (Q a).derives rest w → Apart K (G' ++ cond m G []) more → Apart K G (rest ++ more)
  after_rest [] more a w h k =
      elim m as (λ b. m ≡ b → Apart K (G' ++ cond b G []) more → Apart K G more) [
        | true ↦ λ e k. (apart_join K G' G more k).1
        | false ↦ λ e k. absurd ((t a).some e w h)
      ] refl k
  after_rest (c ∷ cs) more a w h k = apart_of F' G (K.kind c) d ((t a).starts c cs ((t a).whole (c ∷ cs) w h))

  split : (own rest more ts : List T) → ts ≡ own ++ rest → p (ts ++ more) ≡ p (own ++ (rest ++ more))
  split own rest more ts e = ap p (ap (λ ts. ts ++ more) e ∙ append_assoc own rest more)

  then_got : (ts more : List T) (w : B) → Sequence P Q ts w → Apart K (G' ++ cond m G []) more → Comes (then p q (ts ++ more)) w more
  then_got ts more w x a =
      let first = f.got x.own (x.rest ++ more) x.value x.first (after_rest x.rest more x.value w x.next a) in
      let next = (g x.value).got x.rest more w x.next (apart_join K G' (cond m G []) more a).0 in
      comes_on (p (ts ++ more)) x.value (x.rest ++ more) q w more
      (comes_along (p (ts ++ more)) (p (x.own ++ (x.rest ++ more))) x.value (x.rest ++ more) (split x.own x.rest more ts x.parts) first) next

  first_far : (ts more : List T) → P.front ts → Past more (then p q (ts ++ more))
  first_far ts more h = past_on more (p (ts ++ more)) q (λ a r. (g a).short r) (f.far ts more h)

  next_far : (own rest ts more : List T) (a : A) → ts ≡ own ++ rest → P.derives own a → (Q a).front rest → Past more (then p q (ts ++ more))
  next_far own [] ts more a e h k = first_far ts more (subst (λ ts. P.front ts) (sym (e ∙ append-nil own)) (s.whole own a h))
  next_far own (c ∷ cs) ts more a e h k =
      let first = f.got own ((c ∷ cs) ++ more) a h (apart_of F' G (K.kind c) d ((t a).starts c cs k)) in
      past_come (p (ts ++ more)) a ((c ∷ cs) ++ more) more q
      (comes_along (p (ts ++ more)) (p (own ++ ((c ∷ cs) ++ more))) a ((c ∷ cs) ++ more) (split own (c ∷ cs) more ts e) first)
      ((g a).far (c ∷ cs) more k)

  pub forth_then : Forth K (G' ++ cond m G []) (sequence P Q) (then p q)
  forth_then = record {
    got = λ own more w x a. then_got own more w x a;
    far = λ front more h. ⊎_elim
        (λ (k : P.front front). first_far front more k)
        (λ (b : Beyond P Q front). next_far b.own b.rest front more b.value b.parts b.first b.next) h;
    short = λ ts. past_on ts (p ts) q (λ a r. (g a).short r) (f.short ts);
  }

-- a value seen as another
pub forth_mapped : {T A B : Type 0} {K : Kinds T} {G : List ℕ} {P : Part T A} {p : Reader T A} (h : A → B) → Forth K G P p → Forth K G (mapped h P) (read_mapped h p)
forth_mapped {T} {A} {B} {K} {G} {P} {p} h f = record {
  got = λ own more w k a. comes_along' own more w k (comes_seen h (p (own ++ more)) k.0 more (f.got own more k.0 k.1 a));
  far = λ front more k. past_seen more h (p (front ++ more)) (f.far front more k);
  short = λ ts. past_seen ts h (p ts) (f.short ts);
}
  where
    comes_along' : (own more : List T) (w : B) (k : (v : A) × P.derives own v × (w ≡ h v)) → Comes (seen_as h (p (own ++ more))) (h k.0) more → Comes (seen_as h (p (own ++ more))) w more
    comes_along' own more w k c = subst (λ w. Comes (seen_as h (p (own ++ more))) w more) (sym k.2) c

-- an optional part
module _ {T A : Type 0} {K : Kinds T} {F G : List ℕ} {P : Part T A} {p : Reader T A} (s : Shape K false F P) (f : Forth K G P p) (begin : T → Bool) (same : (c : T) → begin c ≡ has F (K.kind c)) where
  opt_none : (more : List T) → Apart K (F ++ G) more → read_optional begin p more ≡ Got None more
  opt_none [] a = refl
  opt_none (c ∷ cs) a = unless (begin c) (seen_as Some (p (c ∷ cs))) (Got None (c ∷ cs)) (same c ∙ (lacks F G (K.kind c) a).0)

  opt_some : (c : T) (t : List T) → P.front (c ∷ t) → (more : List T) → read_optional begin p ((c ∷ t) ++ more) ≡ seen_as Some (p ((c ∷ t) ++ more))
  opt_some c t h more = when (begin c) (seen_as Some (p ((c ∷ t) ++ more))) (Got None ((c ∷ t) ++ more)) (same c ∙ s.starts c t h)

  opt_got : (own more : List T) (v : Option A) → Maybe P.derives own v → Apart K (F ++ G) more → Comes (read_optional begin p (own ++ more)) v more
  opt_got own more None h a = inl (ap (λ ts. read_optional begin p (ts ++ more)) h ∙ opt_none more a)
  opt_got [] more (Some v) h a = absurd (s.some refl v h)
  opt_got (c ∷ t) more (Some v) h a =
      comes_along (read_optional begin p ((c ∷ t) ++ more)) (seen_as Some (p ((c ∷ t) ++ more))) (Some v) more (opt_some c t (s.whole (c ∷ t) v h) more)
      (comes_seen Some (p ((c ∷ t) ++ more)) v more (f.got (c ∷ t) more v h (apart_join K F G more a).1))

  opt_short : (ts : List T) → Past ts (read_optional begin p ts)
  opt_short ts = past_if ts (begins begin ts) (seen_as Some (p ts)) (Got None ts) (past_seen ts Some (p ts) (f.short ts)) (omega arith)

  opt_far : (front more : List T) → P.front front → Past more (read_optional begin p (front ++ more))
  opt_far [] more h = opt_short more
  opt_far (c ∷ t) more h = past_along more (read_optional begin p ((c ∷ t) ++ more)) (seen_as Some (p ((c ∷ t) ++ more))) (opt_some c t h more) (past_seen more Some (p ((c ∷ t) ++ more)) (f.far (c ∷ t) more h))

  pub forth_optional : Forth K (F ++ G) (optional P) (read_optional begin p)
  forth_optional = record {
    got = opt_got;
    far = λ front more h. ⊎_elim
        (λ (e : front ≡ []). past_along more (read_optional begin p (front ++ more)) (read_optional begin p more) (ap (λ ts. read_optional begin p (ts ++ more)) e) (opt_short more))
        (λ (k : P.front front). opt_far front more k) h;
    short = opt_short;
  }

-- a choice
module _ {T A : Type 0} {K : Kinds T} {F G F' G' : List ℕ} {P Q : Part T A} {p q : Reader T A} (s : Shape K false F P) (f : Forth K G P p) (t : Shape K false F' Q) (g : Forth K G' Q q)
    (begin : T → Bool) (same : (c : T) → begin c ≡ has F (K.kind c)) (d : disjoint F' F ≡ true) where
  left : (c : T) (u : List T) → P.front (c ∷ u) → (more : List T) → read_either begin p q ((c ∷ u) ++ more) ≡ p ((c ∷ u) ++ more)
  left c u h more = when (begin c) (p ((c ∷ u) ++ more)) (q ((c ∷ u) ++ more)) (same c ∙ s.starts c u h)

  right : (c : T) (u : List T) → Q.front (c ∷ u) → (more : List T) → read_either begin p q ((c ∷ u) ++ more) ≡ q ((c ∷ u) ++ more)
  right c u h more = unless (begin c) (p ((c ∷ u) ++ more)) (q ((c ∷ u) ++ more)) (same c ∙ apart_of F' F (K.kind c) d (t.starts c u h))

  left_got : (own more : List T) (v : A) → P.derives own v → Apart K G more → Comes (read_either begin p q (own ++ more)) v more
  left_got [] more v h a = absurd (s.some refl v h)
  left_got (c ∷ u) more v h a = comes_along (read_either begin p q ((c ∷ u) ++ more)) (p ((c ∷ u) ++ more)) v more (left c u (s.whole (c ∷ u) v h) more) (f.got (c ∷ u) more v h a)

  right_got : (own more : List T) (v : A) → Q.derives own v → Apart K G' more → Comes (read_either begin p q (own ++ more)) v more
  right_got [] more v h a = absurd (t.some refl v h)
  right_got (c ∷ u) more v h a = comes_along (read_either begin p q ((c ∷ u) ++ more)) (q ((c ∷ u) ++ more)) v more (right c u (t.whole (c ∷ u) v h) more) (g.got (c ∷ u) more v h a)

  either_short : (ts : List T) → Past ts (read_either begin p q ts)
  either_short ts = past_if ts (begins begin ts) (p ts) (q ts) (f.short ts) (g.short ts)

  left_far : (front more : List T) → P.front front → Past more (read_either begin p q (front ++ more))
  left_far [] more h = either_short more
  left_far (c ∷ u) more h = past_along more (read_either begin p q ((c ∷ u) ++ more)) (p ((c ∷ u) ++ more)) (left c u h more) (f.far (c ∷ u) more h)

  right_far : (front more : List T) → Q.front front → Past more (read_either begin p q (front ++ more))
  right_far [] more h = either_short more
  right_far (c ∷ u) more h = past_along more (read_either begin p q ((c ∷ u) ++ more)) (q ((c ∷ u) ++ more)) (right c u h more) (g.far (c ∷ u) more h)

  pub forth_either : Forth K (G ++ G') (either P Q) (read_either begin p q)
  forth_either = record {
    got = λ own more v h a. ⊎_elim (λ (k : P.derives own v). left_got own more v k (apart_join K G G' more a).0) (λ (k : Q.derives own v). right_got own more v k (apart_join K G G' more a).1) h;
    far = λ front more h. ⊎_elim (λ (k : P.front front). left_far front more k) (λ (k : Q.front front). right_far front more k) h;
    short = either_short;
  }

-- no bracket is left to open, and nothing derives
pub forth_nothing : {T V : Type 0} {K : Kinds T} {G : List ℕ} {P : Part T V} {p : Reader T V} → Forth K G P p → Forth K G nothing p
forth_nothing {T} {V} {K} {G} {P} {p} f = record {
  got = λ own more v h a. absurd h;
  far = λ front more h. past_along more (p (front ++ more)) (p more) (ap (λ ts. p (ts ++ more)) h) (f.short more);
  short = f.short;
}

-- where no bracket may be opened any more, a reader stops at each bracket
pub forth_deep : {T V : Type 0} {K : Kinds T} {F : List ℕ} {P : Part T V} (G : List ℕ) (opens : T → Bool) → ((c : T) → opens c ≡ has F (K.kind c)) → Shape K false F P → Forth K G P (read_deep opens)
forth_deep {T} {V} {K} {F} {P} G opens same s = record { got = got; far = far; short = short }
  where
    at_bracket : (c : T) (t : List T) → P.front (c ∷ t) → (more : List T) → read_deep {T = T} {V = V} opens ((c ∷ t) ++ more) ≡ Deep ((c ∷ t) ++ more)
    at_bracket c t h more = when (opens c) (Deep ((c ∷ t) ++ more)) (Wrong ((c ∷ t) ++ more)) (same c ∙ s.starts c t h)

    got : (own more : List T) (v : V) → P.derives own v → Apart K G more → Comes {V = V} (read_deep opens (own ++ more)) v more
    got [] more v h a = absurd (s.some refl v h)
    got (c ∷ t) more v h a = inr ((c ∷ t) ++ more, at_bracket c t (s.whole (c ∷ t) v h) more)

    short : (ts : List T) → Past ts (read_deep {T = T} {V = V} opens ts)
    short [] = omega arith
    short (c ∷ cs) = past_if (c ∷ cs) (opens c) (Deep (c ∷ cs)) (Wrong (c ∷ cs)) tt (omega arith)

    far : (front more : List T) → P.front front → Past {V = V} more (read_deep opens (front ++ more))
    far [] more h = short more
    far (c ∷ t) more h = past_along {V = V} more (read_deep opens ((c ∷ t) ++ more)) (Deep ((c ∷ t) ++ more)) (at_bracket c t h more) tt

-- the same with more kinds
pub forth_wider : {T V : Type 0} {K : Kinds T} {G : List ℕ} (G' : List ℕ) {P : Part T V} {p : Reader T V} → Forth K G P p → subset G G' ≡ true → Forth K G' P p
forth_wider {T} {V} {K} {G} G' f s = record { got = λ own more v h a. f.got own more v h (less more a); far = f.far; short = f.short }
  where
    less : (more : List T) → Apart K G' more → Apart K G more
    less [] h = tt
    less (c ∷ cs) h = has_less G G' (K.kind c) s h

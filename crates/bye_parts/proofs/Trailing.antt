-- Rounds after separators, with a separator at the end or without.
use Rattle.std.proofs.Common.{◌≡◌, refl, ℕ, zero, suc, ◌≤◌, Bool, true, false, cond, List, ◌∷◌, [], ◌++◌, Option, Some, None, ◌⊎◌, inl, inr, ⊎_elim, sym, ◌∙◌, ap, subst, append_assoc, arith, length, length-append}
use Rattle.std.proofs.lemmas.List.{append-nil}
use Rattle.bye_parts.specs.Parts.{Part, token, Sequence, Beyond, sequence, yield, optional, Rounds, Another, repeated, trailing}
use Rattle.bye_parts.specs.Readers.{Outcome, Reader, Got, Wrong, Deep, onward, begins, seen_as, before, tail, read_trailing}
use Rattle.bye_parts.specs.Answers.{Comes}
use Rattle.bye_parts.specs.Sets.{has, disjoint}
use Rattle.bye_parts.proofs.Sets.{when, unless, apart_of, lacks}
use Rattle.bye_parts.proofs.Cuts.{heads}
use Rattle.bye_parts.proofs.TokenKinds.{Kinds, Apart}
use Rattle.bye_parts.proofs.Shapes.{Shape}
use Rattle.bye_parts.proofs.Forth.{Past, Forth, past_on, past_seen, past_along, past_come, comes_along, comes_seen, comes_on, past_if}
use Rattle.bye_parts.proofs.Back.{Shown, Back}

module _ {T V S : Type 0} (separator : T → Option S) (P : Part T V) where
  -- the token is a separator
  abbrev pub IsSeparator : T → Type 0
  IsSeparator c = (s : S) × (separator c ≡ Some s)

  -- rounds, each after its separator, and at the end one separator or none
  abbrev pub Tail : List T → List V → Type 0
  Tail ts [] = (ts ≡ []) ⊎ ((c : T) × (ts ≡ c ∷ []) × IsSeparator c)
  Tail ts (v ∷ vs) = (c : T) × (own : List T) × (rest : List T) × (ts ≡ c ∷ (own ++ rest)) × IsSeparator c × P.derives own v × Tail rest vs

  -- such rounds, and then a front of a separator and one round more
  abbrev pub TailFront : List T → List V → Type 0
  TailFront ts [] = (ts ≡ []) ⊎ ((c : T) × (front : List T) × (ts ≡ c ∷ front) × IsSeparator c × P.front front)
  TailFront ts (v ∷ vs) = (c : T) × (own : List T) × (rest : List T) × (ts ≡ c ∷ (own ++ rest)) × IsSeparator c × P.derives own v × TailFront rest vs

  -- the same lists as of the rounds and the separator
  ends_of : (ts : List T) (vs ws : List V) → Sequence (optional (token separator)) (λ _. yield vs) ts ws → (ws ≡ vs) × ((ts ≡ []) ⊎ ((c : T) × (ts ≡ c ∷ []) × IsSeparator c))
  ends_of ts vs ws s =
      let parts : ts ≡ s.own = s.parts ∙ ap (λ r. s.own ++ r) s.next.0 ∙ append-nil s.own in (
        s.next.1,
        elim s.value as (λ o. s.value ≡ o → (ts ≡ []) ⊎ ((c : T) × (ts ≡ c ∷ []) × IsSeparator c)) [
          | None ↦ λ e. inl (parts ∙ subst (λ o. (optional (token separator)).derives s.own o) e s.first)
          | Some x ↦ λ e.
              let k : (token separator).derives s.own x = subst (λ o. (optional (token separator)).derives s.own o) e s.first in
              inr (k.0, parts ∙ k.1, (x, k.2))
        ] refl,
      )

  tail_of : (vs : List V) (own rest ts : List T) → ts ≡ own ++ rest → Rounds (sequence (token separator) (λ _. P)).derives own vs → ((rest ≡ []) ⊎ ((c : T) × (rest ≡ c ∷ []) × IsSeparator c)) → Tail ts vs
  tail_of [] own rest ts e h k =
      let is : ts ≡ rest = e ∙ ap (λ o. o ++ rest) h in
      ⊎_elim (λ (z : rest ≡ []). inl (is ∙ z)) (λ (z : (c : T) × (rest ≡ c ∷ []) × IsSeparator c). inr (z.0, is ∙ z.1, z.2)) k
  tail_of (v ∷ vs) own rest ts e (o, r, parts, s, next) k = (
    s.first.0,
    s.rest,
    r ++ rest,
    e ∙ ap (λ o. o ++ rest) (parts ∙ ap (λ o. o ++ r) (s.parts ∙ ap (λ o. o ++ s.rest) s.first.1)) ∙ append_assoc (s.first.0 ∷ s.rest) r rest,
    (s.value, s.first.2),
    s.next,
    tail_of vs r rest (r ++ rest) refl next k,
  )

  round_of : (c : T) (own : List T) (v : V) → IsSeparator c → P.derives own v → Sequence (token separator) (λ _. P) (c ∷ own) v
  round_of c own v is h = record { own = c ∷ []; rest = own; value = is.0; parts = refl; first = (c, refl, is.1); next = h }

  -- one separator or none
  abbrev End : List T → Type 0
  End rest = (rest ≡ []) ⊎ ((c : T) × (rest ≡ c ∷ []) × IsSeparator c)

  rounds_of : (vs : List V) (ts : List T) → Tail ts vs → (own : List T) × (rest : List T) × (ts ≡ own ++ rest) × Rounds (sequence (token separator) (λ _. P)).derives own vs × End rest
  rounds_of [] ts h = ([], ts, refl, refl, h)
  rounds_of (v ∷ vs) ts (c, own, rest, e, is, h, next) =
      let k = rounds_of vs rest next in
      (c ∷ own ++ k.0, k.1, e ∙ ap (λ r. c ∷ (own ++ r)) k.2 ∙ ap (λ t. c ∷ t) (sym (append_assoc own k.0 k.1)), (c ∷ own, k.0, refl, round_of c own v is h, k.3), k.4)

  end_of : (vs : List V) (rest : List T) → End rest → Sequence (optional (token separator)) (λ _. yield vs) rest vs
  end_of vs rest h =
      ⊎_elim
      (λ (e : rest ≡ []). let s : Sequence (optional (token separator)) (λ _. yield vs) rest vs = record { own = []; rest = []; value = None; parts = e; first = refl; next = (refl, refl) } in s)
      (λ (k : (c : T) × (rest ≡ c ∷ []) × IsSeparator c). let s : Sequence (optional (token separator)) (λ _. yield vs) rest vs = record { own = k.0 ∷ []; rest = []; value = Some k.2.0; parts = k.1; first = (k.0, refl, k.2.1); next = (refl, refl) } in s)
      h

  -- fronts
  front_of : P.front [] → (rest : List T) → (sequence (token separator) (λ _. P)).front rest → TailFront rest []
  front_of none rest h =
      ⊎_elim
      (λ (k : (token separator).front rest). ⊎_elim
      (λ (e : rest ≡ []). let t : TailFront rest [] = inl e in t)
      (λ (m : (c : T) × (v : S) × (rest ≡ c ∷ []) × (separator c ≡ Some v)). let t : TailFront rest [] = inr (m.0, [], m.2, (m.1, m.3), none) in t) k)
      (λ (b : Beyond (token separator) (λ _. P) rest). let t : TailFront rest [] = inr (b.first.0, b.rest, b.parts ∙ ap (λ o. o ++ b.rest) b.first.1, (b.value, b.first.2), b.next) in t)
      h

  last_front : P.front [] → (vs : List V) (rest : List T) → (sequence (optional (token separator)) (λ _. yield {T = T} vs)).front rest → TailFront rest []
  last_front none vs rest h =
      ⊎_elim
      (λ (k : (optional (token separator)).front rest). ⊎_elim
      (λ (e : rest ≡ []). let t : TailFront rest [] = inl e in t)
      (λ (m : (token separator).front rest). front_of none rest (inl m)) k)
      (λ (b : Beyond (optional (token separator)) (λ _. yield {T = T} vs) rest).
      let e = ends_of rest vs vs (record { own = b.own; rest = b.rest; value = b.value; parts = b.parts; first = b.first; next = (b.next, refl) }) in
      ⊎_elim (λ (z : rest ≡ []). let t : TailFront rest [] = inl z in t)
      (λ (z : (c : T) × (rest ≡ c ∷ []) × IsSeparator c). let t : TailFront rest [] = inr (z.0, [], z.1, z.2, none) in t) e.1)
      h

  fronts_of : (vs : List V) (own rest ts : List T) → ts ≡ own ++ rest → Rounds (sequence (token separator) (λ _. P)).derives own vs → TailFront rest [] → TailFront ts vs
  fronts_of [] own rest ts e h k =
      let is : rest ≡ ts = sym (e ∙ ap (λ o. o ++ rest) h) in subst (λ ts. TailFront ts []) is k
  fronts_of (v ∷ vs) own rest ts e (o, r, parts, s, next) k = (
    s.first.0,
    s.rest,
    r ++ rest,
    e ∙ ap (λ o. o ++ rest) (parts ∙ ap (λ o. o ++ r) (s.parts ∙ ap (λ o. o ++ s.rest) s.first.1)) ∙ append_assoc (s.first.0 ∷ s.rest) r rest,
    (s.value, s.first.2),
    s.next,
    fronts_of vs r rest (r ++ rest) refl next k,
  )

  step_of : (rest : List T) → TailFront rest [] → (sequence (token separator) (λ _. P)).front rest
  step_of rest h =
      ⊎_elim
      (λ (e : rest ≡ []). let t : (sequence (token separator) (λ _. P)).front rest = inl (inl e) in t)
      (λ (k : (c : T) × (front : List T) × (rest ≡ c ∷ front) × IsSeparator c × P.front front).
      let t : (sequence (token separator) (λ _. P)).front rest = inr (record { own = k.0 ∷ []; rest = k.1; value = k.3.0; parts = k.2; first = (k.0, refl, k.3.1); next = k.4 }) in t)
      h

  another_of : (vs : List V) (ts : List T) → TailFront ts vs → (own : List T) × (rest : List T) × (ts ≡ own ++ rest) × Rounds (sequence (token separator) (λ _. P)).derives own vs × TailFront rest []
  another_of [] ts h = ([], ts, refl, refl, h)
  another_of (v ∷ vs) ts (c, own, rest, e, is, h, next) =
      let k = another_of vs rest next in
      (c ∷ own ++ k.0, k.1, e ∙ ap (λ r. c ∷ (own ++ r)) k.2 ∙ ap (λ t. c ∷ t) (sym (append_assoc own k.0 k.1)), (c ∷ own, k.0, refl, round_of c own v is h, k.3), k.4)

  as_tail : (ts : List T) (ws : List V) → (trailing (token separator) P).derives ts ws → Tail ts ws
  as_tail ts ws s =
      let e = ends_of s.rest s.value ws s.next in
      subst (λ (ws : List V). Tail ts ws) (sym e.0) (tail_of s.value s.own s.rest ts s.parts s.first e.1)

  as_tail_front : P.front [] → (ts : List T) → (trailing (token separator) P).front ts → (vs : List V) × TailFront ts vs
  as_tail_front none ts h = ⊎_elim
      (λ (k : Another (sequence (token separator) (λ _. P)) ts). (k.values, fronts_of k.values k.own k.rest ts k.parts k.rounds (front_of none k.rest k.next)))
      (λ (b : Beyond (repeated (sequence (token separator) (λ _. P))) (λ vs. sequence (optional (token separator)) (λ _. yield vs)) ts). (b.value, fronts_of b.value b.own b.rest ts b.parts b.first (last_front none b.value b.rest b.next)))
      h

  of_tail : (ts : List T) (vs : List V) → Tail ts vs → (trailing (token separator) P).derives ts vs
  of_tail ts vs h =
      let k = rounds_of vs ts h in
      record { own = k.0; rest = k.1; value = vs; parts = k.2; first = k.3; next = end_of vs k.1 k.4 }

  of_tail_front : (ts : List T) (vs : List V) → TailFront ts vs → (trailing (token separator) P).front ts
  of_tail_front ts vs h =
      let k = another_of vs ts h in
      inl (record { own = k.0; rest = k.1; values = vs; parts = k.2; rounds = k.3; next = step_of k.1 k.4 })

  -- the reader of the tail
  module _ {K : Kinds T} {F G : List ℕ} {p : Reader T V} (s : Shape K false F P) (f : Forth K G P p) (k : ℕ) (separates begin : T → Bool)
      (fits : (c : T) (s : S) → separator c ≡ Some s → has (k ∷ []) (K.kind c) ≡ true)
      (same_separator : (c : T) → separates c ≡ has (k ∷ []) (K.kind c))
      (same_begin : (c : T) → begin c ≡ has F (K.kind c))
      (d : disjoint (k ∷ []) G ≡ true) where
    on_separator : (n : ℕ) (c : T) (cs : List T) → IsSeparator c → tail (suc n) separates begin p (c ∷ cs) ≡ cond (begins begin cs) (onward (p cs) (λ v rest. before v (tail n separates begin p rest))) (Got [] cs)
    on_separator n c cs is = when (separates c) (cond (begins begin cs) (onward (p cs) (λ v rest. before v (tail n separates begin p rest))) (Got [] cs)) (Got [] (c ∷ cs)) (same_separator c ∙ fits c is.0 is.1)

    on_round : (n : ℕ) (c x : T) (t more : List T) → IsSeparator c → P.front (x ∷ t) → tail (suc n) separates begin p (c ∷ ((x ∷ t) ++ more)) ≡ onward (p ((x ∷ t) ++ more)) (λ v rest. before v (tail n separates begin p rest))
    on_round n c x t more is h = on_separator n c ((x ∷ t) ++ more) is ∙ when (begin x) (onward (p ((x ∷ t) ++ more)) (λ v rest. before v (tail n separates begin p rest))) (Got [] ((x ∷ t) ++ more)) (same_begin x ∙ s.starts x t h)

    -- where it ends
    at_end : (n : ℕ) (more : List T) → Apart K (k ∷ []) more → tail n separates begin p more ≡ Got [] more
    at_end zero more a = refl
    at_end (suc n) [] a = refl
    at_end (suc n) (c ∷ cs) a = unless (separates c) (cond (begins begin cs) (onward (p cs) (λ v rest. before v (tail n separates begin p rest))) (Got [] cs)) (Got [] (c ∷ cs)) (same_separator c ∙ a)

    not_begun : (more : List T) → Apart K F more → begins begin more ≡ false
    not_begun [] a = refl
    not_begun (c ∷ cs) a = same_begin c ∙ a

    after_separator : (n : ℕ) (c : T) (more : List T) → IsSeparator c → Apart K F more → tail (suc n) separates begin p (c ∷ more) ≡ Got [] more
    after_separator n c more is a = on_separator n c more is ∙ unless (begins begin more) (onward (p more) (λ v rest. before v (tail n separates begin p rest))) (Got [] more) (not_begun more a)

    separator_first : (c : T) (t : List T) (vs : List V) → Tail (c ∷ t) vs → has (k ∷ []) (K.kind c) ≡ true
    separator_first c t [] h = ⊎_elim (λ (e : c ∷ t ≡ []). let w : has (k ∷ []) (K.kind c) ≡ true = cc in w) (λ (m : (x : T) × (c ∷ t ≡ x ∷ []) × IsSeparator x).
        subst (λ x. has (k ∷ []) (K.kind x) ≡ true) (sym (heads c m.0 t [] m.1).0) (fits m.0 m.2.0 m.2.1)) h
    separator_first c t (v ∷ vs) (x, own, rest, e, is, h, next) = subst (λ x. has (k ∷ []) (K.kind x) ≡ true) (sym (heads c x t (own ++ rest) e).0) (fits x is.0 is.1)

    front_first : (c : T) (t : List T) (vs : List V) → TailFront (c ∷ t) vs → has (k ∷ []) (K.kind c) ≡ true
    front_first c t [] h = ⊎_elim (λ (e : c ∷ t ≡ []). let w : has (k ∷ []) (K.kind c) ≡ true = cc in w) (λ (m : (x : T) × (front : List T) × (c ∷ t ≡ x ∷ front) × IsSeparator x × P.front front).
        subst (λ x. has (k ∷ []) (K.kind x) ≡ true) (sym (heads c m.0 t m.1 m.2).0) (fits m.0 m.3.0 m.3.1)) h
    front_first c t (v ∷ vs) (x, own, rest, e, is, h, next) = subst (λ x. has (k ∷ []) (K.kind x) ≡ true) (sym (heads c x t (own ++ rest) e).0) (fits x is.0 is.1)

    apart_tail : (r more : List T) (vs : List V) → Tail r vs → Apart K G more → Apart K G (r ++ more)
    apart_tail [] more vs h a = a
    apart_tail (c ∷ t) more vs h a = apart_of (k ∷ []) G (K.kind c) d (separator_first c t vs h)

    shorter : (c : T) (own r more : List T) (n : ℕ) → length (c ∷ (own ++ (r ++ more))) ≤ suc n → length (r ++ more) ≤ n
    shorter c own r more n h = omega (arith, h, length-append own (r ++ more))

    tail_got : (n : ℕ) (vs : List V) (own more : List T) → length (own ++ more) ≤ n → Tail own vs → Apart K (k ∷ []) more → Apart K F more → Apart K G more → Comes (tail n separates begin p (own ++ more)) vs more
    tail_got n [] [] more l h a b g = inl (at_end n more a)
    tail_got zero [] (c ∷ t) more l h a b g = absurd (omega (arith, l))
    tail_got (suc n) [] (c ∷ t) more l h a b g =
        ⊎_elim
        (λ (e : c ∷ t ≡ []). let w : Comes (tail (suc n) separates begin p (c ∷ t ++ more)) [] more = cc in w)
        (λ (m : (x : T) × (c ∷ t ≡ x ∷ []) × IsSeparator x). let w : Comes (tail (suc n) separates begin p (c ∷ t ++ more)) [] more = inl (ap (λ ts. tail (suc n) separates begin p (ts ++ more)) m.1 ∙ after_separator n m.0 more m.2 b) in w)
        h
    tail_got n (v ∷ vs) own more l (c, [], rest, e, is, h, next) a b g = absurd (s.some refl v h)
    tail_got zero (v ∷ vs) own more l (c, x ∷ t, rest, e, is, h, next) a b g =
        let l' = subst (λ ts. length (ts ++ more) ≤ 0) e l in absurd (omega (arith, l'))
    tail_got (suc n) (v ∷ vs) own more l (c, x ∷ t, rest, e, is, h, next) a b g =
        let ts = (x ∷ t) ++ (rest ++ more) in
        let cut : own ++ more ≡ c ∷ ts = ap (λ ts. ts ++ more) e ∙ ap (λ t. c ∷ t) (append_assoc (x ∷ t) rest more) in
        let l' = subst (λ ts. length ts ≤ suc n) cut l in
        let k1 = f.got (x ∷ t) (rest ++ more) v h (apart_tail rest more vs next g) in
        let k2 = comes_seen (λ vs. v ∷ vs) (tail n separates begin p (rest ++ more)) vs more (tail_got n vs rest more (shorter c (x ∷ t) rest more n l') next a b g) in
        comes_along (tail (suc n) separates begin p (own ++ more)) (onward (p ts) (λ v rest. before v (tail n separates begin p rest))) (v ∷ vs) more
        (ap (λ ts. tail (suc n) separates begin p ts) cut ∙ on_round n c x t (rest ++ more) is (s.whole (x ∷ t) v h))
        (comes_on (p ts) v (rest ++ more) (λ v rest. before v (tail n separates begin p rest)) (v ∷ vs) more k1 k2)

    past_more : (c : T) (cs : List T) {A : Type 0} (o : Outcome T A) → Past cs o → Past (c ∷ cs) o
    past_more c cs (Got v r) h = omega (arith, h)
    past_more c cs (Wrong r) h = omega (arith, h)
    past_more c cs (Deep r) h = tt

    round_past : (n : ℕ) (cs : List T) → ((r : List T) → Past r (tail n separates begin p r)) → Past cs (cond (begins begin cs) (onward (p cs) (λ v rest. before v (tail n separates begin p rest))) (Got [] cs))
    round_past n cs ih = past_if cs (begins begin cs) (onward (p cs) (λ v rest. before v (tail n separates begin p rest))) (Got [] cs)
        (past_on cs (p cs) (λ v rest. before v (tail n separates begin p rest)) (λ v r. past_seen r (λ vs. v ∷ vs) (tail n separates begin p r) (ih r)) (f.short cs))
        (omega arith)

    tail_past : (n : ℕ) (ts : List T) → Past ts (tail n separates begin p ts)
    tail_past zero ts = omega arith
    tail_past (suc n) [] = omega arith
    tail_past (suc n) (c ∷ cs) = past_if (c ∷ cs) (separates c) (cond (begins begin cs) (onward (p cs) (λ v rest. before v (tail n separates begin p rest))) (Got [] cs)) (Got [] (c ∷ cs))
        (past_more c cs (cond (begins begin cs) (onward (p cs) (λ v rest. before v (tail n separates begin p rest))) (Got [] cs)) (round_past n cs (tail_past n)))
        (omega arith)

    started_far : (n : ℕ) (c : T) (front more : List T) → IsSeparator c → P.front front → Past more (tail (suc n) separates begin p (c ∷ (front ++ more)))
    started_far n c [] more is h = past_along more (tail (suc n) separates begin p (c ∷ more)) (cond (begins begin more) (onward (p more) (λ v rest. before v (tail n separates begin p rest))) (Got [] more)) (on_separator n c more is) (round_past n more (tail_past n))
    started_far n c (x ∷ t) more is h = past_along more (tail (suc n) separates begin p (c ∷ ((x ∷ t) ++ more))) (onward (p ((x ∷ t) ++ more)) (λ v rest. before v (tail n separates begin p rest))) (on_round n c x t more is h)
        (past_on more (p ((x ∷ t) ++ more)) (λ v rest. before v (tail n separates begin p rest)) (λ v r. past_seen r (λ vs. v ∷ vs) (tail n separates begin p r) (tail_past n r)) (f.far (x ∷ t) more h))

    whole_far : (n : ℕ) (c : T) (x : T) (t : List T) (ts more : List T) (v : V) → ts ≡ c ∷ ((x ∷ t) ++ []) → IsSeparator c → P.derives (x ∷ t) v → Past more (tail (suc n) separates begin p (ts ++ more))
    whole_far n c x t ts more v e is h =
        let cut : ts ++ more ≡ c ∷ ((x ∷ t) ++ more) = ap (λ ts. ts ++ more) (e ∙ ap (λ t. c ∷ t) (append-nil (x ∷ t))) in
        past_along more (tail (suc n) separates begin p (ts ++ more)) (tail (suc n) separates begin p (c ∷ ((x ∷ t) ++ more))) (ap (λ ts. tail (suc n) separates begin p ts) cut) (started_far n c (x ∷ t) more is (s.whole (x ∷ t) v h))

    tail_far : (n : ℕ) (vs : List V) (ts more : List T) → length (ts ++ more) ≤ n → TailFront ts vs → Past more (tail n separates begin p (ts ++ more))
    tail_far n [] [] more l h = tail_past n more
    tail_far zero [] (c ∷ t) more l h = absurd (omega (arith, l))
    tail_far (suc n) [] (c ∷ t) more l h =
        ⊎_elim
        (λ (e : c ∷ t ≡ []). let w : Past more (tail (suc n) separates begin p (c ∷ t ++ more)) = cc in w)
        (λ (m : (x : T) × (front : List T) × (c ∷ t ≡ x ∷ front) × IsSeparator x × P.front front).
        let w : Past more (tail (suc n) separates begin p ((c ∷ t) ++ more)) = past_along more (tail (suc n) separates begin p ((c ∷ t) ++ more)) (tail (suc n) separates begin p (m.0 ∷ (m.1 ++ more))) (ap (λ ts. tail (suc n) separates begin p (ts ++ more)) m.2) (started_far n m.0 m.1 more m.3 m.4) in w)
        h
    tail_far n (v ∷ vs) ts more l (c, [], rest, e, is, h, next) = absurd (s.some refl v h)
    tail_far zero (v ∷ vs) ts more l (c, x ∷ t, rest, e, is, h, next) =
        let l' = subst (λ ts. length (ts ++ more) ≤ 0) e l in absurd (omega (arith, l'))
    tail_far (suc n) (v ∷ vs) ts more l (c, x ∷ t, [], e, is, h, next) = whole_far n c x t ts more v e is h
    tail_far (suc n) (v ∷ vs) ts more l (c, x ∷ t, y ∷ ys, e, is, h, next) =
        let rest = y ∷ ys in
        let all = (x ∷ t) ++ (rest ++ more) in
        let cut : ts ++ more ≡ c ∷ all = ap (λ ts. ts ++ more) e ∙ ap (λ t. c ∷ t) (append_assoc (x ∷ t) rest more) in
        let l' = subst (λ ts. length ts ≤ suc n) cut l in
        let k1 = f.got (x ∷ t) (rest ++ more) v h (apart_of (k ∷ []) G (K.kind y) d (front_first y ys vs next)) in
        let k2 = past_seen more (λ vs. v ∷ vs) (tail n separates begin p (rest ++ more)) (tail_far n vs rest more (shorter c (x ∷ t) rest more n l') next) in
        past_along more (tail (suc n) separates begin p (ts ++ more)) (onward (p all) (λ v rest. before v (tail n separates begin p rest)))
        (ap (λ ts. tail (suc n) separates begin p ts) cut ∙ on_round n c x t (rest ++ more) is (s.whole (x ∷ t) v h))
        (past_come (p all) v (rest ++ more) more (λ v rest. before v (tail n separates begin p rest)) k1 k2)

    three : (more : List T) → Apart K (k ∷ (F ++ G)) more → Apart K (k ∷ []) more × Apart K F more × Apart K G more
    three [] a = (tt, tt, tt)
    three (c ∷ cs) a =
        let x = lacks (k ∷ []) (F ++ G) (K.kind c) a in
        let y = lacks F G (K.kind c) x.1 in
        (x.0, y.0, y.1)

    pub forth_trailing : Forth K (k ∷ (F ++ G)) (trailing (token separator) P) (read_trailing separates begin p)
    unfolding read_trailing
    forth_trailing = record {
      got = λ own more vs h a. let b = three more a in tail_got (length (own ++ more)) vs own more (omega arith) (as_tail own vs h) b.0 b.1 b.2;
      far = λ front more h. let b = as_tail_front s.empty front h in tail_far (length (front ++ more)) b.0 front more (omega arith) b.1;
      short = λ ts. tail_past (length ts) ts;
    }

  -- what is read derives
  module _ {p : Reader T V} (f : Back P p) (separates begin : T → Bool) (is_separator : (c : T) → separates c ≡ true → (s : S) × (separator c ≡ Some s)) where
    -- a front after some rounds
    abbrev SomeFront : List T → Type 0
    SomeFront ts = (vs : List V) × TailFront ts vs

    -- what is read of such rounds derives, and before a stop stands a front
    abbrev TailShown : List T → Outcome T (List V) → Type 0
    TailShown ts (Got vs rest) = (own : List T) × (ts ≡ own ++ rest) × Tail own vs
    TailShown ts (Wrong rest) = (front : List T) × (ts ≡ front ++ rest) × SomeFront front
    TailShown ts (Deep rest) = (front : List T) × (c : T) × (cs : List T) × (rest ≡ c ∷ cs) × (ts ≡ front ++ c ∷ cs) × SomeFront (front ++ c ∷ [])

    one_more : (c : T) (cs : List T) (v : V) (own r : List T) → cs ≡ own ++ r → IsSeparator c → P.derives own v → (o : Outcome T (List V)) → TailShown r o → TailShown (c ∷ cs) (seen_as (λ vs. v ∷ vs) o)
    one_more c cs v own r e is h (Got vs rest) k =
        (c ∷ own ++ k.0, ap (λ t. c ∷ t) (e ∙ ap (λ r. own ++ r) k.1 ∙ sym (append_assoc own k.0 rest)), (c, own, k.0, refl, is, h, k.2))
    one_more c cs v own r e is h (Wrong rest) k =
        (c ∷ own ++ k.0, ap (λ t. c ∷ t) (e ∙ ap (λ r. own ++ r) k.1 ∙ sym (append_assoc own k.0 rest)), (v ∷ k.2.0, (c, own, k.0, refl, is, h, k.2.1)))
    one_more c cs v own r e is h (Deep rest) k =
        (c ∷ own ++ k.0, k.1, k.2, k.3, ap (λ t. c ∷ t) (e ∙ ap (λ r. own ++ r) k.4 ∙ sym (append_assoc own k.0 (k.1 ∷ k.2))), (v ∷ k.5.0, (c, own, k.0 ++ k.1 ∷ [], ap (λ t. c ∷ t) (append_assoc own k.0 (k.1 ∷ [])), is, h, k.5.1)))

    round_shown : (n : ℕ) (c : T) (cs : List T) → IsSeparator c → ((r : List T) → TailShown r (tail n separates begin p r)) → (o : Outcome T V) → Shown P cs o → TailShown (c ∷ cs) (onward o (λ v rest. before v (tail n separates begin p rest)))
    round_shown n c cs is ih (Got v r) k = one_more c cs v k.0 r k.1 is k.2 (tail n separates begin p r) (ih r)
    round_shown n c cs is ih (Wrong r) k = (c ∷ k.0, ap (λ t. c ∷ t) k.1, ([], inr (c, k.0, refl, is, k.2)))
    round_shown n c cs is ih (Deep r) k = (c ∷ k.0, k.1, k.2, k.3, ap (λ t. c ∷ t) k.4, ([], inr (c, k.0 ++ k.1 ∷ [], refl, is, k.5)))

    begun_shown : (n : ℕ) (c : T) (cs : List T) (b : Bool) → IsSeparator c → ((r : List T) → TailShown r (tail n separates begin p r)) → TailShown (c ∷ cs) (cond b (onward (p cs) (λ v rest. before v (tail n separates begin p rest))) (Got [] cs))
    begun_shown n c cs true is ih = round_shown n c cs is ih (p cs) (f.shown cs)
    begun_shown n c cs false is ih = (c ∷ [], refl, inr (c, refl, is))

    split_shown : (n : ℕ) (c : T) (cs : List T) (b : Bool) → separates c ≡ b → ((r : List T) → TailShown r (tail n separates begin p r)) → TailShown (c ∷ cs) (cond b (cond (begins begin cs) (onward (p cs) (λ v rest. before v (tail n separates begin p rest))) (Got [] cs)) (Got [] (c ∷ cs)))
    split_shown n c cs true e ih = begun_shown n c cs (begins begin cs) (is_separator c e) ih
    split_shown n c cs false e ih = ([], refl, inl refl)

    tail_shown : (n : ℕ) (ts : List T) → TailShown ts (tail n separates begin p ts)
    tail_shown zero ts = ([], refl, inl refl)
    tail_shown (suc n) [] = ([], refl, inl refl)
    tail_shown (suc n) (c ∷ cs) = split_shown n c cs (separates c) refl (tail_shown n)

    shown_of : (ts : List T) (o : Outcome T (List V)) → TailShown ts o → Shown (trailing (token separator) P) ts o
    shown_of ts (Got vs rest) h = (h.0, h.1, of_tail h.0 vs h.2)
    shown_of ts (Wrong rest) h = (h.0, h.1, of_tail_front h.0 h.2.0 h.2.1)
    shown_of ts (Deep rest) h = (h.0, h.1, h.2, h.3, h.4, of_tail_front (h.0 ++ h.1 ∷ []) h.5.0 h.5.1)

    pub back_trailing : Back (trailing (token separator) P) (read_trailing separates begin p)
    unfolding read_trailing
    back_trailing = record { shown = λ ts. shown_of ts (tail (length ts) separates begin p ts) (tail_shown (length ts) ts) }

-- Whatever derives as a repetition is read.
use Rattle.std.proofs.Common.{◌≡◌, refl, ℕ, zero, suc, ◌<◌, ◌≤◌, Bool, true, false, List, ◌∷◌, [], ◌++◌, inl, ◌∙◌, ap, subst, append_assoc, arith, length, length-append}
use Rattle.std.proofs.lemmas.List.{append-nil}
use Rattle.bye_parts.specs.Parts.{Part, Rounds, repeated}
use Rattle.bye_parts.specs.Readers.{Outcome, Reader, Got, onward, begins, before, rounds, read_repeated}
use Rattle.bye_parts.specs.Answers.{Comes}
use Rattle.bye_parts.specs.Sets.{has, disjoint}
use Rattle.bye_parts.proofs.Sets.{when, unless, apart_of, lacks}
use Rattle.bye_parts.proofs.TokenKinds.{Kinds, Apart, apart_join}
use Rattle.bye_parts.proofs.Shapes.{Shape, first_round}
use Rattle.bye_parts.proofs.Forth.{Past, Forth, past_on, past_seen, past_along, past_come, comes_along, comes_seen, comes_on, past_if}

module _ {T A : Type 0} {K : Kinds T} {F G : List ℕ} {P : Part T A} {p : Reader T A} (s : Shape K false F P) (f : Forth K G P p) (begin : T → Bool) (same : (c : T) → begin c ≡ has F (K.kind c)) (d : disjoint F G ≡ true) where
  begun : (n : ℕ) (c : T) (t more : List T) → P.front (c ∷ t) → rounds (suc n) begin p ((c ∷ t) ++ more) ≡ onward (p ((c ∷ t) ++ more)) (λ v rest. before v (rounds n begin p rest))
  begun n c t more h = when (begin c) (onward (p ((c ∷ t) ++ more)) (λ v rest. before v (rounds n begin p rest))) (Got [] ((c ∷ t) ++ more)) (same c ∙ s.starts c t h)

  ended : (n : ℕ) (more : List T) → Apart K (F ++ G) more → rounds n begin p more ≡ Got [] more
  ended zero more a = refl
  ended (suc n) [] a = refl
  ended (suc n) (c ∷ cs) a = unless (begin c) (onward (p (c ∷ cs)) (λ v rest. before v (rounds n begin p rest))) (Got [] (c ∷ cs)) (same c ∙ (lacks F G (K.kind c) a).0)

  -- what follows a round does not go on with it
  after_round : (r more : List T) (vs : List A) → Rounds P.derives r vs → Apart K (F ++ G) more → Apart K G (r ++ more)
  after_round [] more vs h a = (apart_join K F G more a).1
  after_round (c ∷ t) more vs h a = apart_of F G (K.kind c) d (first_round s c t vs h)

  bound : (c : T) (t r more : List T) (m : ℕ) → length ((c ∷ t) ++ (r ++ more)) ≤ suc m → length (r ++ more) ≤ m
  bound c t r more m h = omega (arith, h, length-append t (r ++ more))

  rounds_got : (n : ℕ) (vs : List A) (own more : List T) → length (own ++ more) ≤ n → Rounds P.derives own vs → Apart K (F ++ G) more → Comes (rounds n begin p (own ++ more)) vs more
  rounds_got n [] own more l h a = inl (ap (λ ts. rounds n begin p (ts ++ more)) h ∙ ended n more a)
  rounds_got n (v ∷ vs) own more l ([], r, e, first, next) a = absurd (s.some refl v first)
  rounds_got zero (v ∷ vs) own more l (c ∷ t, r, e, first, next) a =
      let l' = subst (λ ts. length (ts ++ more) ≤ 0) e l in absurd (omega (arith, l'))
  rounds_got (suc n) (v ∷ vs) own more l (c ∷ t, r, e, first, next) a =
      let ts = (c ∷ t) ++ (r ++ more) in
      let cut : own ++ more ≡ ts = ap (λ ts. ts ++ more) e ∙ append_assoc (c ∷ t) r more in
      let l' = subst (λ ts. length ts ≤ suc n) cut l in
      let k = f.got (c ∷ t) (r ++ more) v first (after_round r more vs next a) in
      let k' = comes_seen (λ vs. v ∷ vs) (rounds n begin p (r ++ more)) vs more (rounds_got n vs r more (bound c t r more n l') next a) in
      comes_along (rounds (suc n) begin p (own ++ more)) (onward (p ts) (λ v rest. before v (rounds n begin p rest))) (v ∷ vs) more
      (ap (λ ts. rounds (suc n) begin p ts) cut ∙ begun n c t (r ++ more) (s.whole (c ∷ t) v first))
      (comes_on (p ts) v (r ++ more) (λ v rest. before v (rounds n begin p rest)) (v ∷ vs) more k k')

  rounds_past : (n : ℕ) (ts : List T) → Past ts (rounds n begin p ts)
  rounds_past zero ts = omega arith
  rounds_past (suc n) ts = past_if ts (begins begin ts) (onward (p ts) (λ v rest. before v (rounds n begin p rest))) (Got [] ts)
      (past_on ts (p ts) (λ v rest. before v (rounds n begin p rest)) (λ v r. past_seen r (λ vs. v ∷ vs) (rounds n begin p r) (rounds_past n r)) (f.short ts))
      (omega arith)

  last_far : (n : ℕ) (rest more : List T) → length (rest ++ more) ≤ n → P.front rest → Past more (rounds n begin p (rest ++ more))
  last_far n [] more l h = rounds_past n more
  last_far zero (c ∷ t) more l h = absurd (omega (arith, l))
  last_far (suc n) (c ∷ t) more l h =
      let go : A → List T → Outcome T (List A) = λ v rest. before v (rounds n begin p rest) in
      past_along more (rounds (suc n) begin p ((c ∷ t) ++ more)) (onward (p ((c ∷ t) ++ more)) go) (begun n c t more h)
      (past_on more (p ((c ∷ t) ++ more)) go (λ v r. past_seen r (λ vs. v ∷ vs) (rounds n begin p r) (rounds_past n r)) (f.far (c ∷ t) more h))

  -- after a round: another one begins, or a front does, or nothing stands there
  apart_far : (r rest more : List T) (vs : List A) → Rounds P.derives r vs → P.front rest → 0 < length (r ++ rest) → Apart K G (r ++ (rest ++ more))
  apart_far [] [] more vs h k l = absurd (omega (arith, l))
  apart_far [] (c ∷ t) more vs h k l = apart_of F G (K.kind c) d (s.starts c t k)
  apart_far (c ∷ t) rest more vs h k l = apart_of F G (K.kind c) d (first_round s c t vs h)

  far_on : (n : ℕ) (v : A) (vs : List A) (c : T) (t r rest more : List T) → P.derives (c ∷ t) v → Rounds P.derives r vs → P.front rest → 0 < length (r ++ rest)
      → Past more (rounds n begin p (r ++ (rest ++ more))) → Past more (rounds (suc n) begin p ((c ∷ t) ++ (r ++ (rest ++ more))))
  far_on n v vs c t r rest more first next k some later =
      let ts = (c ∷ t) ++ (r ++ (rest ++ more)) in
      let go : A → List T → Outcome T (List A) = λ v rest. before v (rounds n begin p rest) in
      let came = f.got (c ∷ t) (r ++ (rest ++ more)) v first (apart_far r rest more vs next k some) in
      past_along more (rounds (suc n) begin p ts) (onward (p ts) go) (begun n c t (r ++ (rest ++ more)) (s.whole (c ∷ t) v first))
      (past_come (p ts) v (r ++ (rest ++ more)) more go came (past_seen more (λ vs. v ∷ vs) (rounds n begin p (r ++ (rest ++ more))) later))

  -- a last round that is whole is itself a front
  only_far : (n : ℕ) (v : A) (own : List T) (c : T) (t more : List T) → own ≡ (c ∷ t) ++ [] → length (own ++ more) ≤ suc n → P.derives (c ∷ t) v → Past more (rounds (suc n) begin p (own ++ more))
  only_far n v own c t more e l first =
      let own_is : own ≡ c ∷ t = e ∙ append-nil (c ∷ t) in
      past_along more (rounds (suc n) begin p (own ++ more)) (rounds (suc n) begin p ((c ∷ t) ++ more)) (ap (λ ts. rounds (suc n) begin p (ts ++ more)) own_is)
      (last_far (suc n) (c ∷ t) more (subst (λ ts. length (ts ++ more) ≤ suc n) own_is l) (s.whole (c ∷ t) v first))

  rounds_far : (n : ℕ) (vs : List A) (own rest more : List T) → length (own ++ (rest ++ more)) ≤ n → Rounds P.derives own vs → P.front rest → Past more (rounds n begin p (own ++ (rest ++ more)))
  rounds_far n [] own rest more l h k =
      past_along more (rounds n begin p (own ++ (rest ++ more))) (rounds n begin p (rest ++ more)) (ap (λ ts. rounds n begin p (ts ++ (rest ++ more))) h)
      (last_far n rest more (subst (λ ts. length (ts ++ (rest ++ more)) ≤ n) h l) k)
  rounds_far n (v ∷ vs) own rest more l ([], r, e, first, next) k = absurd (s.some refl v first)
  rounds_far zero (v ∷ vs) own rest more l (c ∷ t, r, e, first, next) k =
      let l' = subst (λ ts. length (ts ++ (rest ++ more)) ≤ 0) e l in absurd (omega (arith, l'))
  rounds_far (suc n) (v ∷ vs) own [] more l (c ∷ t, [], e, first, next) k = only_far n v own c t more e l first
  rounds_far (suc n) (v ∷ vs) own (x ∷ xs) more l (c ∷ t, [], e, first, next) k =
      let cut : own ++ ((x ∷ xs) ++ more) ≡ (c ∷ t) ++ ((x ∷ xs) ++ more) = ap (λ ts. ts ++ ((x ∷ xs) ++ more)) (e ∙ append-nil (c ∷ t)) in
      past_along more (rounds (suc n) begin p (own ++ ((x ∷ xs) ++ more))) (rounds (suc n) begin p ((c ∷ t) ++ ((x ∷ xs) ++ more))) (ap (λ ts. rounds (suc n) begin p ts) cut)
      (far_on n v vs c t [] (x ∷ xs) more first next k (omega arith)
      (rounds_far n vs [] (x ∷ xs) more (bound c t [] ((x ∷ xs) ++ more) n (subst (λ ts. length ts ≤ suc n) cut l)) next k))
  rounds_far (suc n) (v ∷ vs) own rest more l (c ∷ t, y ∷ ys, e, first, next) k =
      let cut : own ++ (rest ++ more) ≡ (c ∷ t) ++ ((y ∷ ys) ++ (rest ++ more)) = ap (λ ts. ts ++ (rest ++ more)) e ∙ append_assoc (c ∷ t) (y ∷ ys) (rest ++ more) in
      past_along more (rounds (suc n) begin p (own ++ (rest ++ more))) (rounds (suc n) begin p ((c ∷ t) ++ ((y ∷ ys) ++ (rest ++ more)))) (ap (λ ts. rounds (suc n) begin p ts) cut)
      (far_on n v vs c t (y ∷ ys) rest more first next k (omega arith)
      (rounds_far n vs (y ∷ ys) rest more (bound c t (y ∷ ys) (rest ++ more) n (subst (λ ts. length ts ≤ suc n) cut l)) next k))

  pub forth_repeated : Forth K (F ++ G) (repeated P) (read_repeated begin p)
  unfolding read_repeated
  forth_repeated = record {
    got = λ own more vs h a. rounds_got (length (own ++ more)) vs own more (omega arith) h a;
    far = λ front more h.
        let cut : front ++ more ≡ h.own ++ (h.rest ++ more) = ap (λ ts. ts ++ more) h.parts ∙ append_assoc h.own h.rest more in
        past_along more (rounds (length (front ++ more)) begin p (front ++ more)) (rounds (length (h.own ++ (h.rest ++ more))) begin p (h.own ++ (h.rest ++ more))) (ap (λ ts. rounds (length ts) begin p ts) cut)
        (rounds_far (length (h.own ++ (h.rest ++ more))) h.values h.own h.rest more (omega arith) h.rounds h.next);
    short = λ ts. rounds_past (length ts) ts;
  }

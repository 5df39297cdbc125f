-- What comes of bytes that a reader takes.
use Rattle.std.proofs.Common.{◌≡◌, refl, ℕ, ◌+◌, ◌<◌, Bool, true, false, cond, nat_lt, List, [], ◌∷◌, ◌++◌, Option, Some, None, option_and_then, length, inl, inr, sym, ◌∙◌, ap, subst, append_assoc, append-nil, arith, length-append}
use Rattle.std.specs.Char.{IsScalar}
use Rattle.std.specs.Str.{encode_utf8_all, all_scalars, chars, IsUtf8}
use Rattle.std.proofs.lemmas.Str.{encodes-append, encodes-chars, scalars-chars}
use Rattle.bye_terms.proofs.Tests.{both_parts}
use Rattle.bye_lex.specs.Running.{run}
use Rattle.bye_lex.specs.Utf8.{BeginsCharacter, NoCharacter}
use Rattle.bye_lex.proofs.Beginnings.{begins_empty}
use Rattle.bye_lex.proofs.Branches.{heads, scalars_join}
use Rattle.bye_lex.proofs.Machines.{run_on}
use Rattle.bye_table.specs.Tables.{TableValue}
use Rattle.bye_tsv.specs.Answers.{IsFault, IsRead, IsRefusal, MayBeFront, Refuses}
use Rattle.bye_tsv.specs.DocSteps.{DocAt, start, step, final, fault, is_border, exceeded, passed, Walked, Went, Stopped, Many, counted, onward, walk, CannotFinish, CannotWalk, IsFaultAt}
use Rattle.bye_tsv.specs.Feeding.{CannotGoOn, HasCome, LedTo}
use Rattle.bye_tsv.specs.Reading.{ReadingAt}
use Rattle.bye_tsv.specs.declared.fault.Bounds.{Bounds}
use Rattle.bye_tsv.specs.declared.fault.TsvErr.{TsvErr}
use Rattle.bye_tsv.specs.declared.fault.TsvErr.TheVariants as faults
use Rattle.bye_lex.proofs.Fronts.{back_scalars, front_scalars, none_empty}
use Rattle.bye_tsv.proofs.Refusals.{end_leaves, end_passes, end_reads, end_stops, goes_further, left_refuses, step_refuses, stop_refuses}

pub record HasGone (bounds : Bounds) (d n : DocAt) (text : List ℕ) : Type 0 where
  pub runs : run step d text ≡ Some n
  pub within : passed bounds n ≡ None

-- where reading a text stops
pub record StopsIn (bounds : Bounds) (d at : DocAt) (text rest : List ℕ) : Type 0 where
  pub before : List ℕ
  pub c : ℕ
  pub after : List ℕ
  pub parts : text ≡ before ++ c ∷ after
  pub left : rest ≡ c ∷ after
  pub runs : run step d before ≡ Some at
  pub within : passed bounds at ≡ None
  pub none : step at c ≡ None

pub record PassesIn (bounds : Bounds) (d : DocAt) (text : List ℕ) (many : TsvErr) : Type 0 where
  pub before : List ℕ
  pub c : ℕ
  pub after : List ℕ
  pub at : DocAt
  pub next : DocAt
  pub parts : text ≡ before ++ c ∷ after
  pub runs : run step d before ≡ Some at
  pub within : passed bounds at ≡ None
  pub moves : step at c ≡ Some next
  pub over : passed bounds next ≡ Some many

abbrev Comes : Bounds → DocAt → List ℕ → Walked → Type 0
Comes bounds d text (Went n) = HasGone bounds d n text
Comes bounds d text (Stopped at rest) = StopsIn bounds d at text rest
Comes bounds d text (Many many) = PassesIn bounds d text many

onward_comes : (bounds : Bounds) (d n : DocAt) (c : ℕ) (cs : List ℕ) (w : Walked) → step d c ≡ Some n → Comes bounds n cs w → Comes bounds d (c ∷ cs) w
onward_comes bounds d n c cs (Went m) e h = record { runs = ap (option_and_then (λ n. run step n cs)) e ∙ h.runs; within = h.within }
onward_comes bounds d n c cs (Stopped at rest) e h = record { before = c ∷ h.before; c = h.c; after = h.after; parts = ap (λ t. c ∷ t) h.parts; left = h.left; runs = ap (option_and_then (λ n. run step n h.before)) e ∙ h.runs; within = h.within; none = h.none }
onward_comes bounds d n c cs (Many many) e h =
    record { before = c ∷ h.before; c = h.c; after = h.after; at = h.at; next = h.next; parts = ap (λ t. c ∷ t) h.parts; runs = ap (option_and_then (λ n. run step n h.before)) e ∙ h.runs; within = h.within; moves = h.moves; over = h.over }

moves_there : (bounds : Bounds) (d n : DocAt) (c : ℕ) (cs : List ℕ) (o : Option TsvErr) → passed bounds d ≡ None → (passed bounds n ≡ None → Comes bounds n cs (walk bounds n cs)) → passed bounds n ≡ o → step d c ≡ Some n → Comes bounds d (c ∷ cs) (counted (walk bounds n cs) o)
moves_there bounds d n c cs None w more k e = onward_comes bounds d n c cs (walk bounds n cs) e (more k)
moves_there bounds d n c cs (Some many) w more k e = record { before = []; c = c; after = cs; at = d; next = n; parts = refl; runs = refl; within = w; moves = e; over = k }

comes_on : (bounds : Bounds) (d : DocAt) (c : ℕ) (cs : List ℕ) (o : Option DocAt) → passed bounds d ≡ None → ((n : DocAt) → passed bounds n ≡ None → Comes bounds n cs (walk bounds n cs)) → step d c ≡ o → Comes bounds d (c ∷ cs) (onward bounds d (c ∷ cs) (λ n. walk bounds n cs) o)
comes_on bounds d c cs None w more e = record { before = []; c = c; after = cs; parts = refl; left = refl; runs = refl; within = w; none = e }
comes_on bounds d c cs (Some n) w more e = moves_there bounds d n c cs (passed bounds n) w (more n) refl e

comes : (bounds : Bounds) (d : DocAt) (text : List ℕ) → passed bounds d ≡ None → Comes bounds d text (walk bounds d text)
comes bounds d [] w = record { runs = refl; within = w }
comes bounds d (c ∷ cs) w = comes_on bounds d c cs (step d c) w (λ n k. comes bounds n cs k) refl

-- the bytes of a front, a text and what is left
pub record Cut (bounds : Bounds) (front bytes text left : List ℕ) (d : DocAt) (place : ℕ) : Type 0 where
  pub led : LedTo bounds front d place
  pub scalars : all_scalars text ≡ true
  pub parts : bytes ≡ encode_utf8_all text ++ left
  pub none : NoCharacter left

together : (front bytes text left : List ℕ) → bytes ≡ encode_utf8_all text ++ left → encode_utf8_all front ++ bytes ≡ encode_utf8_all (front ++ text) ++ left
together front bytes text left e = ap (λ b. encode_utf8_all front ++ b) e ∙ sym (append_assoc (encode_utf8_all front) (encode_utf8_all text) left) ∙ ap (λ t. t ++ left) (sym (encodes-append front text))

at_char : (front bytes text left before after : List ℕ) (c : ℕ) → bytes ≡ encode_utf8_all text ++ left → text ≡ before ++ c ∷ after → encode_utf8_all front ++ bytes ≡ encode_utf8_all ((front ++ before) ++ c ∷ []) ++ (encode_utf8_all after ++ left)
at_char front bytes text left before after c e p =
    together front bytes text left e ∙ ap (λ t. encode_utf8_all t ++ left) whole
    ∙ ap (λ t. t ++ left) (encodes-append ((front ++ before) ++ c ∷ []) after) ∙ append_assoc (encode_utf8_all ((front ++ before) ++ c ∷ [])) (encode_utf8_all after) left
  where
    whole : front ++ text ≡ ((front ++ before) ++ c ∷ []) ++ after
    whole = ap (λ t. front ++ t) p ∙ sym (append_assoc front before (c ∷ after)) ∙ sym (append_assoc (front ++ before) (c ∷ []) after)

scalar_parts : (before after : List ℕ) (c : ℕ) (text : List ℕ) → text ≡ before ++ c ∷ after → all_scalars text ≡ true → (all_scalars before ≡ true) × IsScalar c
scalar_parts before after c text p s = (front_scalars before (c ∷ after) (ap all_scalars (sym p) ∙ s), (both_parts _ _ (back_scalars before (c ∷ after) (ap all_scalars (sym p) ∙ s))).0)

module _ (bounds : Bounds) (front bytes text left : List ℕ) (d : DocAt) (place : ℕ) (cut : Cut bounds front bytes text left d place) where
  stop_place : (at : DocAt) (rest : List ℕ) (s : StopsIn bounds d at text rest) (here : ℕ) → here + length (encode_utf8_all rest) ≡ place + length (encode_utf8_all text) → here ≡ length (encode_utf8_all (front ++ s.before))
  stop_place at rest s here sum =
      let a = ap (λ t. length (encode_utf8_all t)) s.parts ∙ ap length (encodes-append s.before (s.c ∷ s.after)) ∙ length-append (encode_utf8_all s.before) (encode_utf8_all (s.c ∷ s.after)) in
      let b = ap (λ t. length (encode_utf8_all t)) s.left in
      let f = ap length (encodes-append front s.before) ∙ length-append (encode_utf8_all front) (encode_utf8_all s.before) in
      let p = cut.led.at in
      omega (arith, sum, a, b, f, p)

  stop_is : (at : DocAt) (rest : List ℕ) (s : StopsIn bounds d at text rest) → Refuses bounds (encode_utf8_all front ++ bytes) (fault at (is_border s.c) (length (encode_utf8_all (front ++ s.before))))
  stop_is at rest s =
      let k = scalar_parts s.before s.after s.c text s.parts cut.scalars in
      subst (λ b. Refuses bounds b (fault at (is_border s.c) (length (encode_utf8_all (front ++ s.before))))) (sym (at_char front bytes text left s.before s.after s.c cut.parts s.parts))
      (stop_refuses bounds (front ++ s.before) s.c (encode_utf8_all s.after ++ left) at (scalars_join front s.before cut.led.scalars k.0) k.1 (run_on step start d front s.before cut.led.runs ∙ s.runs) s.none s.within)

  many_is : (many : TsvErr) → PassesIn bounds d text many → Refuses bounds (encode_utf8_all front ++ bytes) many
  many_is many s =
      let k = scalar_parts s.before s.after s.c text s.parts cut.scalars in
      subst (λ b. Refuses bounds b many) (sym (at_char front bytes text left s.before s.after s.c cut.parts s.parts))
      (step_refuses bounds (front ++ s.before) s.c (encode_utf8_all s.after ++ left) s.at s.next (scalars_join front s.before cut.led.scalars k.0) k.1 (run_on step start d front s.before cut.led.runs ∙ s.runs) s.moves s.within many s.over)

  pub walk_fault : (total : ℕ) (e : TsvErr) → total ≡ place + length (encode_utf8_all text) → CannotWalk total e (walk bounds d text) → IsRefusal bounds (encode_utf8_all front ++ bytes) e
  walk_fault total e t h = go (walk bounds d text) (comes bounds d text cut.led.within) h
    where
      stopped : (at : DocAt) (rest : List ℕ) → StopsIn bounds d at text rest → IsFaultAt total at rest e → Refuses bounds (encode_utf8_all front ++ bytes) e
      stopped at rest c f =
          let same : f.c ≡ c.c = (heads f.c c.c f.after c.after (sym f.parts ∙ c.left)).0 in
          let is : e ≡ fault at (is_border c.c) (length (encode_utf8_all (front ++ c.before))) = f.is ∙ (λ i. fault at (is_border (same i)) (stop_place at rest c f.here (f.at ∙ t) i)) in
          subst (Refuses bounds (encode_utf8_all front ++ bytes)) (sym is) (stop_is at rest c)

      go : (w : Walked) → Comes bounds d text w → CannotWalk total e w → IsRefusal bounds (encode_utf8_all front ++ bytes) e
      go (Went n) c h = inl h
      go (Stopped at rest) c (inl m) = inl m
      go (Stopped at rest) c (inr f) = inr (stopped at rest c f)
      go (Many many) c (inl m) = inl m
      go (Many many) c (inr f) = inr (subst (Refuses bounds (encode_utf8_all front ++ bytes)) (sym f) (many_is many c))

  -- the text is read
  went : (n : DocAt) → walk bounds d text ≡ Went n → LedTo bounds (front ++ text) n (place + length (encode_utf8_all text))
  went n e =
      let h : HasGone bounds d n text = subst (Comes bounds d text) e (comes bounds d text cut.led.within) in
      let f = ap length (encodes-append front text) ∙ length-append (encode_utf8_all front) (encode_utf8_all text) in
      let p = cut.led.at in
      record { scalars = scalars_join front text cut.led.scalars cut.scalars; runs = run_on step start d front text cut.led.runs ∙ h.runs; within = h.within; at = omega (arith, f, p) }

  pub takes : (n : DocAt) (total : ℕ) → total ≡ place + length (encode_utf8_all text) → walk bounds d text ≡ Went n → BeginsCharacter left → HasCome bounds (encode_utf8_all front ++ bytes) (record { doc = n; left = left; place = total })
  takes n total t e b =
      let l = went n e in
      let whole = together front bytes text left cut.parts in
      record {
        front = front ++ text;
        led = record { scalars = l.scalars; runs = l.runs; within = l.within; at = t ∙ l.at };
        parts = whole;
        none = cut.none;
        may = subst (MayBeFront bounds) (sym whole) (goes_further bounds (front ++ text) left n l.scalars l.runs b l.within);
      }

  pub refuses_left : (n : DocAt) (begins : Bool) (total : ℕ) (e : TsvErr) → total ≡ place + length (encode_utf8_all text) → walk bounds d text ≡ Went n → (begins ≡ false → BeginsCharacter left → ⊥) → CannotGoOn begins total e → IsRefusal bounds (encode_utf8_all front ++ bytes) e
  refuses_left n begins total e t w not h =
      let l = went n w in
      let whole = together front bytes text left cut.parts in
      inr (subst (λ e. Refuses bounds (encode_utf8_all front ++ bytes) e) (sym (h.1 ∙ ap faults.NotUtf8 (t ∙ l.at)))
      (subst (λ b. Refuses bounds b (faults.NotUtf8 (length (encode_utf8_all (front ++ text))))) (sym whole) (left_refuses bounds (front ++ text) left n l.scalars l.runs cut.none (not h.0) (left_some left (not h.0)) l.within)))
    where
      left_some : (left : List ℕ) → (BeginsCharacter left → ⊥) → 0 < length left
      left_some [] not = absurd (not begins_empty)
      left_some (x ∷ xs) not = omega arith

-- what bytes decode to
pub cut_of : (bounds : Bounds) (front bytes t left : List ℕ) (d : DocAt) (place : ℕ) → LedTo bounds front d place → bytes ≡ t ++ left → IsUtf8 t → NoCharacter left → Cut bounds front bytes (chars t) left d place
cut_of bounds front bytes t left d place led parts utf8 none = record { led = led; scalars = scalars-chars t utf8; parts = parts ∙ ap (λ t. t ++ left) (sym (encodes-chars t utf8)); none = none }

pub text_length : (t : List ℕ) → IsUtf8 t → length (encode_utf8_all (chars t)) ≡ length t
text_length t utf8 = ap length (encodes-chars t utf8)

-- refusals
pub refusal_fault : (bounds : Bounds) (bytes : List ℕ) (e : TsvErr) → IsRefusal bounds bytes e → IsFault bounds bytes e
refusal_fault bounds bytes e (inl m) = subst (IsFault bounds bytes) (sym m) tt
refusal_fault bounds bytes e (inr h) = subst (λ b. IsFault bounds b e) (append-nil bytes) (h.always [])

pub refusal_on : (bounds : Bounds) (bytes more : List ℕ) (e : TsvErr) → IsRefusal bounds bytes e → IsRefusal bounds (bytes ++ more) e
refusal_on bounds bytes more e (inl m) = inl m
refusal_on bounds bytes more e (inr h) = inr (record {
  always = λ further. subst (λ b. IsFault bounds b e) (sym (append_assoc bytes more further)) (h.always (more ++ further));
  never = λ further m. h.never (more ++ further) (subst (MayBeFront bounds) (append_assoc bytes more further) m);
})

-- the end
pub finish_left : (bounds : Bounds) (bytes : List ℕ) (r : ReadingAt) → HasCome bounds bytes r → 0 < length r.left → IsFault bounds bytes (faults.NotUtf8 r.place)
finish_left bounds bytes r h some = subst (λ b. IsFault bounds b (faults.NotUtf8 r.place)) (sym h.parts) (end_leaves bounds h.front r.left r.doc r.place h.led.scalars h.led.runs h.led.within h.none some h.led.at)

nothing_left : (bytes front left : List ℕ) → bytes ≡ encode_utf8_all front ++ left → left ≡ [] → encode_utf8_all front ++ [] ≡ bytes
nothing_left bytes front left e z = ap (λ l. encode_utf8_all front ++ l) (sym z) ∙ sym e

pub finish_reads : (bounds : Bounds) (bytes : List ℕ) (r : ReadingAt) (t : TableValue) → HasCome bounds bytes r → r.left ≡ [] → (final r.doc ≡ Some t) × (exceeded bounds (length t.vars) (length t.rows) ≡ None) → IsRead bounds bytes t
finish_reads bounds bytes r t h z k = subst (λ b. IsRead bounds b t) (nothing_left bytes h.front r.left h.parts z) (end_reads bounds h.front r.doc h.led.scalars h.led.runs h.led.within t k.0 k.1)

pub finish_stops : (bounds : Bounds) (bytes : List ℕ) (r : ReadingAt) (e : TsvErr) → HasCome bounds bytes r → r.left ≡ [] → CannotFinish bounds r.doc r.place (final r.doc) e → IsFault bounds bytes e
finish_stops bounds bytes r e h z k = subst (λ b. IsFault bounds b e) (nothing_left bytes h.front r.left h.parts z) (go (final r.doc) refl k)
  where
    memory : e ≡ faults.Memory → IsFault bounds (encode_utf8_all h.front ++ []) e
    memory m = subst (IsFault bounds (encode_utf8_all h.front ++ [])) (sym m) tt

    go : (o : Option TableValue) → final r.doc ≡ o → CannotFinish bounds r.doc r.place o e → IsFault bounds (encode_utf8_all h.front ++ []) e
    go None f (inl m) = memory m
    go None f (inr k) = subst (IsFault bounds (encode_utf8_all h.front ++ [])) (sym k) (end_stops bounds h.front r.doc h.led.scalars h.led.runs h.led.within r.place f h.led.at)
    go (Some t) f (inl m) = memory m
    go (Some t) f (inr k) = end_passes bounds h.front r.doc h.led.scalars h.led.runs h.led.within t e f k

-- nothing came
none_passed : (bounds : Bounds) → passed bounds start ≡ None
none_passed bounds = go (nat_lt bounds.vars 0) (nat_lt bounds.rows 0) refl refl
  where
    never : (n : ℕ) → nat_lt n 0 ≡ true → ⊥
    never n e = grind arith

    go : (x y : Bool) → nat_lt bounds.vars 0 ≡ x → nat_lt bounds.rows 0 ≡ y → cond x (Some faults.TooManyVars) (cond y (Some faults.TooManyRows) None) ≡ None
    go true y e f = absurd (never bounds.vars e)
    go false true e f = absurd (never bounds.rows f)
    go false false e f = refl

pub begun : (bounds : Bounds) → LedTo bounds [] start 0
begun bounds = record { scalars = refl; runs = refl; within = none_passed bounds; at = refl }

pub begins : (bounds : Bounds) → HasCome bounds [] (record { doc = start; left = []; place = 0 })
begins bounds = record { front = []; led = begun bounds; parts = refl; none = none_empty; may = goes_further bounds [] [] start refl refl begins_empty (none_passed bounds) }

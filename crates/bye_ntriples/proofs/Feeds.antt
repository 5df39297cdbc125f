-- What comes of bytes that a reader takes.
use Rattle.std.proofs.Common.{◌≡◌, refl, ℕ, ◌+◌, ◌<◌, Bool, true, false, cond, List, [], ◌∷◌, ◌++◌, Option, Some, None, option_and_then, length, ◌⊎◌, inl, inr, ⊎_elim, sym, ◌∙◌, ap, subst, append_assoc, arith, length-append}
use Rattle.std.specs.Char.{IsScalar}
use Rattle.std.specs.Str.{encode_utf8_all, all_scalars, chars, IsUtf8}
use Rattle.std.proofs.lemmas.List.{append-nil}
use Rattle.std.proofs.lemmas.Str.{encodes-append, encodes-chars, scalars-chars}
use Rattle.bye_terms.specs.Terms.{Statement}
use Rattle.bye_terms.proofs.Tests.{both_parts}
use Rattle.bye_lex.specs.Utf8.{BeginsCharacter, NoCharacter, BeginsLabelPart}
use Rattle.bye_lex.proofs.Branches.{scalars_join}
use Rattle.bye_lex.proofs.Beginnings.{begins_empty}
use Rattle.bye_ntriples.specs.Answers.{triple_limit, MayBeFront, IsFault, IsFeedFault, IsGraph}
use Rattle.bye_ntriples.specs.DocSteps.{DocAt, start, step, final, is_over, is_over_there, Walked, Went, Stopped, Many, onward, walk, CannotWalk}
use Rattle.bye_ntriples.specs.Feeding.{ReadingAt, LedTo, HasCome, Refuses, IsRefusal}
use Rattle.bye_ntriples.specs.Judging.{CanGoOn, CannotGoOn}
use Rattle.bye_lex.specs.Running.{run}
use Rattle.bye_ntriples.specs.declared.fault.NtErr.{NtErr}
use Rattle.bye_ntriples.specs.declared.fault.NtErr.TheVariants as faults
use Rattle.bye_lex.proofs.Machines.{run_on}
use Rattle.bye_ntriples.proofs.Reading.{stop_refuses, over_refuses, step_refuses, left_refuses, left_over_refuses, label_refuses, goes_further, end_reads, end_stops, end_leaves, end_passes}
use Rattle.bye_lex.proofs.Fronts.{back_scalars, front_scalars, none_empty}

pub record HasGone (d n : DocAt) (text : List ℕ) : Type 0 where
  pub runs : run step d text ≡ Some n
  pub within : is_over n ≡ false

-- where reading a text stops
pub record StopsIn (d : DocAt) (text rest : List ℕ) : Type 0 where
  pub before : List ℕ
  pub c : ℕ
  pub after : List ℕ
  pub at : DocAt
  pub parts : text ≡ before ++ c ∷ after
  pub left : rest ≡ c ∷ after
  pub runs : run step d before ≡ Some at
  pub within : is_over at ≡ false
  pub none : step at c ≡ None
  pub over : is_over_there at ≡ false

pub record PassesIn (d : DocAt) (text : List ℕ) : Type 0 where
  pub before : List ℕ
  pub c : ℕ
  pub after : List ℕ
  pub at : DocAt
  pub parts : text ≡ before ++ c ∷ after
  pub runs : run step d before ≡ Some at
  pub within : is_over at ≡ false
  pub why : ((step at c ≡ None) × (is_over_there at ≡ true)) ⊎ ((n : DocAt) × (step at c ≡ Some n) × (is_over n ≡ true))

abbrev Comes : DocAt → List ℕ → Walked → Type 0
Comes d text (Went n) = HasGone d n text
Comes d text (Stopped rest) = StopsIn d text rest
Comes d text Many = PassesIn d text

onward_comes : (d n : DocAt) (c : ℕ) (cs : List ℕ) (w : Walked) → is_over d ≡ false → step d c ≡ Some n → Comes n cs w → Comes d (c ∷ cs) w
onward_comes d n c cs (Went m) f e h = record { runs = ap (option_and_then (λ n. run step n cs)) e ∙ h.runs; within = h.within }
onward_comes d n c cs (Stopped rest) f e h = record { before = c ∷ h.before; c = h.c; after = h.after; at = h.at; parts = ap (λ t. c ∷ t) h.parts; left = h.left; runs = ap (option_and_then (λ n. run step n h.before)) e ∙ h.runs; within = h.within; none = h.none; over = h.over }
onward_comes d n c cs Many f e h = record { before = c ∷ h.before; c = h.c; after = h.after; at = h.at; parts = ap (λ t. c ∷ t) h.parts; runs = ap (option_and_then (λ n. run step n h.before)) e ∙ h.runs; within = h.within; why = h.why }

stops_there : (d : DocAt) (c : ℕ) (cs : List ℕ) (b : Bool) → is_over d ≡ false → is_over_there d ≡ b → step d c ≡ None → Comes d (c ∷ cs) (cond b Many (Stopped (c ∷ cs)))
stops_there d c cs true f b e = record { before = []; c = c; after = cs; at = d; parts = refl; runs = refl; within = f; why = inl (e, b) }
stops_there d c cs false f b e = record { before = []; c = c; after = cs; at = d; parts = refl; left = refl; runs = refl; within = f; none = e; over = b }

moves_there : (d n : DocAt) (c : ℕ) (cs : List ℕ) (b : Bool) → is_over d ≡ false → (is_over n ≡ false → Comes n cs (walk n cs)) → is_over n ≡ b → step d c ≡ Some n → Comes d (c ∷ cs) (cond b Many (walk n cs))
moves_there d n c cs true f more b e = record { before = []; c = c; after = cs; at = d; parts = refl; runs = refl; within = f; why = inr (n, e, b) }
moves_there d n c cs false f more b e = onward_comes d n c cs (walk n cs) f e (more b)

comes_on : (d : DocAt) (c : ℕ) (cs : List ℕ) (o : Option DocAt) → is_over d ≡ false → ((n : DocAt) → is_over n ≡ false → Comes n cs (walk n cs)) → step d c ≡ o → Comes d (c ∷ cs) (onward d (c ∷ cs) (λ n. walk n cs) o)
comes_on d c cs None f more e = stops_there d c cs (is_over_there d) f refl e
comes_on d c cs (Some n) f more e = moves_there d n c cs (is_over n) f (more n) refl e

comes : (d : DocAt) (text : List ℕ) → is_over d ≡ false → Comes d text (walk d text)
comes d [] f = record { runs = refl; within = f }
comes d (c ∷ cs) f = comes_on d c cs (step d c) f (λ n g. comes n cs g) refl

-- the bytes of a front, a text and what is left
pub record Cut (front bytes text left : List ℕ) (d : DocAt) (place : ℕ) : Type 0 where
  pub led : LedTo front d place
  pub scalars : all_scalars text ≡ true
  pub parts : bytes ≡ encode_utf8_all text ++ left
  pub none : NoCharacter left

together : (front bytes text left : List ℕ) → bytes ≡ encode_utf8_all text ++ left → encode_utf8_all front ++ bytes ≡ encode_utf8_all (front ++ text) ++ left
together front bytes text left e = ap (λ b. encode_utf8_all front ++ b) e ∙ sym (append_assoc (encode_utf8_all front) (encode_utf8_all text) left) ∙ ap (λ t. t ++ left) (sym (encodes-append front text))

at_char : (front bytes text left before after : List ℕ) (c : ℕ) → bytes ≡ encode_utf8_all text ++ left → text ≡ before ++ c ∷ after → encode_utf8_all front ++ bytes ≡ encode_utf8_all ((front ++ before) ++ c ∷ []) ++ (encode_utf8_all after ++ left)
at_char front bytes text left before after c e p =
    together front bytes text left e ∙ ap (λ t. encode_utf8_all t ++ left) whole
    ∙ ap (λ t. t ++ left) (encodes-append ((front ++ before) ++ c ∷ []) after) ∙ append_assoc (encode_utf8_all ((front ++ before) ++ c ∷ [])) (encode_utf8_all after) left
  where
    whole : front ++ text ≡ ((front ++ before) ++ c ∷ []) ++ after
    whole = ap (λ t. front ++ t) p ∙ sym (append_assoc front before (c ∷ after)) ∙ sym (append_assoc (front ++ before) (c ∷ []) after)

scalar_parts : (before after : List ℕ) (c : ℕ) (text : List ℕ) → text ≡ before ++ c ∷ after → all_scalars text ≡ true → (all_scalars before ≡ true) × IsScalar c
scalar_parts before after c text p s = (front_scalars before (c ∷ after) (ap all_scalars (sym p) ∙ s), (both_parts _ _ (back_scalars before (c ∷ after) (ap all_scalars (sym p) ∙ s))).0)

module _ (front bytes text left : List ℕ) (d : DocAt) (place : ℕ) (cut : Cut front bytes text left d place) where
  stop_place : (rest : List ℕ) (s : StopsIn d text rest) (at : ℕ) → at + length (encode_utf8_all rest) ≡ place + length (encode_utf8_all text) → at ≡ length (encode_utf8_all (front ++ s.before))
  stop_place rest s at sum =
      let a = ap (λ t. length (encode_utf8_all t)) s.parts ∙ ap length (encodes-append s.before (s.c ∷ s.after)) ∙ length-append (encode_utf8_all s.before) (encode_utf8_all (s.c ∷ s.after)) in
      let b = ap (λ t. length (encode_utf8_all t)) s.left in
      let f = ap length (encodes-append front s.before) ∙ length-append (encode_utf8_all front) (encode_utf8_all s.before) in
      let p = cut.led.at in
      omega (arith, sum, a, b, f, p)

  stop_is : (rest : List ℕ) (s : StopsIn d text rest) → Refuses (encode_utf8_all front ++ bytes) (faults.Syntax (length (encode_utf8_all (front ++ s.before))))
  stop_is rest s =
      let k = scalar_parts s.before s.after s.c text s.parts cut.scalars in
      subst (λ b. Refuses b (faults.Syntax (length (encode_utf8_all (front ++ s.before))))) (sym (at_char front bytes text left s.before s.after s.c cut.parts s.parts))
      (stop_refuses (front ++ s.before) s.c (encode_utf8_all s.after ++ left) s.at (scalars_join front s.before cut.led.scalars k.0) k.1 (run_on step start d front s.before cut.led.runs ∙ s.runs) s.none s.over)

  many_is : PassesIn d text → Refuses (encode_utf8_all front ++ bytes) faults.TooMany
  many_is s =
      let k = scalar_parts s.before s.after s.c text s.parts cut.scalars in
      let scalars = scalars_join front s.before cut.led.scalars k.0 in
      let runs = run_on step start d front s.before cut.led.runs ∙ s.runs in
      subst (λ b. Refuses b faults.TooMany) (sym (at_char front bytes text left s.before s.after s.c cut.parts s.parts))
      (⊎_elim
      (λ (h : (step s.at s.c ≡ None) × (is_over_there s.at ≡ true)). over_refuses (front ++ s.before) s.c (encode_utf8_all s.after ++ left) s.at scalars k.1 runs h.0 s.within h.1)
      (λ (h : (n : DocAt) × (step s.at s.c ≡ Some n) × (is_over n ≡ true)). step_refuses (front ++ s.before) s.c (encode_utf8_all s.after ++ left) s.at h.0 scalars k.1 runs h.1 s.within h.2)
      s.why)

  pub walk_fault : (total : ℕ) (fault : NtErr) → total ≡ place + length (encode_utf8_all text) → CannotWalk total fault (walk d text) → IsRefusal (encode_utf8_all front ++ bytes) fault
  walk_fault total fault t h = go (walk d text) fault (comes d text cut.led.within) h
    where
      go : (w : Walked) (fault : NtErr) → Comes d text w → CannotWalk total fault w → IsRefusal (encode_utf8_all front ++ bytes) fault
      go (Went n) (faults.Syntax at) c h = absurd h
      go (Stopped rest) (faults.Syntax at) c h = subst (λ at. Refuses (encode_utf8_all front ++ bytes) (faults.Syntax at)) (sym (stop_place rest c at (h ∙ t))) (stop_is rest c)
      go Many (faults.Syntax at) c h = absurd h
      go (Went n) (faults.NotUtf8 at) c h = absurd h
      go (Stopped rest) (faults.NotUtf8 at) c h = absurd h
      go Many (faults.NotUtf8 at) c h = absurd h
      go (Went n) faults.TooMany c h = absurd h
      go (Stopped rest) faults.TooMany c h = absurd h
      go Many faults.TooMany c h = many_is c
      go (Went n) faults.Memory c h = tt
      go (Stopped rest) faults.Memory c h = tt
      go Many faults.Memory c h = tt

  -- the text is read
  went : (n : DocAt) → walk d text ≡ Went n → LedTo (front ++ text) n (place + length (encode_utf8_all text))
  went n e =
      let h : HasGone d n text = subst (Comes d text) e (comes d text cut.led.within) in
      let f = ap length (encodes-append front text) ∙ length-append (encode_utf8_all front) (encode_utf8_all text) in
      let p = cut.led.at in
      record { scalars = scalars_join front text cut.led.scalars cut.scalars; runs = run_on step start d front text cut.led.runs ∙ h.runs; within = h.within; at = omega (arith, f, p) }

  pub takes : (n : DocAt) (begins : Bool) (total : ℕ) → total ≡ place + length (encode_utf8_all text) → walk d text ≡ Went n → (begins ≡ true → BeginsCharacter left) → CanGoOn n left begins → HasCome (encode_utf8_all front ++ bytes) (record { doc = n; left = left; place = total })
  takes n begins total t e b g =
      let l = went n e in
      let whole = together front bytes text left cut.parts in
      record {
        front = front ++ text;
        led = record { scalars = l.scalars; runs = l.runs; within = l.within; at = t ∙ l.at };
        parts = whole;
        none = cut.none;
        may = subst MayBeFront (sym whole) (goes_further (front ++ text) left n l.scalars l.runs (b g.begun) l.within g.either);
      }

  pub refuses_left : (n : DocAt) (begins : Bool) (total : ℕ) (fault : NtErr) → total ≡ place + length (encode_utf8_all text) → walk d text ≡ Went n → (begins ≡ false → BeginsCharacter left → ⊥) → CannotGoOn n left begins total fault → IsRefusal (encode_utf8_all front ++ bytes) fault
  refuses_left n begins total fault t e not h = go fault h
    where
      l : LedTo (front ++ text) n (place + length (encode_utf8_all text))
      l = went n e

      whole : encode_utf8_all front ++ bytes ≡ encode_utf8_all (front ++ text) ++ left
      whole = together front bytes text left cut.parts

      left_some : (left : List ℕ) → (BeginsCharacter left → ⊥) → 0 < length left
      left_some [] not = absurd (not begins_empty)
      left_some (x ∷ xs) not = omega arith

      go : (fault : NtErr) → CannotGoOn n left begins total fault → IsRefusal (encode_utf8_all front ++ bytes) fault
      go (faults.Syntax at) h = absurd h
      go (faults.NotUtf8 at) h =
          subst (λ at. Refuses (encode_utf8_all front ++ bytes) (faults.NotUtf8 at)) (sym (h.1.1 ∙ t ∙ l.at))
          (subst (λ b. Refuses b (faults.NotUtf8 (length (encode_utf8_all (front ++ text))))) (sym whole) (left_refuses (front ++ text) left n l.scalars l.runs cut.none (not h.0) (left_some left (not h.0)) h.1.0))
      go faults.TooMany h =
          subst (λ b. Refuses b faults.TooMany) (sym whole)
          (⊎_elim
          (λ (k : begins ≡ false). left_over_refuses (front ++ text) left n l.scalars l.runs cut.none (not k) l.within h.0)
          (λ (k : BeginsLabelPart left → ⊥). label_refuses (front ++ text) left n l.scalars l.runs cut.none k l.within h.0)
          h.1)
      go faults.Memory h = tt

-- what bytes decode to
pub cut_of : (front bytes t left : List ℕ) (d : DocAt) (place : ℕ) → LedTo front d place → bytes ≡ t ++ left → IsUtf8 t → NoCharacter left → Cut front bytes (chars t) left d place
cut_of front bytes t left d place led parts utf8 none = record { led = led; scalars = scalars-chars t utf8; parts = parts ∙ ap (λ t. t ++ left) (sym (encodes-chars t utf8)); none = none }

pub text_length : (t : List ℕ) → IsUtf8 t → length (encode_utf8_all (chars t)) ≡ length t
text_length t utf8 = ap length (encodes-chars t utf8)

-- refusals
pub refusal_fault : (bytes : List ℕ) (fault : NtErr) → IsRefusal bytes fault → IsFault bytes fault
refusal_fault bytes (faults.Syntax at) h = subst (λ b. IsFault b (faults.Syntax at)) (append-nil bytes) (h []).0
refusal_fault bytes (faults.NotUtf8 at) h = subst (λ b. IsFault b (faults.NotUtf8 at)) (append-nil bytes) (h []).0
refusal_fault bytes faults.TooMany h = subst (λ b. IsFault b faults.TooMany) (append-nil bytes) (h []).0
refusal_fault bytes faults.Memory h = tt

fed_fault : (bytes : List ℕ) (fault : NtErr) → Refuses bytes fault → ((more : List ℕ) → IsFault (bytes ++ more) fault) × (MayBeFront bytes → ⊥)
fed_fault bytes fault h = (λ more. (h more).0, λ m. (h []).1 (subst MayBeFront (sym (append-nil bytes)) m))

pub refusal_feed : (bytes : List ℕ) (fault : NtErr) → IsRefusal bytes fault → IsFeedFault bytes fault
refusal_feed bytes (faults.Syntax at) h = fed_fault bytes (faults.Syntax at) h
refusal_feed bytes (faults.NotUtf8 at) h = fed_fault bytes (faults.NotUtf8 at) h
refusal_feed bytes faults.TooMany h = fed_fault bytes faults.TooMany h
refusal_feed bytes faults.Memory h = tt

refuses_on : (bytes more : List ℕ) (fault : NtErr) → Refuses bytes fault → Refuses (bytes ++ more) fault
refuses_on bytes more fault h further =
    let e = append_assoc bytes more further in
    let k = h (more ++ further) in
    (subst (λ b. IsFault b fault) (sym e) k.0, λ m. k.1 (subst MayBeFront e m))

pub refusal_on : (bytes more : List ℕ) (fault : NtErr) → IsRefusal bytes fault → IsRefusal (bytes ++ more) fault
refusal_on bytes more (faults.Syntax at) h = refuses_on bytes more (faults.Syntax at) h
refusal_on bytes more (faults.NotUtf8 at) h = refuses_on bytes more (faults.NotUtf8 at) h
refusal_on bytes more faults.TooMany h = refuses_on bytes more faults.TooMany h
refusal_on bytes more faults.Memory h = tt

-- the end
pub finish_over : (bytes : List ℕ) (r : ReadingAt) → HasCome bytes r → NoCharacter r.left → is_over_there r.doc ≡ true → IsFault bytes faults.TooMany
finish_over bytes r h none over = subst (λ b. IsFault b faults.TooMany) (sym h.parts) (end_passes h.front r.left r.doc h.led.scalars h.led.runs h.led.within over none)

pub finish_left : (bytes : List ℕ) (r : ReadingAt) → HasCome bytes r → NoCharacter r.left → is_over_there r.doc ≡ false → 0 < length r.left → IsFault bytes (faults.NotUtf8 r.place)
finish_left bytes r h none over some = subst (λ b. IsFault b (faults.NotUtf8 r.place)) (sym h.parts) (end_leaves h.front r.left r.doc r.place h.led.scalars h.led.runs over none some h.led.at)

nothing_left : (bytes front left : List ℕ) → bytes ≡ encode_utf8_all front ++ left → left ≡ [] → encode_utf8_all front ++ [] ≡ bytes
nothing_left bytes front left e z = ap (λ l. encode_utf8_all front ++ l) (sym z) ∙ sym e

pub finish_reads : (bytes : List ℕ) (r : ReadingAt) (triples : List Statement) → HasCome bytes r → is_over_there r.doc ≡ false → r.left ≡ [] → final r.doc ≡ Some triples → IsGraph bytes triples
finish_reads bytes r triples h over z e = subst (λ b. IsGraph b triples) (nothing_left bytes h.front r.left h.parts z) (end_reads h.front r.doc triples h.led.scalars h.led.runs over e)

pub finish_stops : (bytes : List ℕ) (r : ReadingAt) → HasCome bytes r → is_over_there r.doc ≡ false → r.left ≡ [] → final r.doc ≡ None → IsFault bytes (faults.Syntax r.place)
finish_stops bytes r h over z e = subst (λ b. IsFault b (faults.Syntax r.place)) (nothing_left bytes h.front r.left h.parts z) (end_stops h.front r.doc r.place h.led.scalars h.led.runs over e h.led.at)

-- nothing came
not_over : is_over start ≡ false
unfolding triple_limit
not_over = refl

not_over_there : is_over_there start ≡ false
unfolding triple_limit
not_over_there = refl

pub begun : LedTo [] start 0
begun = record { scalars = refl; runs = refl; within = not_over; at = refl }

pub begins : HasCome [] (record { doc = start; left = []; place = 0 })
begins = record { front = []; led = begun; parts = refl; none = none_empty; may = goes_further [] [] start refl refl begins_empty not_over (inl not_over_there) }

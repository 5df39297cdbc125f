-- A field and its document go over a run of characters as over each of them.
use Rattle.std.proofs.Common.{◌≡◌, refl, ℕ, ◌≤◌, Bool, true, false, not, ◌||◌, List, [], ◌∷◌, ◌++◌, Option, Some, None, option_map, option_and_then, length, sym, ◌∙◌, ap, subst, append-nil, arith, length-append}
use Rattle.std.proofs.lemmas.Str.{encodes-append}
use Rattle.std.specs.List.{list_all}
use Rattle.std.specs.Str.{encode_utf8_all}
use Rattle.bye_terms.specs.Characters.{is_iri_char}
use Rattle.bye_terms.proofs.Tests.{both_parts, both}
use Rattle.bye_lex.specs.Embedding.{enter}
use Rattle.bye_lex.specs.IriSteps as iri
use Rattle.bye_lex.specs.Running.{run}
use Rattle.bye_lex.specs.Runs.{Cuts, is_plain, IriRuns, IriGoesOn, StringRuns, StringGoesOn}
use Rattle.bye_lex.specs.declared.iri.IriAt.{IriAt}
use Rattle.bye_lex.specs.declared.iri.IriAt.TheVariants as iris
use Rattle.bye_lex.specs.declared.string.StringAt.{StringAt}
use Rattle.bye_lex.specs.declared.string.StringAt.TheVariants as strings
use Rattle.bye_lex.specs.declared.style.Style.TheVariants.{Tsv}
use Rattle.bye_lex.proofs.Branches.{never, snoc, unless}
use Rattle.bye_lex.proofs.Runs.{body_step, plain_step}
use Rattle.bye_tsv.specs.FieldSteps.{step, datatype_at, after_string}
use Rattle.bye_tsv.specs.DocSteps as doc
use Rattle.bye_tsv.specs.DocSteps.{DocAt, IsSound, is_border, passed, exceeded, walk, placed, counted, onward}
use Rattle.bye_tsv.specs.DocRuns.{FieldRuns, PlaceRuns, DocRuns}
use Rattle.bye_tsv.specs.declared.fault.Bounds.{Bounds}
use Rattle.bye_tsv.specs.declared.field.FieldAt.{FieldAt}
use Rattle.bye_tsv.specs.declared.field.FieldAt.TheVariants.{Iri, String, Datatype}
use Rattle.bye_tsv.specs.declared.place.Place.{Place}
use Rattle.bye_tsv.specs.declared.place.Place.TheVariants.{Start, Mark, Name as InName, HeaderReturn, Begin, Field, Return}
use Rattle.bye_tsv.proofs.Sound.{sound_placed}

-- a class without TAB, LF and CR
module _ (p : ℕ → Bool) (tab : p 9 ≡ false) (feed : p 10 ≡ false) (ret : p 13 ≡ false) where
  no_border : (c : ℕ) → p c ≡ true → not (is_border c) ≡ true
  no_border c e =
      let a = never p 9 c tab e in
      let b = never p 10 c feed e in
      let d = never p 13 c ret e in
      λ i. not (a i || (b i || d i))

  all_inner : (cs : List ℕ) → list_all p cs ≡ true → list_all (λ c. not (is_border c)) cs ≡ true
  all_inner [] e = refl
  all_inner (c ∷ cs) e = let k = both_parts _ _ e in both (not (is_border c)) _ (no_border c k.0) (all_inner cs k.1)

-- a state that grows with each character of a class
run_grown : (grown : List ℕ → FieldAt) (p : ℕ → Bool) → ((text : List ℕ) (c : ℕ) → p c ≡ true → step (grown text) c ≡ Some (grown (text ++ c ∷ []))) → (text front : List ℕ) → list_all p front ≡ true → run step (grown text) front ≡ Some (grown (text ++ front))
run_grown grown p one text [] e = ap (λ t. Some (grown t)) (sym (append-nil text))
run_grown grown p one text (c ∷ front) e =
    let k = both_parts _ _ e in
    ap (option_and_then (λ n. run step n front)) (one text c k.0)
    ∙ run_grown grown p one (text ++ c ∷ []) front k.1
    ∙ ap (λ t. Some (grown t)) (sym (snoc text front c))

-- no character is taken
stays : (f g : FieldAt) (text front rest : List ℕ) → text ≡ front ++ rest → g ≡ f → front ≡ [] → FieldRuns f text g rest
stays f g text front rest parts same none = record { own = []; parts = parts ∙ ap (λ t. t ++ rest) none; inner = refl; runs = ap Some (sym same) }

module _ (text rest : List ℕ) where
  grows : (grown : List ℕ → FieldAt) (p : ℕ → Bool) (before front : List ℕ) (g : FieldAt) → p 9 ≡ false → p 10 ≡ false → p 13 ≡ false → ((t : List ℕ) (c : ℕ) → p c ≡ true → step (grown t) c ≡ Some (grown (t ++ c ∷ [])))
      → Cuts p text front rest → g ≡ grown (before ++ front) → FieldRuns (grown before) text g rest
  grows grown p before front g a b d one cut is = record {
    own = front;
    parts = cut.parts;
    inner = all_inner p a b d front cut.all;
    runs = run_grown grown p one before front cut.all ∙ ap Some (sym is);
  }

  iri_goes : (within : IriAt → FieldAt) → ((t : List ℕ) (c : ℕ) → is_iri_char c ≡ true → step (within (iris.Body t)) c ≡ Some (within (iris.Body (t ++ c ∷ [])))) → (at n : IriAt) (front : List ℕ) → Cuts is_iri_char text front rest → IriGoesOn at front n → FieldRuns (within at) text (within n) rest
  iri_goes within one (iris.Body t) n front cut on = grows (λ t. within (iris.Body t)) is_iri_char t front (within n) refl refl refl one cut (ap within on)
  iri_goes within one iris.Start n front cut on = stays (within iris.Start) (within n) text front rest cut.parts (ap within on.0) on.1
  iri_goes within one iris.Opened n front cut on = stays (within iris.Opened) (within n) text front rest cut.parts (ap within on.0) on.1
  iri_goes within one (iris.Scheme t) n front cut on = stays (within (iris.Scheme t)) (within n) text front rest cut.parts (ap within on.0) on.1
  iri_goes within one (iris.Backslash t) n front cut on = stays (within (iris.Backslash t)) (within n) text front rest cut.parts (ap within on.0) on.1
  iri_goes within one (iris.Escape e t) n front cut on = stays (within (iris.Escape e t)) (within n) text front rest cut.parts (ap within on.0) on.1
  iri_goes within one (iris.Done t) n front cut on = stays (within (iris.Done t)) (within n) text front rest cut.parts (ap within on.0) on.1

  pub iri_runs : (at n : IriAt) → IriRuns at text n rest → FieldRuns (Iri at) text (Iri n) rest
  iri_runs at n r = iri_goes Iri (λ t c e. ap (option_map Iri) (body_step Tsv t c e)) at n r.front r.cut r.on

  pub datatype_runs : (lexical : List ℕ) (at n : IriAt) → IriRuns at text n rest → FieldRuns (Datatype lexical at) text (Datatype lexical n) rest
  datatype_runs lexical at n r = iri_goes (Datatype lexical) (λ t c e. ap (option_and_then (λ n. datatype_at lexical n (iri.final n))) (body_step Tsv t c e)) at n r.front r.cut r.on

  string_goes : (at n : StringAt) (front : List ℕ) → Cuts is_plain text front rest → StringGoesOn at front n → FieldRuns (String at) text (String n) rest
  string_goes (strings.In k t) n front cut on =
      grows (λ t. String (strings.In k t)) is_plain t front (String n) refl refl refl (λ t c e. ap (enter String after_string None c) (plain_step Tsv k t c e)) cut (ap String on)
  string_goes strings.Start n front cut on = stays (String strings.Start) (String n) text front rest cut.parts (ap String on.0) on.1
  string_goes (strings.Opened q) n front cut on = stays (String (strings.Opened q)) (String n) text front rest cut.parts (ap String on.0) on.1
  string_goes (strings.Empty q) n front cut on = stays (String (strings.Empty q)) (String n) text front rest cut.parts (ap String on.0) on.1
  string_goes (strings.Backslash k t) n front cut on = stays (String (strings.Backslash k t)) (String n) text front rest cut.parts (ap String on.0) on.1
  string_goes (strings.Escape k e t) n front cut on = stays (String (strings.Escape k e t)) (String n) text front rest cut.parts (ap String on.0) on.1
  string_goes (strings.OneQuote q t) n front cut on = stays (String (strings.OneQuote q t)) (String n) text front rest cut.parts (ap String on.0) on.1
  string_goes (strings.TwoQuotes q t) n front cut on = stays (String (strings.TwoQuotes q t)) (String n) text front rest cut.parts (ap String on.0) on.1
  string_goes (strings.Done t) n front cut on = stays (String (strings.Done t)) (String n) text front rest cut.parts (ap String on.0) on.1

  pub string_runs : (at n : StringAt) → StringRuns at text n rest → FieldRuns (String at) text (String n) rest
  string_runs at n r = string_goes at n r.front r.cut r.on

-- a field that is not one of these stays
pub still : (f : FieldAt) (text : List ℕ) → FieldRuns f text f text
still f text = record { own = []; parts = refl; inner = refl; runs = refl }

-- the document within a field
abbrev at_field : DocAt → FieldAt → DocAt
at_field d f = placed d (Field f)

bind_on : (d : DocAt) (bounds : Bounds) (own rest : List ℕ) (g : FieldAt) (w : doc.Walked) → ((n : FieldAt) → run step n own ≡ Some g → walk bounds (at_field d n) (own ++ rest) ≡ w) → (c : ℕ) (o : Option FieldAt) → passed bounds (at_field d g) ≡ None → option_and_then (λ n. run step n own) o ≡ Some g
    → (x : DocAt) → onward bounds x (c ∷ (own ++ rest)) (λ n. walk bounds n (own ++ rest)) (option_map (at_field d) o) ≡ w
bind_on d bounds own rest g w go c None none e x = cc
bind_on d bounds own rest g w go c (Some n) none e x = ap (counted (walk bounds (at_field d n) (own ++ rest))) none ∙ go n e

field_walks : (d : DocAt) (bounds : Bounds) (f g : FieldAt) (own rest : List ℕ) → passed bounds (at_field d g) ≡ None → list_all (λ c. not (is_border c)) own ≡ true → run step f own ≡ Some g → walk bounds (at_field d f) (own ++ rest) ≡ walk bounds (at_field d g) rest
field_walks d bounds f g [] rest none inner e = let same : f ≡ g = cc in ap (λ f. walk bounds (at_field d f) rest) same
field_walks d bounds f g (c ∷ own) rest none inner e =
    let k = both_parts _ _ inner in
    let border : is_border c ≡ false = negated (is_border c) k.0 in
    ap (onward bounds (at_field d f) (c ∷ (own ++ rest)) (λ n. walk bounds n (own ++ rest))) (unless (is_border c) _ _ _ border refl)
    ∙ bind_on d bounds own rest g (walk bounds (at_field d g) rest) (λ n e. field_walks d bounds n g own rest none k.1 e) c (step f c) none e (at_field d f)
  where
    negated : (b : Bool) → not b ≡ true → b ≡ false
    negated false e = refl
    negated true e = cc

shorter_rest : (text own rest : List ℕ) → text ≡ own ++ rest → length rest ≤ length text
shorter_rest text own rest e = let l = ap length e ∙ length-append own rest in omega (arith, l)

pub within_rest : (text own rest : List ℕ) (total : ℕ) → text ≡ own ++ rest → length (encode_utf8_all text) ≤ total → length (encode_utf8_all rest) ≤ total
within_rest text own rest total e h =
    let l = ap (λ t. length (encode_utf8_all t)) e ∙ ap length (encodes-append own rest) ∙ length-append (encode_utf8_all own) (encode_utf8_all rest) in
    omega (arith, l, h)

doc_runs : (d : DocAt) (f g : FieldAt) (text rest : List ℕ) → FieldRuns f text g rest → DocRuns (at_field d f) text (at_field d g) rest
doc_runs d f g text rest r = record {
  walks = λ bounds none. ap (walk bounds (at_field d f)) r.parts ∙ field_walks d bounds f g r.own rest none r.inner r.runs;
  sound = λ s. sound_placed (at_field d f) (Field g) s;
  shorter = shorter_rest text r.own rest r.parts;
  within = λ total h. within_rest text r.own rest total r.parts h;
}

-- at another place nothing is taken
doc_still : (d : DocAt) (at : Place) (after : Place) (text rest : List ℕ) → after ≡ at → rest ≡ text → DocRuns (placed d at) text (placed d after) rest
doc_still d at after text rest e f = subst (λ a. DocRuns (placed d at) text (placed d a) rest) (sym e) (subst (λ r. DocRuns (placed d at) text (placed d at) r) (sym f) (none (placed d at)))
  where
    none : (x : DocAt) → DocRuns x text x text
    none x = record { walks = λ bounds none. refl; sound = λ s. s; shorter = omega arith; within = λ total h. h }

pub place_runs : (d : DocAt) (at after : Place) (text rest : List ℕ) → PlaceRuns at text after rest → DocRuns (placed d at) text (placed d after) rest
place_runs d (Field f) after text rest (g, is, r) = subst (λ a. DocRuns (placed d (Field f)) text (placed d a) rest) (sym is) (doc_runs d f g text rest r)
place_runs d Start after text rest h = doc_still d Start after text rest h.0 h.1
place_runs d Mark after text rest h = doc_still d Mark after text rest h.0 h.1
place_runs d (InName n) after text rest h = doc_still d (InName n) after text rest h.0 h.1
place_runs d HeaderReturn after text rest h = doc_still d HeaderReturn after text rest h.0 h.1
place_runs d Begin after text rest h = doc_still d Begin after text rest h.0 h.1
place_runs d Return after text rest h = doc_still d Return after text rest h.0 h.1

-- a character, and what goes on after it
pub walked_on : (bounds : Bounds) (d n m : DocAt) (c : ℕ) (text after rest : List ℕ) (w : doc.Walked) → walk bounds d text ≡ w → text ≡ c ∷ after → doc.step d c ≡ Some n → passed bounds n ≡ None → DocRuns n after m rest → walk bounds m rest ≡ w
walked_on bounds d n m c text after rest w same parts step none r =
    sym (r.walks bounds none)
    ∙ sym (ap (counted (walk bounds n after)) none)
    ∙ sym (ap (onward bounds d (c ∷ after) (λ n. walk bounds n after)) step)
    ∙ ap (walk bounds d) (sym parts)
    ∙ same

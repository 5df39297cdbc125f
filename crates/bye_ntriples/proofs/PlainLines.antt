-- What is read of a line without escapes is what the line says.
use Rattle.std.proofs.Common.{◌≡◌, refl, ℕ, Bool, true, false, cond, ◌||◌, List, [], ◌∷◌, ◌++◌, Option, Some, None, ◌⊎◌, inl, inr, ⊎_elim, sym, ◌∙◌, ap, subst, append_assoc, flat_map}
use Rattle.std.specs.List.{list_all, AllByRecursion}
use Rattle.bye_terms.specs.Literals.{is_lang_string}
use Rattle.bye_terms.specs.Names.{is_label, is_tag}
use Rattle.bye_terms.specs.Reading.{after_at, until_at, iri_at}
use Rattle.bye_terms.specs.Spellings.{term_text}
use Rattle.bye_terms.specs.Terms.{Statement}
use Rattle.bye_terms.specs.declared.term.Term.{Term}
use Rattle.bye_terms.specs.declared.term.Term.TheVariants.{Iri, Blank}
use Rattle.bye_terms.proofs.Readings.{read_both, after_takes, until_takes, iri_takes}
use Rattle.bye_terms.proofs.Tests.{both_parts}
use Rattle.bye_lex.specs.Iris.{IriToken}
use Rattle.bye_lex.specs.Marks.{LabelToken, TagToken}
use Rattle.bye_lex.specs.Strings.{Group, IsGroup, group_text, group_value, StringToken}
use Rattle.bye_lex.specs.declared.quoting.Quote.TheVariants.{Double}
use Rattle.bye_lex.specs.declared.quoting.Quoting.TheVariants.{Short}
use Rattle.bye_lex.specs.declared.style.Style.TheVariants.{Triples}
use Rattle.bye_lex.proofs.Branches.{some_same, none_some}
use Rattle.bye_ntriples.specs.Lines.{is_space, is_line_end, Spaced, Then, LineEnd, Dot, Dotted, DatatypeToken, AfterSpaces, Suffix, Object, Predicate, Subject, Line}
use Rattle.bye_ntriples.specs.PlainLines.{read_or, after_spaces, word, as_label, as_tag, label, blank_node, iri_node, subject, is_plain, as_plain, tagged, as_typed, typed, suffixed, literal, object, after_end, plain_line}
use Rattle.bye_ntriples.specs.Triples.{triple_of, string_of, tagged_of, typed_of}
use Rattle.bye_ntriples.proofs.CanonicalLines.{here}
use Rattle.bye_ntriples.proofs.SameLines.{tokens}

-- the text has a front of the rule, and the rest follows
abbrev Front : {V : Type 0} → (List ℕ → V → Type 0) → List ℕ → V → List ℕ → Type 0
Front L rest v text = (own : List ℕ) × (text ≡ own ++ rest) × L own v

-- spaces
spaced : {V : Type 0} (L : List ℕ → V → Type 0) (rest : List ℕ) (v : V) (text : List ℕ) → Front L rest v (after_spaces text) → Front (Spaced L) rest v text
spaced L rest v [] f = (f.0, f.1, here L f.0 v f.2)
spaced L rest v (c ∷ text) f = go (spaced L rest v text) (is_space c) refl f
  where
    go : (Front L rest v (after_spaces text) → Front (Spaced L) rest v text) → (b : Bool) → is_space c ≡ b → Front L rest v (cond b (after_spaces text) (c ∷ text)) → Front (Spaced L) rest v (c ∷ text)
    go more true e f = let k = more f in (c ∷ k.0, ap (λ t. c ∷ t) k.1, inl (e, k.2))
    go more false e f = (f.0, f.1, here L f.0 v f.2)

spaced_as : {V : Type 0} (L M : List ℕ → V → Type 0) → ((text : List ℕ) (v : V) → L text v → M text v) → (text : List ℕ) (v : V) → Spaced L text v → Spaced M text v
spaced_as L M f [] v h = f [] v h
spaced_as L M f (c ∷ text) v (inl (e, h)) = inl (e, spaced_as L M f text v h)
spaced_as L M f (c ∷ text) v (inr h) = inr (f (c ∷ text) v h)

-- a token, and what follows it
then : {V W : Type 0} (L : List ℕ → V → Type 0) (Rest : V → List ℕ → W → Type 0) (own more rest text : List ℕ) (value : V) (w : W) → L own value → text ≡ own ++ more
    → Front (Rest value) rest w more → Front (Then L Rest) rest w text
then L Rest own more rest text value w token e f = (
  own ++ f.0,
  e ∙ ap (λ t. own ++ t) f.1 ∙ sym (append_assoc own f.0 rest),
  record { own = own; value = value; rest = f.0; token = token; after = f.2; spelled = refl },
)

iri_token : (text : List ℕ) (r : List ℕ × List ℕ) → iri_at text ≡ Some r → (text ≡ term_text (Iri r.0) ++ r.1) × IriToken Triples (term_text (Iri r.0)) r.0
iri_token text r e =
    let k = iri_takes text r e in
    (k.0 ∙ ap (λ t. 60 ∷ t) (sym (append_assoc r.0 (62 ∷ []) r.1)), (tokens (Iri r.0) k.1).is)

-- words, and what they are
abbrev Joins : List ℕ → List ℕ × List ℕ → Type 0
Joins text r = text ≡ r.0 ++ r.1

word_parts : (text : List ℕ) → Joins text (word text)
word_parts [] = refl
word_parts (c ∷ text) = go (word_parts text) (is_space c || is_line_end c)
  where
    go : Joins text (word text) → (b : Bool) → Joins (c ∷ text) (cond b ([], c ∷ text) (c ∷ (word text).0, (word text).1))
    go more true = refl
    go more false = ap (λ t. c ∷ t) more

chosen_is : (test : List ℕ → Bool) (text value : List ℕ) → cond (test text) (Some text) None ≡ Some value → (text ≡ value) × (test value ≡ true)
chosen_is test text value e = go (test text) refl e
  where
    go : (b : Bool) → test text ≡ b → cond b (Some text) None ≡ Some value → (text ≡ value) × (test value ≡ true)
    go true is e = let same = some_same e in (same, ap test (sym same) ∙ is)
    go false is e = none_some e

label_token : (text : List ℕ) (r : List ℕ × List ℕ) → label text ≡ Some r → (95 ∷ text ≡ (95 ∷ 58 ∷ r.0) ++ r.1) × LabelToken (95 ∷ 58 ∷ r.0) r.0
unfolding label
label_token text r e =
    let a = read_both (after_at 58 text) _ r e in
    let b = read_both (as_label (word a.0).0) _ r a.2 in
    let k = chosen_is is_label (word a.0).0 b.0 b.1 in
    let at : 95 ∷ text ≡ (95 ∷ 58 ∷ b.0) ++ (word a.0).1 = ap (λ t. 95 ∷ t) (after_takes 58 text a.0 a.1) ∙ ap (λ t. 95 ∷ 58 ∷ t) (word_parts a.0) ∙ ap (λ t. 95 ∷ 58 ∷ (t ++ (word a.0).1)) k.0 in
    subst (λ (r : List ℕ × List ℕ). (95 ∷ text ≡ (95 ∷ 58 ∷ r.0) ++ r.1) × LabelToken (95 ∷ 58 ∷ r.0) r.0) (some_same b.2) (at, (refl, k.1))

-- an IRI or a label
record IsIriAt (text : List ℕ) (r : Term × List ℕ) : Type 0 where
  iri : List ℕ
  is : r.0 ≡ Iri iri
  spelled : text ≡ term_text (Iri iri) ++ r.1
  token : IriToken Triples (term_text (Iri iri)) iri

record IsLabelAt (text : List ℕ) (r : Term × List ℕ) : Type 0 where
  label : List ℕ
  is : r.0 ≡ Blank label
  spelled : text ≡ (95 ∷ 58 ∷ label) ++ r.1
  token : LabelToken (95 ∷ 58 ∷ label) label

subject_is : (text : List ℕ) (r : Term × List ℕ) → subject text ≡ Some r → IsIriAt text r ⊎ IsLabelAt text r
subject_is text r e = go (after_at 95 text) refl e
  where
    iri : (o : Option (List ℕ × List ℕ)) → iri_at text ≡ o → iri_node o ≡ Some r → IsIriAt text r
    iri None e f = none_some f
    iri (Some q) e f =
        let k = iri_token text q e in
        subst (IsIriAt text) (some_same f) (record { iri = q.0; is = refl; spelled = k.0; token = k.1 })

    blank : (rest : List ℕ) → text ≡ 95 ∷ rest → (o : Option (List ℕ × List ℕ)) → label rest ≡ o → blank_node o ≡ Some r → IsLabelAt text r
    blank rest at None e f = none_some f
    blank rest at (Some q) e f =
        let k = label_token rest q e in
        subst (IsLabelAt text) (some_same f) (record { label = q.0; is = refl; spelled = at ∙ k.0; token = k.1 })

    go : (o : Option (List ℕ)) → after_at 95 text ≡ o → read_or o (λ rest. blank_node (label rest)) (iri_node (iri_at text)) ≡ Some r → IsIriAt text r ⊎ IsLabelAt text r
    go None e f = inl (iri (iri_at text) refl f)
    go (Some rest) e f = inr (blank rest (after_takes 95 text rest e) (label rest) refl f)

subject_front : (End : List ℕ → Type 0) (rest : List ℕ) (t : Statement) (text : List ℕ) (r : Term × List ℕ) → subject text ≡ Some r → Front (Spaced (Predicate End r.0)) rest t r.1 → Front (Subject End) rest t text
subject_front End rest t text r e f =
    ⊎_elim
    (λ (k : IsIriAt text r).
    let w = then (IriToken Triples) (λ s. Spaced (Predicate End (Iri s))) (term_text (Iri k.iri)) r.1 rest text k.iri t k.token k.spelled (subst (λ s. Front (Spaced (Predicate End s)) rest t r.1) k.is f) in
    let all : Front (Subject End) rest t text = (w.0, w.1, inl w.2) in all)
    (λ (k : IsLabelAt text r).
    let w = then LabelToken (λ s. Spaced (Predicate End (Blank s))) (95 ∷ 58 ∷ k.label) r.1 rest text k.label t k.token k.spelled (subst (λ s. Front (Spaced (Predicate End s)) rest t r.1) k.is f) in
    let all : Front (Subject End) rest t text = (w.0, w.1, inr w.2) in all)
    (subject_is text r e)

predicate_front : (End : List ℕ → Type 0) (s : Term) (rest : List ℕ) (t : Statement) (text : List ℕ) (r : List ℕ × List ℕ) → iri_at text ≡ Some r → Front (Spaced (Object End s r.0)) rest t r.1 → Front (Predicate End s) rest t text
predicate_front End s rest t text r e f =
    let k = iri_token text r e in
    then (IriToken Triples) (λ p. Spaced (Object End s p)) (term_text (Iri r.0)) r.1 rest text r.0 t k.1 k.0 f

-- a string of characters that stand for themselves
abbrev raw : ℕ → Group
raw c = record { quotes = 0; piece = record { text = c ∷ []; char = c } }

abbrev raws : List ℕ → List Group
raws [] = []
raws (c ∷ text) = raw c ∷ raws text

raws_are : (text : List ℕ) → list_all is_plain text ≡ true → AllByRecursion (IsGroup Triples (Short Double)) (raws text)
raws_are [] e = tt
raws_are (c ∷ text) e = let w = both_parts (is_plain c) (list_all is_plain text) e in ((refl, inl (record { text = refl }, w.0)), raws_are text w.1)

raws_text : (text : List ℕ) → text ≡ flat_map (group_text (Short Double)) (raws text)
raws_text [] = refl
raws_text (c ∷ text) = ap (λ t. c ∷ t) (raws_text text)

raws_value : (text : List ℕ) → text ≡ flat_map (group_value (Short Double)) (raws text)
raws_value [] = refl
raws_value (c ∷ text) = ap (λ t. c ∷ t) (raws_value text)

string_token : (text : List ℕ) → list_all is_plain text ≡ true → StringToken Triples (34 ∷ (text ++ 34 ∷ [])) text
string_token text e = record {
  quoting = Short Double;
  has = refl;
  tail = text ++ 34 ∷ [];
  after = record { groups = raws text; each = raws_are text e; spelled = ap (λ t. t ++ 34 ∷ []) (raws_text text); stands = raws_value text };
  spelled = refl;
}

-- what follows a string
module _ (End : List ℕ → Type 0) (s : Term) (p lexical rest : List ℕ) (t : Statement) where
  abbrev After : Term → List ℕ → Type 0
  After o text = Front (Dotted End (triple_of s p o)) rest t text

  tag_parts : (text own after tag : List ℕ) → text ≡ 64 ∷ (own ++ after) → own ≡ tag → is_tag tag ≡ true → After (tagged_of lexical tag) after → Front (Suffix End s p lexical) rest t text
  tag_parts text own after tag at same valid f =
      let spelled : text ≡ (64 ∷ tag) ++ after = at ∙ ap (λ own. 64 ∷ (own ++ after)) same in
      let w = then TagToken (λ tag. Dotted End (triple_of s p (tagged_of lexical tag))) (64 ∷ tag) after rest text tag t (refl, valid) spelled f in
      (w.0, w.1, here (AfterSpaces End s p lexical) w.0 t (inr (inl w.2)))

  tag_front : (text more : List ℕ) (r : Term × List ℕ) → text ≡ 64 ∷ more → tagged lexical more ≡ Some r → After r.0 r.1 → Front (Suffix End s p lexical) rest t text
  unfolding tagged
  tag_front text more r at e f =
      let a = read_both (as_tag (word more).0) _ r e in
      let k = chosen_is is_tag (word more).0 a.0 a.1 in
      tag_parts text (word more).0 (word more).1 a.0 (at ∙ ap (λ t. 64 ∷ t) (word_parts more)) k.0 k.1 (subst (λ (r : Term × List ℕ). After r.0 r.1) (sym (some_same a.2)) f)

  typed_is : (datatype : List ℕ) (o : Term) → as_typed lexical datatype ≡ Some o → (is_lang_string datatype ≡ false) × (o ≡ typed_of lexical datatype)
  typed_is datatype o e = go (is_lang_string datatype) refl e
    where
      go : (b : Bool) → is_lang_string datatype ≡ b → cond b None (Some (typed_of lexical datatype)) ≡ Some o → (is_lang_string datatype ≡ false) × (o ≡ typed_of lexical datatype)
      go true is e = none_some e
      go false is e = (is, sym (some_same e))

  typed_parts : (text inner iri : List ℕ) (q : List ℕ × List ℕ) (o : Term) → text ≡ 94 ∷ 94 ∷ inner → (inner ≡ iri ++ q.1) × IriToken Triples iri q.0 → (is_lang_string q.0 ≡ false) × (o ≡ typed_of lexical q.0) → After o q.1 → Front (Suffix End s p lexical) rest t text
  typed_parts text inner iri q o at token is f =
      let g : After (typed_of lexical q.0) q.1 = subst (λ o. After o q.1) is.1 f in
      let w = then DatatypeToken (λ datatype. Dotted End (triple_of s p (typed_of lexical datatype))) iri q.1 rest inner q.0 t (token.1, is.0) token.0 g in
      let after = here (Then DatatypeToken (λ datatype. Dotted End (triple_of s p (typed_of lexical datatype)))) w.0 t w.2 in
      (94 ∷ 94 ∷ w.0, at ∙ ap (λ t. 94 ∷ 94 ∷ t) w.1, here (AfterSpaces End s p lexical) (94 ∷ 94 ∷ w.0) t (inr (inr (record { rest = w.0; after = after; spelled = refl }))))

  typed_front : (text more : List ℕ) (r : Term × List ℕ) → text ≡ 94 ∷ more → typed lexical more ≡ Some r → After r.0 r.1 → Front (Suffix End s p lexical) rest t text
  unfolding typed
  typed_front text more r at e f =
      let a = read_both (after_at 94 more) _ r e in
      let b = read_both (iri_at a.0) _ r a.2 in
      let d = read_both (as_typed lexical b.0.0) _ r b.2 in
      typed_parts text a.0 (term_text (Iri b.0.0)) b.0 d.0 (at ∙ ap (λ t. 94 ∷ t) (after_takes 94 more a.0 a.1)) (iri_token a.0 b.0 b.1) (typed_is b.0.0 d.0 d.1) (subst (λ (r : Term × List ℕ). After r.0 r.1) (sym (some_same d.2)) f)

  string_front : (text : List ℕ) → After (string_of lexical) text → Front (Suffix End s p lexical) rest t text
  string_front text f = (f.0, f.1, spaced_as (Dot End (triple_of s p (string_of lexical))) (AfterSpaces End s p lexical) (λ text v h. inl h) f.0 t f.2)

  suffix_front : (text : List ℕ) (r : Term × List ℕ) → suffixed lexical text ≡ Some r → After r.0 r.1 → Front (Suffix End s p lexical) rest t text
  suffix_front text r e f = go (after_at 64 text) refl e
    where
      none : (o : Option (List ℕ)) → after_at 94 text ≡ o → read_or o (typed lexical) (Some (string_of lexical, text)) ≡ Some r → Front (Suffix End s p lexical) rest t text
      none None e g = string_front text (subst (λ (r : Term × List ℕ). After r.0 r.1) (sym (some_same g)) f)
      none (Some more) e g = typed_front text more r (after_takes 94 text more e) g f

      go : (o : Option (List ℕ)) → after_at 64 text ≡ o → read_or o (tagged lexical) (read_or (after_at 94 text) (typed lexical) (Some (string_of lexical, text))) ≡ Some r → Front (Suffix End s p lexical) rest t text
      go None e g = none (after_at 94 text) refl g
      go (Some more) e g = tag_front text more r (after_takes 64 text more e) g f

literal_parts : (End : List ℕ → Type 0) (s : Term) (p rest : List ℕ) (t : Statement) (text own lexical after : List ℕ) (r : Term × List ℕ) → text ≡ 34 ∷ (own ++ 34 ∷ after) → (own ≡ lexical) × (list_all is_plain lexical ≡ true) → suffixed lexical after ≡ Some r
    → Front (Dotted End (triple_of s p r.0)) rest t r.1 → Front (Then (StringToken Triples) (λ lexical. Suffix End s p lexical)) rest t text
literal_parts End s p rest t text own lexical after r at k e f =
    let spelled : text ≡ (34 ∷ (lexical ++ 34 ∷ [])) ++ after = at ∙ ap (λ own. 34 ∷ (own ++ 34 ∷ after)) k.0 ∙ ap (λ t. 34 ∷ t) (sym (append_assoc lexical (34 ∷ []) after)) in
    then (StringToken Triples) (λ lexical. Suffix End s p lexical) (34 ∷ (lexical ++ 34 ∷ [])) after rest text lexical t (string_token lexical k.1) spelled (suffix_front End s p lexical rest t after r e f)

literal_front : (End : List ℕ → Type 0) (s : Term) (p rest : List ℕ) (t : Statement) (text inner : List ℕ) (r : Term × List ℕ) → text ≡ 34 ∷ inner → literal inner ≡ Some r
    → Front (Dotted End (triple_of s p r.0)) rest t r.1 → Front (Then (StringToken Triples) (λ lexical. Suffix End s p lexical)) rest t text
unfolding literal
literal_front End s p rest t text inner r at e f =
    let a = read_both (until_at 34 inner) _ r e in
    let b = read_both (as_plain a.0.0) _ r a.2 in
    literal_parts End s p rest t text a.0.0 b.0 a.0.1 r (at ∙ ap (λ t. 34 ∷ t) (until_takes 34 inner a.0 a.1)) (chosen_is (list_all is_plain) a.0.0 b.0 b.1) b.2 f

object_front : (End : List ℕ → Type 0) (s : Term) (p rest : List ℕ) (t : Statement) (text : List ℕ) (r : Term × List ℕ) → object text ≡ Some r → Front (Dotted End (triple_of s p r.0)) rest t r.1 → Front (Object End s p) rest t text
object_front End s p rest t text r e f = go (after_at 34 text) refl e
  where
    node : IsIriAt text r ⊎ IsLabelAt text r → Front (Object End s p) rest t text
    node (inl k) =
        let w = then (IriToken Triples) (λ o. Dotted End (triple_of s p (Iri o))) (term_text (Iri k.iri)) r.1 rest text k.iri t k.token k.spelled (subst (λ o. Front (Dotted End (triple_of s p o)) rest t r.1) k.is f) in
        (w.0, w.1, inl w.2)
    node (inr k) =
        let w = then LabelToken (λ o. Dotted End (triple_of s p (Blank o))) (95 ∷ 58 ∷ k.label) r.1 rest text k.label t k.token k.spelled (subst (λ o. Front (Dotted End (triple_of s p o)) rest t r.1) k.is f) in
        (w.0, w.1, inr (inl w.2))

    go : (o : Option (List ℕ)) → after_at 34 text ≡ o → read_or o literal (subject text) ≡ Some r → Front (Object End s p) rest t text
    go None e g = node (subject_is text r g)
    go (Some inner) e g = let w = literal_front End s p rest t text inner r (after_takes 34 text inner e) g f in (w.0, w.1, inr (inr w.2))

-- the line's end
end_is : (text rest : List ℕ) → after_end text ≡ Some rest → (c : ℕ) × (text ≡ c ∷ rest) × (is_line_end c ≡ true)
end_is [] rest e = none_some e
end_is (c ∷ text) rest e = go (is_line_end c) refl e
  where
    go : (b : Bool) → is_line_end c ≡ b → cond b (Some text) None ≡ Some rest → (d : ℕ) × (c ∷ text ≡ d ∷ rest) × (is_line_end d ≡ true)
    go true is e = (c, ap (λ t. c ∷ t) (some_same e), is)
    go false is e = none_some e

gap_is : (text : List ℕ) (c : ℕ) (rest : List ℕ) → after_spaces text ≡ c ∷ rest → (gap : List ℕ) × (text ≡ gap ++ c ∷ rest) × LineEnd gap
gap_is [] c rest e = cc
gap_is (d ∷ text) c rest e = go (gap_is text c rest) (is_space d) refl e
  where
    go : (after_spaces text ≡ c ∷ rest → (gap : List ℕ) × (text ≡ gap ++ c ∷ rest) × LineEnd gap) → (b : Bool) → is_space d ≡ b → cond b (after_spaces text) (d ∷ text) ≡ c ∷ rest → (gap : List ℕ) × (d ∷ text ≡ gap ++ c ∷ rest) × LineEnd gap
    go more true is e = let k = more e in (d ∷ k.0, ap (λ t. d ∷ t) k.1, inl (is, k.2))
    go more false is e = ([], e, tt)

-- a line with a triple, and what ends it
pub record IsEndedLine (text : List ℕ) (triple : Statement) (rest : List ℕ) : Type 0 where
  pub own : List ℕ
  pub end : ℕ
  pub parts : text ≡ own ++ end ∷ rest
  pub ends : is_line_end end ≡ true
  pub is : Line own (Some triple)

line_of : (text dotted rest : List ℕ) (s o : Term × List ℕ) (p : List ℕ × List ℕ) → subject text ≡ Some s → iri_at (after_spaces s.1) ≡ Some p → object (after_spaces p.1) ≡ Some o → after_at 46 (after_spaces o.1) ≡ Some dotted → after_end (after_spaces dotted) ≡ Some rest
    → IsEndedLine text (triple_of s.0 p.0 o.0) rest
line_of text dotted rest s o p is_s is_p is_o is_dot is_end =
    let t = triple_of s.0 p.0 o.0 in
    let end = end_is (after_spaces dotted) rest is_end in
    let gap = gap_is dotted end.0 rest end.1 in
    let last : List ℕ = end.0 ∷ rest in
    let dot : Front (Dot LineEnd t) last t (after_spaces o.1) = (46 ∷ gap.0, after_takes 46 (after_spaces o.1) dotted is_dot ∙ ap (λ t. 46 ∷ t) gap.1, record { rest = gap.0; end = gap.2; spelled = refl; is = refl }) in
    let after_o : Front (Dotted LineEnd t) last t o.1 = spaced (Dot LineEnd t) last t o.1 dot in
    let after_p : Front (Spaced (Object LineEnd s.0 p.0)) last t p.1 = spaced (Object LineEnd s.0 p.0) last t p.1 (object_front LineEnd s.0 p.0 last t (after_spaces p.1) o is_o after_o) in
    let after_s : Front (Spaced (Predicate LineEnd s.0)) last t s.1 = spaced (Predicate LineEnd s.0) last t s.1 (predicate_front LineEnd s.0 last t (after_spaces s.1) p is_p after_p) in
    let whole : Front (Subject LineEnd) last t text = subject_front LineEnd last t text s is_s after_s in
    record {
      own = whole.0;
      end = end.0;
      parts = whole.1;
      ends = end.2;
      is = inr (record { triple = t; stated = here (Subject LineEnd) whole.0 t whole.2; is = refl });
    }

pub plain_line_is : (text : List ℕ) (r : Statement × List ℕ) → plain_line text ≡ Some r → IsEndedLine text r.0 r.1
unfolding plain_line
plain_line_is text r e =
    let s = read_both (subject text) _ r e in
    let p = read_both (iri_at (after_spaces s.0.1)) _ r s.2 in
    let o = read_both (object (after_spaces p.0.1)) _ r p.2 in
    let d = read_both (after_at 46 (after_spaces o.0.1)) _ r o.2 in
    let z = read_both (after_end (after_spaces d.0)) _ r d.2 in
    subst (λ (r : Statement × List ℕ). IsEndedLine text r.0 r.1) (some_same z.2) (line_of text d.0 z.0 s.0 o.0 p.0 s.1 p.1 o.1 d.1 z.1)

-- An IRI that can be read to its end can be read to one that is not rdf:langString, unless it is at its end.
use Rattle.std.proofs.Common.{◌≡◌, refl, ℕ, true, false, List, [], ◌∷◌, ◌++◌, map, flat_map, Some, inl, ⊎_elim, length, sym, ◌∙◌, ap, subst, append_assoc, arith, length-append}
use Rattle.std.specs.Str.{all_scalars}
use Rattle.std.proofs.lemmas.Slice.Eq.{bytes_eq-Decides}
use Rattle.bye_terms.specs.Literals.{is_lang_string, lang_string}
use Rattle.bye_terms.proofs.Lists.{all_join}
use Rattle.bye_terms.proofs.Tests.{bool_cases, both_parts}
use Rattle.bye_lex.specs.Escapes.{Piece, number}
use Rattle.bye_lex.specs.Iris.{has_numbers, IsIriPiece, IriTail, IriScheme, IriLetter, IriToken}
use Rattle.bye_lex.specs.IriSteps.{final}
use Rattle.bye_lex.specs.Languages.{Viable}
use Rattle.bye_lex.specs.declared.escape.EscapeAt.{EscapeAt}
use Rattle.bye_lex.specs.declared.escape.Home.TheVariants as homes
use Rattle.bye_lex.specs.declared.iri.IriAt.{IriAt}
use Rattle.bye_lex.specs.declared.iri.IriAt.TheVariants.{Start, Opened, Scheme, Body, Backslash, Escape, Done}
use Rattle.bye_lex.specs.declared.style.Style.TheVariants.{Tsv}
use Rattle.bye_lex.proofs.Branches.{and_true, heads, scalars_join}
use Rattle.bye_lex.proofs.IriMeaning.{Left}
use Rattle.bye_lex.proofs.Meanings.{After, EscapeTail}

-- the text ends in a bracket, and with an `a` before that it is longer
pub record Longer (L : List ℕ → List ℕ → Type 0) (text value : List ℕ) : Type 0 where
  pub front : List ℕ
  pub parts : text ≡ front ++ 62 ∷ []
  pub longer : L (front ++ 97 ∷ 62 ∷ []) (value ++ 97 ∷ [])

-- so is a text with something before it
longer_with : (L K : List ℕ → List ℕ → Type 0) (before out text value whole stands : List ℕ) → whole ≡ before ++ text → stands ≡ out ++ value → ((t v : List ℕ) → L t v → K (before ++ t) (out ++ v)) → Longer L text value → Longer K whole stands
longer_with L K before out text value whole stands e f into h = record {
  front = before ++ h.front;
  parts = e ∙ ap (λ t. before ++ t) h.parts ∙ sym (append_assoc before h.front (62 ∷ []));
  longer = subst (λ t. K t (stands ++ 97 ∷ [])) (sym (append_assoc before h.front (97 ∷ 62 ∷ [])))
      (subst (K (before ++ (h.front ++ 97 ∷ 62 ∷ []))) (sym (append_assoc out value (97 ∷ [])) ∙ ap (λ v. v ++ 97 ∷ []) (sym f))
      (into (h.front ++ 97 ∷ 62 ∷ []) (value ++ 97 ∷ []) h.longer));
}

abbrev an_a : Piece
an_a = record { text = 97 ∷ []; char = 97 }

tail_longer : (text value : List ℕ) → IriTail Tsv text value → Longer (IriTail Tsv) text value
tail_longer text value h = record {
  front = flat_map (λ p. p.text) h.pieces;
  parts = h.spelled;
  longer = record {
    pieces = h.pieces ++ an_a ∷ [];
    each = all_join (IsIriPiece Tsv) h.pieces (an_a ∷ []) h.each (record { spelled = inl (record { text = refl }); allowed = refl }, tt);
    spelled = spelled h.pieces;
    stands = ap (λ v. v ++ 97 ∷ []) h.stands ∙ stands h.pieces;
  };
}
  where
    spelled : (ps : List Piece) → flat_map (λ p. p.text) ps ++ 97 ∷ 62 ∷ [] ≡ flat_map (λ p. p.text) (ps ++ an_a ∷ []) ++ 62 ∷ []
    spelled [] = refl
    spelled (p ∷ ps) = append_assoc p.text (flat_map (λ p. p.text) ps) (97 ∷ 62 ∷ []) ∙ ap (λ t. p.text ++ t) (spelled ps) ∙ sym (append_assoc p.text (flat_map (λ p. p.text) (ps ++ an_a ∷ [])) (62 ∷ []))

    stands : (ps : List Piece) → map (λ p. p.char) ps ++ 97 ∷ [] ≡ map (λ p. p.char) (ps ++ an_a ∷ [])
    stands [] = refl
    stands (p ∷ ps) = ap (λ v. p.char ∷ v) (stands ps)

scheme_longer : (text value : List ℕ) → IriScheme Tsv text value → Longer (IriScheme Tsv) text value
scheme_longer text value h =
    longer_with (IriTail Tsv) (IriScheme Tsv) (h.scheme ++ 58 ∷ []) (h.scheme ++ 58 ∷ []) h.tail h.tail_value text value (h.spelled ∙ sym (append_assoc h.scheme (58 ∷ []) h.tail)) (h.stands ∙ sym (append_assoc h.scheme (58 ∷ []) h.tail_value))
    (λ t v k. record { scheme = h.scheme; each = h.each; tail = t; tail_value = v; after = k; spelled = append_assoc h.scheme (58 ∷ []) t; stands = append_assoc h.scheme (58 ∷ []) v })
    (tail_longer h.tail h.tail_value h.after)

letter_longer : (text value : List ℕ) → IriLetter Tsv text value → Longer (IriLetter Tsv) text value
letter_longer text value h =
    longer_with (IriScheme Tsv) (IriLetter Tsv) (h.first ∷ []) (h.first ∷ []) h.rest h.rest_value text value h.spelled h.stands
    (λ t v k. record { first = h.first; letter = h.letter; rest = t; rest_value = v; after = k; spelled = refl; stands = refl })
    (scheme_longer h.rest h.rest_value h.after)

token_longer : (text value : List ℕ) → IriToken Tsv text value → Longer (IriToken Tsv) text value
token_longer text value h = longer_with (IriLetter Tsv) (IriToken Tsv) (60 ∷ []) [] h.rest value text value h.spelled refl (λ t v k. record { rest = t; after = k; spelled = refl }) (letter_longer h.rest value h.after)

after_longer : (L : List ℕ → List ℕ → Type 0) → ((t v : List ℕ) → L t v → Longer L t v) → (out text value : List ℕ) → After L out text value → Longer (After L out) text value
after_longer L longer out text value h = longer_with L (After L out) [] out text h.own text value refl h.stands (λ t v k. record { own = v; is = k; stands = refl }) (longer text h.own h.is)

backslash_longer : (text value : List ℕ) → IriTail Tsv (92 ∷ text) value → Longer (λ t v. IriTail Tsv (92 ∷ t) v) text value
backslash_longer text value h = let k = tail_longer (92 ∷ text) value h in go k.front k.parts k.longer
  where
    go : (front : List ℕ) → 92 ∷ text ≡ front ++ 62 ∷ [] → IriTail Tsv (front ++ 97 ∷ 62 ∷ []) (value ++ 97 ∷ []) → Longer (λ t v. IriTail Tsv (92 ∷ t) v) text value
    go [] e k = let z = (heads 92 62 text [] e).0 in absurd (omega (arith, z))
    go (c ∷ front) e k =
        let q = heads 92 c text (front ++ 62 ∷ []) e in
        record { front = front; parts = q.1; longer = subst (λ c. IriTail Tsv (c ∷ (front ++ 97 ∷ 62 ∷ [])) (value ++ 97 ∷ [])) (sym q.0) k }

escape_longer : (at : EscapeAt) (text value : List ℕ) → EscapeTail homes.Iri (IriTail Tsv) at text value → Longer (EscapeTail homes.Iri (IriTail Tsv) at) text value
escape_longer at text value h =
    longer_with (IriTail Tsv) (EscapeTail homes.Iri (IriTail Tsv) at) h.digits (number at.number h.digits ∷ []) h.tail h.tail_value text value h.spelled h.stands
    (λ t v k. record { digits = h.digits; tail = t; tail_value = v; hex = h.hex; full = h.full; allowed = h.allowed; after = k; spelled = refl; stands = refl })
    (tail_longer h.tail h.tail_value h.after)

with_numbers : (L : List ℕ → List ℕ → Type 0) (text value : List ℕ) → Longer L text value → Longer (λ t v. (has_numbers Tsv ≡ true) × L t v) text value
with_numbers L text value h = record { front = h.front; parts = h.parts; longer = (refl, h.longer) }

-- the texts and the values that a state may still be given, none of them rdf:langString
abbrev pub Untagged : IriAt → Type 0
Untagged at = (text : List ℕ) × (value : List ℕ) × (all_scalars text ≡ true) × Left Tsv at text value × (is_lang_string value ≡ false)

-- only one of an IRI and a longer one is rdf:langString
not_both : (v : List ℕ) → is_lang_string v ≡ true → is_lang_string (v ++ 97 ∷ []) ≡ true → ⊥
not_both v e f =
    let a = (bytes_eq-Decides v lang_string).0 e in
    let b = (bytes_eq-Decides (v ++ 97 ∷ []) lang_string).0 f in
    let n = ap length (b ∙ sym a) in
    let l = length-append v (97 ∷ []) in
    omega (arith, n, l)

scalars_front : (a b : List ℕ) → all_scalars (a ++ b) ≡ true → all_scalars a ≡ true
scalars_front [] b e = refl
scalars_front (c ∷ a) b e = let k = both_parts _ _ e in and_true _ _ k.0 (scalars_front a b k.1)

untag : (at : IriAt) (text value : List ℕ) → all_scalars text ≡ true → Left Tsv at text value → Longer (Left Tsv at) text value → Untagged at
untag at text value s h longer =
    ⊎_elim
    (λ (e : is_lang_string value ≡ true).
    let r : Untagged at = (
      longer.front ++ 97 ∷ 62 ∷ [],
      value ++ 97 ∷ [],
      scalars_join longer.front (97 ∷ 62 ∷ []) (scalars_front longer.front (62 ∷ []) (subst (λ t. all_scalars t ≡ true) longer.parts s)) refl,
      longer.longer,
      ⊎_elim (λ (f : is_lang_string (value ++ 97 ∷ []) ≡ true). absurd (not_both value e f)) (λ f. f) (bool_cases (is_lang_string (value ++ 97 ∷ []))),
    ) in r)
    (λ (e : is_lang_string value ≡ false). let r : Untagged at = (text, value, s, h, e) in r)
    (bool_cases (is_lang_string value))

pub untagged : (at : IriAt) → Viable (Left Tsv at) [] → ((v : List ℕ) → final at ≡ Some v → is_lang_string v ≡ false) → Untagged at
untagged Start w none = untag Start w.more w.value w.scalars w.whole (token_longer w.more w.value w.whole)
untagged Opened w none = untag Opened w.more w.value w.scalars w.whole (letter_longer w.more w.value w.whole)
untagged (Scheme out) w none = untag (Scheme out) w.more w.value w.scalars w.whole (after_longer (IriScheme Tsv) scheme_longer out w.more w.value w.whole)
untagged (Body out) w none = untag (Body out) w.more w.value w.scalars w.whole (after_longer (IriTail Tsv) tail_longer out w.more w.value w.whole)
untagged (Backslash out) w none =
    untag (Backslash out) w.more w.value w.scalars w.whole (with_numbers (After (λ t v. IriTail Tsv (92 ∷ t) v) out) w.more w.value (after_longer (λ t v. IriTail Tsv (92 ∷ t) v) backslash_longer out w.more w.value w.whole.1))
untagged (Escape at out) w none =
    untag (Escape at out) w.more w.value w.scalars w.whole (with_numbers (After (EscapeTail homes.Iri (IriTail Tsv) at) out) w.more w.value (after_longer (EscapeTail homes.Iri (IriTail Tsv) at) (escape_longer at) out w.more w.value w.whole.1))
untagged (Done out) w none = ([], out, refl, (refl, refl), none out refl)

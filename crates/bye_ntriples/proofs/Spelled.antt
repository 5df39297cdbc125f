-- What is known of the terms of a triple.
use Rattle.std.proofs.Common.{◌≡◌, refl, ℕ, true, List, [], ◌∷◌, ◌++◌, codes, flat_map, length, sym, ◌∙◌, ap, append_assoc}
use Rattle.std.specs.List.{AllByRecursion}
use Rattle.std.proofs.lemmas.Grind.{flat_map-append}
use Rattle.std.proofs.lemmas.List.{append-nil, map-append}
use Rattle.std.specs.Str.{encode_utf8_all, all_scalars}
use Rattle.std.proofs.lemmas.Str.{encodes-append}
use Rattle.bye_terms.specs.Spellings.{term_text, term_bytes}
use Rattle.bye_terms.specs.Valid.{IsRdfTerm}
use Rattle.bye_terms.specs.declared.term.Term.{Term}
use Rattle.bye_lex.proofs.Branches.{scalars_join}
use Rattle.bye_terms.specs.Terms.{Statement, IsTriple}
use Rattle.bye_ntriples.specs.Canonical.{line_text, line_bytes, IsStatement}
use Rattle.bye_ntriples.specs.Writing.{AreSpelled, IsAdded}

-- a line by its parts
line_scalars : (t : Statement) → all_scalars (term_text t.s) ≡ true → all_scalars (term_text t.p) ≡ true → all_scalars (term_text t.o) ≡ true → all_scalars (line_text t) ≡ true
line_scalars t s p o =
    scalars_join (term_text t.s ++ codes " " ++ term_text t.p ++ codes " " ++ term_text t.o) (codes " .\n")
    (scalars_join (term_text t.s ++ codes " " ++ term_text t.p ++ codes " ") (term_text t.o)
    (scalars_join (term_text t.s ++ codes " " ++ term_text t.p) (codes " ")
    (scalars_join (term_text t.s ++ codes " ") (term_text t.p) (scalars_join (term_text t.s) (codes " ") s refl) p) refl) o)
    refl

pub statement : (t : Statement) → IsRdfTerm t.s → IsRdfTerm t.p → IsRdfTerm t.o → IsTriple t → IsStatement t
statement t s p o parts = record {
  subject = s.is;
  predicate = p.is;
  object = o.is;
  parts = parts;
  scalars = line_scalars t s.scalars p.scalars o.scalars;
}

-- a line that was put there by its parts
put : (before text more now after : List ℕ) → now ≡ before ++ encode_utf8_all text → after ≡ now ++ encode_utf8_all more → after ≡ before ++ encode_utf8_all (text ++ more)
put before text more now after e f =
    f ∙ ap (λ t. t ++ encode_utf8_all more) e ∙ append_assoc before (encode_utf8_all text) (encode_utf8_all more) ∙ ap (λ t. before ++ t) (sym (encodes-append text more))

pub line_put : (t : Statement) (s p o : Term) (before first second third fourth fifth after : List ℕ) → s ≡ t.s → p ≡ t.p → o ≡ t.o
    → first ≡ before ++ term_bytes s → second ≡ first ++ codes " " → third ≡ second ++ term_bytes p → fourth ≡ third ++ codes " " → fifth ≡ fourth ++ term_bytes o → after ≡ fifth ++ codes " .\n"
    → after ≡ before ++ line_bytes t
unfolding lib.Utf8.encode
line_put t s p o before first second third fourth fifth after is_s is_p is_o a b d e f g =
    let one = a ∙ ap (λ s. before ++ term_bytes s) is_s in
    let two = put before (term_text t.s) (codes " ") first second one b in
    let three = put before (term_text t.s ++ codes " ") (term_text t.p) second third two (d ∙ ap (λ p. second ++ term_bytes p) is_p) in
    let four = put before (term_text t.s ++ codes " " ++ term_text t.p) (codes " ") third fourth three e in
    let five = put before (term_text t.s ++ codes " " ++ term_text t.p ++ codes " ") (term_text t.o) fourth fifth four (f ∙ ap (λ o. fourth ++ term_bytes o) is_o) in
    put before (term_text t.s ++ codes " " ++ term_text t.p ++ codes " " ++ term_text t.o) (codes " .\n") fifth after five g

pub all_join : {X : Type 0} (P : X → Type 0) (xs ys : List X) → AllByRecursion P xs → AllByRecursion P ys → AllByRecursion P (xs ++ ys)
all_join P [] ys h k = k
all_join P (x ∷ xs) ys h k = (h.0, all_join P xs ys h.1 k)

-- one more line
pub more : (ts : List Statement) (t : Statement) (bytes lengths new_bytes new_lengths : List ℕ) → AreSpelled ts bytes lengths → IsAdded t bytes lengths new_bytes new_lengths → AreSpelled (ts ++ t ∷ []) new_bytes new_lengths
more ts t bytes lengths new_bytes new_lengths s a = record {
  valid = all_join IsStatement ts (t ∷ []) s.valid (a.valid, tt);
  text = a.line ∙ ap (λ b. b ++ line_bytes t) s.text ∙ ap (λ b. flat_map line_bytes ts ++ b) (sym (append-nil (line_bytes t))) ∙ sym (flat_map-append line_bytes ts (t ∷ []));
  long = a.long ∙ ap (λ b. b ++ length (line_bytes t) ∷ []) s.long ∙ sym (map-append (λ t. length (line_bytes t)) ts (t ∷ []));
}

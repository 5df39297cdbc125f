-- Variables and RDF terms as they are written.
use Rattle.std.proofs.Common.{◌≡◌, refl, ℕ, Bool, true, false, cond, not, nat_lt, ◌==◌, ◌&&◌, ◌||◌, List, [], ◌∷◌, ◌++◌, Option, Some, None, ⊎_elim, codes, ◌∙◌, ap, append_assoc, arith}
use Rattle.std.specs.List.{list_all}
use Rattle.std.proofs.lemmas.Bool.Decides.{nat_tests}
use Rattle.bye_terms.specs.Characters.{is_digit, is_iri_char, is_name_part, is_name_start, is_scheme_char}
use Rattle.bye_terms.specs.Literals.{is_xsd_string}
use Rattle.bye_terms.specs.Names.{is_after_letter, is_iri, is_name}
use Rattle.bye_terms.specs.Reading.{◌>>=◌, after_at}
use Rattle.bye_terms.specs.Spellings.{suffix_text, term_text}
use Rattle.bye_terms.specs.Terms.{is_blank}
use Rattle.bye_terms.specs.Valid.{IsTagged, IsTerm}
use Rattle.bye_terms.specs.declared.term.Term.{Term}
use Rattle.bye_terms.specs.declared.term.Term.TheVariants.{Iri, Blank, Lit}
use Rattle.bye_terms.proofs.Tests.{both_parts, both, one_part}
use Rattle.bye_lex.proofs.Branches.{when, never, eqb_same}
use Rattle.bye_pattern.specs.Printed.{slot_text}
use Rattle.bye_pattern.specs.declared.slot.Slot.{Slot}
use Rattle.bye_pattern.specs.declared.slot.Slot.TheVariants.{Var, Const}
use Rattle.bye_grammar.specs.Valid.{IsSlot}
use Rattle.bye_tokens.specs.Fronts.{found, tag_front, variable_front, name_front, number_front, plain_front, sign_front}
use Rattle.bye_tokens.specs.Reading.{or_else, before}
use Rattle.bye_tokens.specs.declared.sign.Sign.TheVariants.{Carets}
use Rattle.bye_tokens.specs.declared.token.Token.TheVariants.{IriRef, Variable, Mark}
use Rattle.bye_tokens.proofs.Cuts.{before_is}
use Rattle.bye_tokens.proofs.Literals.{fails}
use Rattle.bye_tokens.proofs.Runs.{run_again}
use Rattle.bye_written.specs.Written.{suffix_tokens, term_tokens, slot_tokens}
use Rattle.bye_written.proofs.Joined.{tokens_in, found_next, Spells, Any, Ends, spells_before, joined, and_then, nothing, before_some}
use Rattle.bye_written.proofs.Signs.{carets}
use Rattle.bye_written.proofs.Strings.{NoQuote, string}
use Rattle.bye_written.proofs.Tags.{language_tag}

-- a variable ends before what is no part of its name
found_variable : (name : List ℕ) (d : ℕ) (rest : List ℕ) → is_name name ≡ true → is_name_part d ≡ false → found (63 ∷ (name ++ d ∷ rest)) ≡ Some (Variable name, d ∷ rest)
found_variable [] d rest valid e = absurd (no_name valid)
  where
    no_name : false ≡ true → ⊥
    no_name e = cc
found_variable (c ∷ cs) d rest valid e =
    let w = both_parts (is_name_start c) _ valid in
    let text = c ∷ (cs ++ d ∷ rest) in
    let named : name_front text ≡ Some (Variable (c ∷ cs), d ∷ rest) =
    when _ _ _ w.0 ∙ ap (λ r. Some (Variable (before text r), r)) (run_again is_name_part cs d rest w.1 e) ∙ ap (λ t. Some (Variable t, d ∷ rest)) (before_is text (c ∷ cs) (d ∷ rest) refl) in
    ap (λ o. or_else o (or_else (number_front (63 ∷ text)) (or_else (plain_front (63 ∷ text)) (sign_front (63 ∷ text))))) named

pub variable : (name : List ℕ) → is_name name ≡ true → Spells Ends (codes "?" ++ name) (Variable name ∷ [])
variable name valid = spells_before (λ total d rest e.
    found_next total (63 ∷ (name ++ d ∷ rest)) (d ∷ rest) (Variable name) refl (found_variable name d rest valid (fails is_name_part (codes " \n(),") refl d e)))

-- an absolute IRI has characters of IRIs
scheme_is : (c : ℕ) → is_scheme_char c ≡ true → is_iri_char c ≡ true
scheme_is c e = (λ i. above i && not (other 60 refl i || other 62 refl i || other 34 refl i || other 123 refl i || other 125 refl i || other 124 refl i || other 94 refl i || other 96 refl i || other 92 refl i))
  where
    above : nat_lt 32 c ≡ true
    above = grind (arith, nat_tests)

    other : (d : ℕ) → is_scheme_char d ≡ false → (c == d) ≡ false
    other d none = never is_scheme_char d c none e

after_letter_chars : (text : List ℕ) → is_after_letter text ≡ true → list_all is_iri_char text ≡ true
after_letter_chars [] e = refl
after_letter_chars (c ∷ cs) e =
    ⊎_elim
    (λ k. let w = both_parts (c == 58) _ k in both _ _ (ap is_iri_char (eqb_same c 58 w.0)) w.1)
    (λ k. let w = both_parts _ _ k in both _ _ (scheme_is c w.0) (after_letter_chars cs w.1))
    (one_part _ _ e)

iri_chars : (text : List ℕ) → is_iri text ≡ true → list_all is_iri_char text ≡ true
iri_chars [] e = refl
iri_chars (c ∷ cs) e = let w = both_parts _ _ e in both _ _ (scheme_is c (ap (λ b. b || is_digit c || c == 43 || c == 46 || c == 45) w.0)) (after_letter_chars cs w.1)

found_iri : (iri rest : List ℕ) → list_all is_iri_char iri ≡ true → found (60 ∷ (iri ++ 62 ∷ rest)) ≡ Some (IriRef iri, rest)
found_iri iri rest all =
    let inner = iri ++ 62 ∷ rest in
    let at = 60 ∷ inner in
    ap (λ t. or_else (after_at 62 t >>= (λ rest. Some (IriRef (before inner t), rest))) (or_else (tag_front at) (or_else (variable_front at) (or_else (number_front at) (or_else (plain_front at) (sign_front at)))))) (run_again is_iri_char iri 62 rest all refl)
    ∙ ap (λ t. Some (IriRef t, rest)) (before_is inner iri (62 ∷ rest) refl)

pub iri_reference : (iri : List ℕ) → is_iri iri ≡ true → Spells Any (codes "<" ++ iri ++ codes ">") (IriRef iri ∷ [])
iri_reference iri valid = record {
  read = λ total rest q.
      ap (λ t. tokens_in total (60 ∷ t)) (append_assoc iri (62 ∷ []) rest) ∙ found_next total (60 ∷ (iri ++ 62 ∷ rest)) rest (IriRef iri) refl (found_iri iri rest (iri_chars iri valid));
}

-- what follows a string
typed : (b : Bool) (datatype : List ℕ) → is_iri datatype ≡ true → Spells Ends (cond b [] (codes "^^<" ++ datatype ++ codes ">")) (cond b [] (Mark Carets ∷ IriRef datatype ∷ []))
typed true datatype valid = nothing
typed false datatype valid = and_then carets (before_some (iri_reference datatype valid))

suffix : (tag : Option (List ℕ)) (datatype : List ℕ) → IsTagged tag datatype → Spells Ends (suffix_text tag datatype) (suffix_tokens tag datatype)
suffix (Some tag) datatype valid = language_tag tag valid.0
suffix None datatype valid = typed (is_xsd_string datatype) datatype valid.0

ends_string : (rest : List ℕ) → Ends rest → NoQuote rest
ends_string [] q = q
ends_string (c ∷ cs) q = ap not (fails (λ c. c == 34) (codes " \n(),") refl c q)

typed_no_quote : (b : Bool) (datatype rest : List ℕ) → Ends rest → NoQuote (cond b [] (codes "^^<" ++ datatype ++ codes ">") ++ rest)
typed_no_quote true datatype rest q = ends_string rest q
typed_no_quote false datatype rest q = refl

suffix_no_quote : (tag : Option (List ℕ)) (datatype rest : List ℕ) → Ends rest → NoQuote (suffix_text tag datatype ++ rest)
suffix_no_quote (Some tag) datatype rest q = refl
suffix_no_quote None datatype rest q = typed_no_quote (is_xsd_string datatype) datatype rest q

-- terms and slots
pub term : (t : Term) → IsTerm t → is_blank t ≡ false → Spells Ends (term_text t) (term_tokens t)
term (Iri iri) valid named = before_some (iri_reference iri valid)
term (Blank label) valid named = absurd (no_blank named)
  where
    no_blank : true ≡ false → ⊥
    no_blank e = cc
term (Lit l) valid named = joined (string l.lexical) (suffix l.tag l.datatype valid) (suffix_no_quote l.tag l.datatype)

pub slot : (s : Slot) → IsSlot s → Spells Ends (slot_text s) (slot_tokens s)
slot (Var v) valid = variable v valid
slot (Const c) valid = term c valid.0 valid.1

-- What the machine of IRIs finds is what reading an IRI may answer.
use Rattle.std.proofs.Common.{◌≡◌, refl, ℕ, ◌+◌, true, List, [], ◌∷◌, ◌++◌, None, Result, length, map, ◌∙◌, ap}
use Rattle.std.specs.List.{AllByRecursion, list_all}
use Rattle.bye_terms.specs.Characters.{is_scheme_char, is_iri_char}
use Rattle.bye_terms.specs.Names.{is_after_letter, is_iri}
use Rattle.bye_lex.specs.Escapes.{Piece}
use Rattle.std.specs.Str.{encode_utf8_all}
use Rattle.bye_lex.specs.Iris.{IsIriPiece, IriToken, IriScheme, IriTail}
use Rattle.bye_lex.proofs.Branches.{and_true, or_first, or_second}
use Rattle.bye_lex.specs.IriSteps.{step, final}
use Rattle.bye_lex.specs.Scanning.{scan, Gives}
use Rattle.bye_lex.specs.Answers.{Reads}
use Rattle.bye_lex.specs.declared.iri.IriAt.TheVariants.{Start}
use Rattle.bye_lex.specs.declared.fault.LexErr.{LexErr}
use Rattle.bye_lex.specs.declared.style.Style.{Style}
use Rattle.bye_lex.proofs.IriMeaning.{Left}
use Rattle.bye_lex.proofs.IriExact.{iri_exact, can_start}
use Rattle.bye_lex.proofs.Answering.{answers}

pub iri_reads : (style : Style) (total from : ℕ) (text : List ℕ) (r : Result (List ℕ × ℕ) LexErr) → from + length (encode_utf8_all text) ≡ total
    → Gives r (scan (step style) final total Start None text) → Reads (IriToken style) text from r
iri_reads style total from text r long g = answers (Left style) (step style) final (iri_exact style) Start total from text r refl (can_start style) long g

-- what a token stands for is an absolute IRI
all_chars : (x : Style) (ps : List Piece) → AllByRecursion (IsIriPiece x) ps → list_all is_iri_char (map (λ p. p.char) ps) ≡ true
all_chars x [] each = refl
all_chars x (p ∷ ps) (is, each) = and_true _ _ is.allowed (all_chars x ps each)

tail_chars : (x : Style) (text value : List ℕ) → IriTail x text value → list_all is_iri_char value ≡ true
tail_chars x text value h = ap (λ v. list_all is_iri_char v) h.stands ∙ all_chars x h.pieces h.each

after_letter : (scheme value : List ℕ) → AllByRecursion (λ c. is_scheme_char c ≡ true) scheme → list_all is_iri_char value ≡ true → is_after_letter (scheme ++ 58 ∷ value) ≡ true
after_letter [] value each h = or_first _ _ h
after_letter (c ∷ cs) value (k, each) h = or_second _ _ (and_true _ _ k (after_letter cs value each h))

scheme_is : (x : Style) (text value : List ℕ) → IriScheme x text value → is_after_letter value ≡ true
scheme_is x text value h = ap is_after_letter h.stands ∙ after_letter h.scheme h.tail_value h.each (tail_chars x h.tail h.tail_value h.after)

pub token_is : (x : Style) (text value : List ℕ) → IriToken x text value → is_iri value ≡ true
token_is x text value h = ap is_iri h.after.stands ∙ and_true _ _ h.after.letter (scheme_is x h.after.rest h.after.rest_value h.after.after)

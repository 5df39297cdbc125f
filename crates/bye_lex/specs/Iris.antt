-- The token IRIREF with an absolute IRI (RDF 1.1 N-Triples, section 7; RFC 3986, section 3.1, for the scheme; SPARQL 1.1
-- Query, section 19.8, where it has no escapes).
use Rattle.std.specs.Prelude.{◌≡◌, ℕ, Bool, true, false, List, [], ◌∷◌, ◌++◌, ◌⊎◌, map}
use Rattle.std.specs.List.{flat_map, AllByRecursion}
use Rattle.bye_terms.specs.Characters.{is_letter, is_scheme_char, is_iri_char}
use Rattle.bye_lex.specs.Escapes.{Piece, IsRaw, IsEscape}
use Rattle.bye_lex.specs.declared.style.Style.{Style}
use Rattle.bye_lex.specs.declared.style.Style.TheVariants.{Triples, Tsv, Query}

-- whether the style has escapes of characters by their numbers
abbrev pub has_numbers : Style → Bool
has_numbers Triples = true
has_numbers Tsv = true
has_numbers Query = false

-- a character of an IRI: raw, or, where there are escapes, by one
pub record IsIriPiece (style : Style) (p : Piece) : Type 0 where
  pub spelled : IsRaw p ⊎ ((has_numbers style ≡ true) × (IsEscape p 117 4 ⊎ IsEscape p 85 8))
  pub allowed : is_iri_char p.char ≡ true

-- characters, and the closing bracket
pub record IriTail (style : Style) (text value : List ℕ) : Type 0 where
  pub pieces : List Piece
  pub each : AllByRecursion (IsIriPiece style) pieces
  pub spelled : text ≡ flat_map (λ p. p.text) pieces ++ 62 ∷ []
  pub stands : value ≡ map (λ p. p.char) pieces

-- the rest of a scheme, its colon, and the tail
pub record IriScheme (style : Style) (text value : List ℕ) : Type 0 where
  pub scheme : List ℕ
  pub each : AllByRecursion (λ c. is_scheme_char c ≡ true) scheme
  pub tail : List ℕ
  pub tail_value : List ℕ
  pub after : IriTail style tail tail_value
  pub spelled : text ≡ scheme ++ 58 ∷ tail
  pub stands : value ≡ scheme ++ 58 ∷ tail_value

-- the letter of a scheme, and what follows it
pub record IriLetter (style : Style) (text value : List ℕ) : Type 0 where
  pub first : ℕ
  pub letter : is_letter first ≡ true
  pub rest : List ℕ
  pub rest_value : List ℕ
  pub after : IriScheme style rest rest_value
  pub spelled : text ≡ first ∷ rest
  pub stands : value ≡ first ∷ rest_value

-- the text is an absolute IRI in its brackets, and stands for the value; its scheme is raw
pub record IriToken (style : Style) (text value : List ℕ) : Type 0 where
  pub rest : List ℕ
  pub after : IriLetter style rest value
  pub spelled : text ≡ 60 ∷ rest

-- The kinds of tokens (SPARQL 1.1 Query, section 19.8): each a relation between the texts of the kind and what they stand for.
use Rattle.std.specs.Prelude.{◌≡◌, ℕ, true, List, [], ◌∷◌, ◌++◌, ◌⊎◌}
use Rattle.std.specs.List.{list_all}
use Rattle.bye_terms.specs.Characters.{is_iri_char}
use Rattle.bye_terms.specs.Names.{is_name}
use Rattle.bye_lex.specs.Marks.{TagToken}
use Rattle.bye_lex.specs.Numbers.{is_number}
use Rattle.bye_lex.specs.Strings.{StringToken}
use Rattle.bye_lex.specs.declared.number.Number.{Number}
use Rattle.bye_lex.specs.declared.style.Style.TheVariants.{Query}
use Rattle.bye_tokens.specs.Classes.{is_mark}
use Rattle.bye_tokens.specs.Names.{PrefixedToken}
use Rattle.bye_tokens.specs.Signs.{SignToken}
use Rattle.bye_tokens.specs.Words.{WordToken}
use Rattle.bye_tokens.specs.declared.token.Token.{Token}
use Rattle.bye_tokens.specs.declared.token.Token.TheVariants.{IriRef, Prefixed, Variable, Quoted, Tagged, Numeral, Keyword, Mark}

-- a text that is in the one rule or in the other
abbrev pub or : {V : Type 0} → (List ℕ → V → Type 0) → (List ℕ → V → Type 0) → List ℕ → V → Type 0
or L M text value = L text value ⊎ M text value

-- a rule whose values are seen as others
abbrev pub seen : {V W : Type 0} → (V → W) → (List ℕ → V → Type 0) → List ℕ → W → Type 0
seen {V} g L text value = (v : V) × L text v × (value ≡ g v)

-- IRIREF: characters of an IRI between its brackets, without escapes; it may have no scheme
abbrev pub IriRefToken : List ℕ → List ℕ → Type 0
IriRefToken text value = (text ≡ 60 ∷ (value ++ 62 ∷ [])) × (list_all is_iri_char value ≡ true)

-- VAR1 or VAR2: a mark and a name
pub record VariableToken (text name : List ℕ) : Type 0 where
  pub mark : ℕ
  pub is_one : is_mark mark ≡ true
  pub spelled : text ≡ mark ∷ name
  pub is : is_name name ≡ true

-- INTEGER, DECIMAL or DOUBLE with an optional sign: the kind of number, and its spelling
abbrev pub NumberToken : List ℕ → Number × List ℕ → Type 0
NumberToken text value = (is_number value.0 text ≡ true) × (value.1 ≡ text)

-- a name with its prefix, or a word
abbrev pub PlainToken : List ℕ → Token → Type 0
PlainToken = or (seen (λ v. Prefixed v.0 v.1) PrefixedToken) (seen Keyword WordToken)

-- a token of any kind, with what it stands for
abbrev pub Lexeme : List ℕ → Token → Type 0
Lexeme =
    or (seen Quoted (StringToken Query))
    (or (seen IriRef IriRefToken)
    (or (seen Tagged TagToken)
    (or (seen Variable VariableToken)
    (or (seen (λ v. Numeral v.0 v.1) NumberToken)
    (or PlainToken
    (seen Mark SignToken))))))

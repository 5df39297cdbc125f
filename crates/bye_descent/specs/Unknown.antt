-- Prefixes that no declaration names (SPARQL 1.1 Query, section 4.1.1).
use Rattle.std.specs.Prelude.{◌≡◌, ℕ, Bool, true, false, ◌&&◌, ◌||◌, not, List, [], ◌∷◌, ◌++◌, Option, Some, None}
use Rattle.std.specs.Str.{bytes_eq}
use Rattle.bye_tokens.specs.declared.token.Placed.{Placed}
use Rattle.bye_tokens.specs.declared.token.Token.{Token}
use Rattle.bye_tokens.specs.declared.token.Token.TheVariants.{IriRef, Prefixed, Keyword}
use Rattle.bye_tokens.specs.declared.word.Word.TheVariants as words
use Rattle.bye_parts.specs.Readers.{to_end, left_of}
use Rattle.bye_grammar.specs.Fits.{Chars, prefix, rdf_type}
use Rattle.bye_grammar.specs.Laws.{FitsIri}
use Rattle.bye_grammar.specs.Reading.{read_document}
use Rattle.bye_descent.specs.Opening.{max_open}

-- the word PREFIX
abbrev pub is_prefix_word : Token → Bool
is_prefix_word (Keyword words.Prefix) = true
is_prefix_word _ = false

-- this name
abbrev pub is_name : Chars → Option Chars → Bool
is_name name None = false
is_name name (Some other) = bytes_eq other name

-- this prefix, which has no local part
abbrev pub is_prefix : Chars → Token → Bool
is_prefix name t = is_name name (prefix t)

-- an IRI reference
abbrev pub is_reference : Token → Bool
is_reference (IriRef text) = true
is_reference _ = false

-- an IRI reference stands at the front
abbrev pub begins_iri : List Placed → Bool
begins_iri [] = false
begins_iri (t ∷ ts) = is_reference t.token

-- this prefix and an IRI reference stand there
abbrev pub begins_prefix : Chars → List Placed → Bool
begins_prefix name [] = false
begins_prefix name (t ∷ ts) = is_prefix name t.token && begins_iri ts

-- the word PREFIX, this prefix and an IRI reference stand there
abbrev pub begins_declaration : Chars → List Placed → Bool
begins_declaration name [] = false
begins_declaration name (t ∷ ts) = is_prefix_word t.token && begins_prefix name ts

-- somewhere among the tokens the prefix is declared
abbrev pub is_declared : Chars → List Placed → Bool
is_declared name [] = false
is_declared name (t ∷ ts) = begins_declaration name (t ∷ ts) || is_declared name ts

-- the prefix of a prefixed name
abbrev pub prefix_of : Token → Option Chars
prefix_of (Prefixed name local) = Some name
prefix_of _ = None

-- that of the next token
abbrev pub next_prefix : List Placed → Option Chars
next_prefix [] = None
next_prefix (t ∷ ts) = prefix_of t.token

-- The next token is a prefixed name whose prefix is not declared among the tokens before it, and after those fits an IRI reference.
pub record UnknownPrefix (front left : List Placed) : Type 0 where
  pub name : Chars
  pub next : next_prefix left ≡ Some name
  pub undeclared : is_declared name front ≡ false
  pub fits : FitsIri front

-- an IRI reference that fits wherever any does
abbrev pub an_iri : ℕ → Placed
an_iri place = record { place = place; token = IriRef rdf_type }

-- whether there are none
abbrev pub are_none : List Placed → Bool
are_none [] = true
are_none (t ∷ ts) = false

-- whether the tokens are read, and none is left
abbrev pub leaves_none : List Placed → Bool
leaves_none ts = are_none (left_of (to_end (read_document max_open ts)))

-- the same where there is a prefix, and the tokens before it are read again, with an IRI reference after them
abbrev pub is_unknown : ℕ → List Placed → Option Chars → Bool
is_unknown place front None = false
is_unknown place front (Some name) = not (is_declared name front) && leaves_none (front ++ an_iri place ∷ [])

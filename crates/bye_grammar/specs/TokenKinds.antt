-- Kinds of tokens and sets of them, and what a token does to brackets (SPARQL 1.1 Query, section 19.8).
use Rattle.std.specs.Prelude.{ℕ, Bool, List, [], ◌∷◌, ◌++◌, map}
use Rattle.bye_tokens.specs.declared.token.Placed.{Placed}
use Rattle.bye_tokens.specs.declared.token.Token.{Token}
use Rattle.bye_tokens.specs.declared.token.Token.TheVariants as tokens
use Rattle.bye_tokens.specs.declared.word.Word.{Word}
use Rattle.bye_tokens.specs.declared.word.Word.TheVariants as words
use Rattle.bye_tokens.specs.declared.sign.Sign.{Sign}
use Rattle.bye_tokens.specs.declared.sign.Sign.TheVariants as signs
use Rattle.bye_tokens.specs.KindNumbers.{word_number, sign_number}
use Rattle.bye_parts.specs.Brackets.{Turn, turn_of}
use Rattle.bye_parts.specs.Sets.{has}

-- a token without what it stands for
pub data TokenKind : Type 0 where
  IriRef : TokenKind
  Prefixed : TokenKind
  Variable : TokenKind
  Quoted : TokenKind
  Tagged : TokenKind
  Numeral : TokenKind
  Bad : TokenKind
  Keyword : Word → TokenKind
  Mark : Sign → TokenKind

-- the kind of a token
abbrev pub kind_of : Token → TokenKind
kind_of (tokens.IriRef text) = IriRef
kind_of (tokens.Prefixed prefix local) = Prefixed
kind_of (tokens.Variable v) = Variable
kind_of (tokens.Quoted text) = Quoted
kind_of (tokens.Tagged tag) = Tagged
kind_of (tokens.Numeral number text) = Numeral
kind_of (tokens.Keyword word) = Keyword word
kind_of (tokens.Mark sign) = Mark sign
kind_of (tokens.Bad c) = Bad

-- a number for each kind, so that sets of kinds compare
abbrev pub number : TokenKind → ℕ
number IriRef = 0
number Prefixed = 1
number Variable = 2
number Quoted = 3
number Tagged = 4
number Numeral = 5
number Bad = 6
number (Keyword word) = word_number word
number (Mark sign) = sign_number sign

-- the numbers of the kinds
abbrev pub numbers : List TokenKind → List ℕ
numbers ks = map number ks

-- the number of a token's kind
abbrev pub kind : Placed → ℕ
kind t = number (kind_of t.token)

-- whether the token is of one of these kinds
abbrev pub of : List TokenKind → Placed → Bool
of ks t = has (numbers ks) (kind t)

-- this word
abbrev pub a_word : Word → List TokenKind
a_word word = Keyword word ∷ []

-- this sign
abbrev pub a_sign : Sign → List TokenKind
a_sign sign = Mark sign ∷ []

-- Iri
abbrev pub iris : List TokenKind
iris = IriRef ∷ Prefixed ∷ []

-- Var | Iri
abbrev pub subjects : List TokenKind
subjects = Variable ∷ iris

-- Var | Iri | 'a'
abbrev pub verbs : List TokenKind
verbs = Keyword words.A ∷ subjects

-- Number | TRUE | FALSE
abbrev pub bare_literals : List TokenKind
bare_literals = Numeral ∷ Keyword words.True ∷ Keyword words.False ∷ []

-- the objects of one token: Var | Iri | Number | TRUE | FALSE
abbrev pub short_objects : List TokenKind
short_objects = subjects ++ bare_literals

-- the constants of one token: Iri | Number | TRUE | FALSE
abbrev pub short_constants : List TokenKind
short_constants = iris ++ bare_literals

-- Tag | '^^'
abbrev pub suffixes : List TokenKind
suffixes = Tagged ∷ Mark signs.Carets ∷ []

-- ISIRI | ISURI | ISBLANK | ISLITERAL
abbrev pub kind_tests : List TokenKind
kind_tests = Keyword words.IsIri ∷ Keyword words.IsUri ∷ Keyword words.IsBlank ∷ Keyword words.IsLiteral ∷ []

-- the elements that are no block: OPTIONAL | FILTER
abbrev pub elements : List TokenKind
elements = Keyword words.Optional ∷ Keyword words.Filter ∷ []

-- `{` | `(`
abbrev pub opening : List TokenKind
opening = Mark signs.OpenGroup ∷ Mark signs.Open ∷ []

-- `}` | `)`
abbrev pub closing : List TokenKind
closing = Mark signs.CloseGroup ∷ Mark signs.Close ∷ []

-- whether a token opens a bracket or closes one
abbrev pub turn : Placed → Turn
turn = turn_of kind (numbers opening) (numbers closing)

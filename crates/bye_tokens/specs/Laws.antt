-- Laws of the tokens.
use Rattle.std.specs.Prelude.{◌≡◌, ℕ, List}
use Rattle.bye_tokens.specs.Fronts.{tokens_of}
use Rattle.bye_tokens.specs.Kinds.{Lexeme}
use Rattle.bye_tokens.specs.Splitting.{Splits}
use Rattle.bye_tokens.specs.declared.token.Placed.{Placed}
use Rattle.bye_tokens.specs.declared.token.Token.{Token}

-- a text stands for one token
abbrev pub OneToken : Type 0
OneToken = (text : List ℕ) (token other : Token) → Lexeme text token → Lexeme text other → token ≡ other

-- the rest of a document splits into the tokens that are read, and into no others
abbrev pub SplitsOneWay : Type 0
SplitsOneWay = (total : ℕ) (text : List ℕ) → Splits total text (tokens_of total text) × ((placed : List Placed) → Splits total text placed → placed ≡ tokens_of total text)

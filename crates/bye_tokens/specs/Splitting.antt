-- The tokens that a text splits into (SPARQL 1.1 Query, sections 19.4 and 19.8): spaces and comments may stand before and after
-- each, each is the longest that stands there, and where none does, one character is a bad token.
use Rattle.std.specs.Prelude.{◌≡◌, ℕ, Bool, true, false, cond, ◌==◌, List, [], ◌∷◌, ◌++◌, ◌⊎◌, length}
use Rattle.std.specs.Str.{encode_utf8_all}
use Rattle.bye_lex.specs.Languages.{Token as Longest, NoFront}
use Rattle.bye_lex.specs.Scanning.{place}
use Rattle.bye_tokens.specs.Classes.{is_space, is_line_end}
use Rattle.bye_tokens.specs.Kinds.{Lexeme}
use Rattle.bye_tokens.specs.declared.token.Placed.{Placed}
use Rattle.bye_tokens.specs.declared.token.Token.{Token}
use Rattle.bye_tokens.specs.declared.token.Token.TheVariants.{Bad}

-- what is left after spaces and comments, and whether a comment goes on; a comment begins with # and ends with its line
abbrev pub skip : Bool → List ℕ → List ℕ
skip comment [] = []
skip true (c ∷ cs) = cond (is_line_end c) (skip false cs) (skip true cs)
skip false (c ∷ cs) = cond (c == 35) (skip true cs) (cond (is_space c) (skip false cs) (c ∷ cs))

-- one character that begins no token
pub record BadToken (text own : List ℕ) (token : Token) : Type 0 where
  pub char : ℕ
  pub one : own ≡ char ∷ []
  pub is : token ≡ Bad char
  pub none : NoFront Lexeme text

-- the token at the front of the text, with what is left after it
pub record First (text own rest : List ℕ) (token : Token) : Type 0 where
  pub parts : text ≡ own ++ rest
  pub is : Longest Lexeme own rest token ⊎ BadToken text own token

-- The rest of a document of so many bytes splits into these tokens. A token's place is the number of bytes before it.
abbrev pub Splits : ℕ → List ℕ → List Placed → Type 0
Splits total text [] = skip false text ≡ []
Splits total text (p ∷ ps) = (own : List ℕ) × (rest : List ℕ) × First (skip false text) own rest p.token × (p.place ≡ place total (skip false text)) × Splits total rest ps

-- the whole document splits into these
abbrev pub AreTokens : List ℕ → List Placed → Type 0
AreTokens text placed = Splits (length (encode_utf8_all text)) text placed

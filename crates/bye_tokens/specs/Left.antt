-- The tokens that are left of a text.
use Rattle.std.specs.Prelude.{ℕ, List, [], ◌∷◌, Option, Some, None}
use Rattle.bye_tokens.specs.declared.token.Placed.{Placed}
use Rattle.bye_tokens.specs.declared.token.Token.{Token}

-- the tokens that are left, and the place of the end, which is the number of bytes of the whole text
pub record TokensLeft : Type 0 where
  pub placed : List Placed
  pub end : ℕ

-- the next token and those after it; none where there is no next
abbrev pub with_next : Option Placed → List Placed → List Placed
with_next None later = []
with_next (Some next) later = next ∷ later

-- the first of the tokens
abbrev pub first_in : List Placed → Option Token
first_in [] = None
first_in (p ∷ ps) = Some p.token

-- the next token
abbrev pub next_token : TokensLeft → Option Token
next_token left = first_in left.placed

-- the place of the first of them, or else of the end
abbrev pub first_place : List Placed → ℕ → ℕ
first_place [] end = end
first_place (p ∷ ps) end = p.place

-- its place, or that of the end
abbrev pub next_place : TokensLeft → ℕ
next_place left = first_place left.placed left.end

-- Tokens of which reading ends early.
use Rattle.std.specs.Prelude.{ℕ, Bool, true, false, cond, nat_lt, List, [], ◌∷◌, Option, Some, None}
use Rattle.bye_tokens.specs.declared.token.Placed.{Placed}

-- whether a place is before the limit, where there is one
abbrev pub is_before : Option ℕ → ℕ → Bool
is_before None place = true
is_before (Some limit) place = nat_lt place limit

-- the tokens up to the first that is not before the limit
abbrev pub up_to : Option ℕ → List Placed → List Placed
up_to limit [] = []
up_to limit (t ∷ ts) = cond (is_before limit t.place) (t ∷ up_to limit ts) []

-- whether there is a next token, and it is before the limit
abbrev pub goes_on : Option ℕ → List Placed → Bool
goes_on limit [] = false
goes_on limit (t ∷ ts) = is_before limit t.place

-- the one token that there may be
abbrev pub listed : Option Placed → List Placed
listed None = []
listed (Some t) = t ∷ []

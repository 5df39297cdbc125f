-- The tokens that are left.
use Rattle.std.specs.Prelude.{ℕ, List, [], ◌∷◌, Option, Some, None}
use Rattle.bye_tokens.specs.declared.token.Placed.{Placed}

-- those after the next one
abbrev pub after : {T : Type 0} → List T → List T
after [] = []
after (t ∷ ts) = ts

-- the place of the next one, where there is one
abbrev pub place_in : List Placed → Option ℕ
place_in [] = None
place_in (t ∷ ts) = Some t.place

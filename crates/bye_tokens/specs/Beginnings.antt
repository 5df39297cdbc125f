-- The characters that strings and tags begin with.
use Rattle.std.specs.Prelude.{ℕ, Bool, false, ◌==◌, ◌||◌, List, [], ◌∷◌}

-- a quote stands at the front
abbrev pub begins_string : List ℕ → Bool
begins_string [] = false
begins_string (c ∷ cs) = c == 34 || c == 39

-- the mark of a tag stands there
abbrev pub begins_tag : List ℕ → Bool
begins_tag [] = false
begins_tag (c ∷ cs) = c == 64

-- The machine of names of variables.
use Rattle.std.specs.Prelude.{ℕ, cond, List, [], ◌∷◌, ◌++◌, Option, Some, None}
use Rattle.bye_terms.specs.Characters.{is_name_start, is_name_part}
use Rattle.bye_lex.specs.declared.name.NameAt.{NameAt}
use Rattle.bye_lex.specs.declared.name.NameAt.TheVariants.{Start, In}

-- one character more
abbrev pub step : NameAt → ℕ → Option NameAt
step Start c = cond (is_name_start c) (Some (In (c ∷ []))) None
step (In name) c = cond (is_name_part c) (Some (In (name ++ c ∷ []))) None

-- what was read, where it is a token
abbrev pub final : NameAt → Option (List ℕ)
final Start = None
final (In name) = Some name

-- The machine of language tags.
use Rattle.std.specs.Prelude.{ℕ, cond, ◌==◌, List, [], ◌∷◌, ◌++◌, Option, Some, None}
use Rattle.bye_terms.specs.Characters.{is_letter, is_letter_or_digit}
use Rattle.bye_lex.specs.declared.tag.TagAt.{TagAt}
use Rattle.bye_lex.specs.declared.tag.TagAt.TheVariants.{Start, Sign, Letters, Hyphen, Subtag}

-- one character more
abbrev pub step : TagAt → ℕ → Option TagAt
step Start c = cond (c == 64) (Some Sign) None
step Sign c = cond (is_letter c) (Some (Letters (c ∷ []))) None
step (Letters tag) c = cond (is_letter c) (Some (Letters (tag ++ c ∷ []))) (cond (c == 45) (Some (Hyphen tag)) None)
step (Hyphen tag) c = cond (is_letter_or_digit c) (Some (Subtag ((tag ++ 45 ∷ []) ++ c ∷ []))) None
step (Subtag tag) c = cond (is_letter_or_digit c) (Some (Subtag (tag ++ c ∷ []))) (cond (c == 45) (Some (Hyphen tag)) None)

-- what was read, where it is a token
abbrev pub final : TagAt → Option (List ℕ)
final Start = None
final Sign = None
final (Letters tag) = Some tag
final (Hyphen tag) = None
final (Subtag tag) = Some tag

-- the longest tag at the front of what was read
abbrev pub longest : TagAt → Option (List ℕ)
longest Start = None
longest Sign = None
longest (Letters tag) = Some tag
longest (Hyphen tag) = Some tag
longest (Subtag tag) = Some tag

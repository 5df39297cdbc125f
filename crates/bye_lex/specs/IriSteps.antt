-- The machine of IRIs.
use Rattle.std.specs.Prelude.{ℕ, cond, ◌&&◌, ◌==◌, List, [], ◌∷◌, ◌++◌, Option, Some, None, option_map}
use Rattle.bye_terms.specs.Characters.{is_letter, is_scheme_char, is_iri_char}
use Rattle.bye_lex.specs.EscapeSteps as escape
use Rattle.bye_lex.specs.Iris.{has_numbers}
use Rattle.bye_lex.specs.declared.escape.Home.TheVariants as homes
use Rattle.bye_lex.specs.declared.escape.EscapeStep.{EscapeStep}
use Rattle.bye_lex.specs.declared.escape.EscapeStep.TheVariants.{Within, Whole}
use Rattle.bye_lex.specs.declared.iri.IriAt.{IriAt}
use Rattle.bye_lex.specs.declared.iri.IriAt.TheVariants.{Start, Opened, Scheme, Body, Backslash, Escape, Done}
use Rattle.bye_lex.specs.declared.style.Style.{Style}

-- after a digit of an escape
abbrev pub after_escape : List ℕ → EscapeStep → IriAt
after_escape text (Within e) = Escape e text
after_escape text (Whole c) = Body (text ++ c ∷ [])

-- one character more
abbrev pub step : Style → IriAt → ℕ → Option IriAt
step style Start c = cond (c == 60) (Some Opened) None
step style Opened c = cond (is_letter c) (Some (Scheme (c ∷ []))) None
step style (Scheme text) c = cond (c == 58) (Some (Body (text ++ c ∷ []))) (cond (is_scheme_char c) (Some (Scheme (text ++ c ∷ []))) None)
step style (Body text) c = cond (c == 62) (Some (Done text)) (cond (c == 92 && has_numbers style) (Some (Backslash text)) (cond (is_iri_char c) (Some (Body (text ++ c ∷ []))) None))
step style (Backslash text) c = option_map (λ e. Escape e text) (escape.begin c)
step style (Escape e text) c = option_map (after_escape text) (escape.step homes.Iri e c)
step style (Done text) c = None

-- what was read, where it is a token
abbrev pub final : IriAt → Option (List ℕ)
final Start = None
final Opened = None
final (Scheme text) = None
final (Body text) = None
final (Backslash text) = None
final (Escape e text) = None
final (Done text) = Some text

-- The machine of strings.
use Rattle.std.specs.Prelude.{ℕ, Bool, cond, ◌&&◌, ◌||◌, ◌==◌, List, [], ◌∷◌, ◌++◌, Option, Some, None, option_map}
use Rattle.bye_lex.specs.EscapeSteps as escape
use Rattle.bye_lex.specs.Iris.{has_numbers}
use Rattle.bye_lex.specs.Strings.{mark_of, has_quoting, may_stand, named}
use Rattle.bye_lex.specs.declared.escape.Home.TheVariants as homes
use Rattle.bye_lex.specs.declared.escape.EscapeStep.{EscapeStep}
use Rattle.bye_lex.specs.declared.escape.EscapeStep.TheVariants.{Within, Whole}
use Rattle.bye_lex.specs.declared.style.Style.{Style}
use Rattle.bye_lex.specs.declared.style.Style.TheVariants.{Triples, Tsv, Query}
use Rattle.bye_lex.specs.declared.quoting.Quote.{Quote}
use Rattle.bye_lex.specs.declared.quoting.Quote.TheVariants.{Double, Single}
use Rattle.bye_lex.specs.declared.quoting.Quoting.{Quoting}
use Rattle.bye_lex.specs.declared.quoting.Quoting.TheVariants.{Short, Long}
use Rattle.bye_lex.specs.declared.string.StringAt.{StringAt}
use Rattle.bye_lex.specs.declared.string.StringAt.TheVariants.{Start, Opened, Empty, In, Backslash, Escape, OneQuote, TwoQuotes, Done}

-- after the first quote
abbrev pub opened : Style → Quote → StringAt
opened Triples quote = In (Short quote) []
opened Tsv quote = In (Short quote) []
opened Query quote = Opened quote

-- the character stands raw, or begins an escape
abbrev pub takes : Style → Quoting → ℕ → Bool
takes style k c = c == 92 || may_stand style k c

-- after a character that is not the quote
abbrev pub inside : Style → Quoting → List ℕ → ℕ → Option StringAt
inside style k out c = cond (c == 92) (Some (Backslash k out)) (cond (may_stand style k c) (Some (In k (out ++ c ∷ []))) None)

abbrev pub after_backslash : Style → Quoting → List ℕ → ℕ → Option ℕ → Option StringAt
after_backslash style k out c None = cond (has_numbers style) (option_map (λ e. Escape k e out) (escape.begin c)) None
after_backslash style k out c (Some d) = Some (In k (out ++ d ∷ []))

-- after a digit of an escape
abbrev pub after_escape : Quoting → List ℕ → EscapeStep → StringAt
after_escape k out (Within e) = Escape k e out
after_escape k out (Whole c) = In k (out ++ c ∷ [])

-- one character more
abbrev pub step : Style → StringAt → ℕ → Option StringAt
step style Start c = cond (c == 34) (Some (opened style Double)) (cond (c == 39 && has_quoting style (Short Single)) (Some (opened style Single)) None)
step style (Opened q) c = cond (c == mark_of q) (Some (Empty q)) (inside style (Short q) [] c)
step style (Empty q) c = cond (c == mark_of q) (Some (In (Long q) [])) None
step style (In (Short q) out) c = cond (c == mark_of q) (Some (Done out)) (inside style (Short q) out c)
step style (In (Long q) out) c = cond (c == mark_of q) (Some (OneQuote q out)) (inside style (Long q) out c)
step style (Backslash k out) c = after_backslash style k out c (named c)
step style (Escape k e out) c = option_map (after_escape k out) (escape.step homes.Text e c)
step style (OneQuote q out) c = cond (c == mark_of q) (Some (TwoQuotes q out)) (inside style (Long q) (out ++ mark_of q ∷ []) c)
step style (TwoQuotes q out) c = cond (c == mark_of q) (Some (Done out)) (inside style (Long q) (out ++ mark_of q ∷ mark_of q ∷ []) c)
step style (Done out) c = None

-- what was read, where it is a token
abbrev pub final : StringAt → Option (List ℕ)
final Start = None
final (Opened q) = None
final (Empty q) = Some []
final (In k out) = None
final (Backslash k out) = None
final (Escape k e out) = None
final (OneQuote q out) = None
final (TwoQuotes q out) = None
final (Done out) = Some out

-- the empty string, which two quotes are before a third makes them the beginning of a long one
abbrev pub empty_before : Quoting → Option (List ℕ)
empty_before (Short q) = None
empty_before (Long q) = Some []

-- the longest string at the front of what was read
abbrev pub longest : StringAt → Option (List ℕ)
longest Start = None
longest (Opened q) = None
longest (Empty q) = Some []
longest (In k out) = empty_before k
longest (Backslash k out) = empty_before k
longest (Escape k e out) = empty_before k
longest (OneQuote q out) = Some []
longest (TwoQuotes q out) = Some []
longest (Done out) = Some out

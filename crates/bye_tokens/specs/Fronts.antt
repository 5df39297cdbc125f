-- The token at the front of a text, as a function: what is read of each kind, and of all of them.
use Rattle.std.specs.Prelude.{ℕ, false, cond, ◌==◌, ◌&&◌, zero, suc, List, [], ◌∷◌, length, Option, Some, None, option_map}
use Rattle.bye_terms.specs.Characters.{is_iri_char, is_name_start, is_name_part}
use Rattle.bye_terms.specs.Reading.{◌>>=◌, after_at}
use Rattle.bye_lex.specs.NumberSteps as number
use Rattle.bye_lex.specs.Scanning.{place}
use Rattle.bye_lex.specs.StringSteps as string
use Rattle.bye_lex.specs.TagSteps as tag
use Rattle.bye_lex.specs.declared.number.Number.{Number}
use Rattle.bye_lex.specs.declared.number.NumberAt.TheVariants as numbers
use Rattle.bye_lex.specs.declared.string.StringAt.TheVariants as strings
use Rattle.bye_lex.specs.declared.style.Style.TheVariants.{Query}
use Rattle.bye_lex.specs.declared.tag.TagAt.TheVariants as tags
use Rattle.bye_tokens.specs.Classes.{is_mark}
use Rattle.bye_tokens.specs.Names.{unescaped}
use Rattle.bye_tokens.specs.NameSteps as name
use Rattle.bye_tokens.specs.Reading.{or_else, longest, before, after_all, cut_at}
use Rattle.bye_tokens.specs.Splitting.{skip}
use Rattle.bye_tokens.specs.Words.{word_of}
use Rattle.bye_tokens.specs.declared.name.Plain.{Plain}
use Rattle.bye_tokens.specs.declared.name.Plain.TheVariants.{Word, Prefixed as Name}
use Rattle.bye_tokens.specs.declared.name.PlainAt.TheVariants as names
use Rattle.bye_tokens.specs.declared.sign.Sign.{Sign}
use Rattle.bye_tokens.specs.declared.sign.Sign.TheVariants.{OpenGroup, CloseGroup, Open, Close, Dot, Semicolon, Comma, Carets, And, Or, Bang, Star, BlankMark, OpenSquare, CloseSquare, Caret, Bar, Slash, Plus, Dash, Question, Equal, Differs, Less, Greater, AtMost, AtLeast}
use Rattle.bye_tokens.specs.declared.token.Placed.{Placed}
use Rattle.bye_tokens.specs.declared.token.Token.{Token}
use Rattle.bye_tokens.specs.declared.token.Token.TheVariants.{IriRef, Prefixed, Variable, Quoted, Tagged, Numeral, Keyword, Mark, Bad}

-- a string
abbrev pub string_front : List ℕ → Option (Token × List ℕ)
string_front text = option_map (λ r. (Quoted r.0, r.1)) (longest (string.step Query) string.final strings.Start None text)

-- an IRI reference
abbrev pub iri_front : List ℕ → Option (Token × List ℕ)
iri_front text = do
  inner ← after_at 60 text
  rest ← after_at 62 (after_all is_iri_char inner)
  Some (IriRef (before inner (after_all is_iri_char inner)), rest)

-- a language tag
abbrev pub tag_front : List ℕ → Option (Token × List ℕ)
tag_front text = option_map (λ r. (Tagged r.0, r.1)) (longest tag.step tag.final tags.Start None text)

-- a variable, after its mark
abbrev pub name_front : List ℕ → Option (Token × List ℕ)
name_front [] = None
name_front (c ∷ cs) = cond (is_name_start c) (Some (Variable (before (c ∷ cs) (after_all is_name_part cs)), after_all is_name_part cs)) None

-- a variable
abbrev pub variable_front : List ℕ → Option (Token × List ℕ)
variable_front [] = None
variable_front (c ∷ cs) = cond (is_mark c) (name_front cs) None

-- a number with what is left, where the machine found its kind
abbrev pub number_of : List ℕ → Number × List ℕ → Token × List ℕ
number_of text r = (Numeral r.0 (before text r.1), r.1)

-- the number at the front
abbrev pub number_front : List ℕ → Option (Token × List ℕ)
number_front text = option_map (number_of text) (longest number.step number.form numbers.Start None text)

-- a prefixed name, by its text
abbrev pub prefixed_of : List ℕ → Token
prefixed_of text = Prefixed (cut_at (λ c. c == 58) text).0 (unescaped (cut_at (λ c. c == 58) text).1)

-- a prefixed name or a word, by its text
abbrev pub plain_token : Plain → List ℕ → Token
plain_token Name text = prefixed_of text
plain_token Word text = Keyword (word_of text)

-- the same with what is left, where the machine found its kind
abbrev pub plain_of : List ℕ → Plain × List ℕ → Token × List ℕ
plain_of text r = (plain_token r.0 (before text r.1), r.1)

-- the prefixed name or the word at the front
abbrev pub plain_front : List ℕ → Option (Token × List ℕ)
plain_front text = option_map (plain_of text) (longest name.step name.form names.Start None text)

-- a sign of one character
abbrev pub single : ℕ → Option Sign
single c =
    cond (c == 123) (Some OpenGroup) (
    cond (c == 125) (Some CloseGroup) (
    cond (c == 40) (Some Open) (
    cond (c == 41) (Some Close) (
    cond (c == 46) (Some Dot) (
    cond (c == 59) (Some Semicolon) (
    cond (c == 44) (Some Comma) (
    cond (c == 33) (Some Bang) (
    cond (c == 42) (Some Star) (
    cond (c == 91) (Some OpenSquare) (
    cond (c == 93) (Some CloseSquare) (
    cond (c == 94) (Some Caret) (
    cond (c == 124) (Some Bar) (
    cond (c == 47) (Some Slash) (
    cond (c == 43) (Some Plus) (
    cond (c == 45) (Some Dash) (
    cond (c == 63) (Some Question) (
    cond (c == 61) (Some Equal) (
    cond (c == 60) (Some Less) (
    cond (c == 62) (Some Greater) None)))))))))))))))))))

-- a sign of two
abbrev pub double : ℕ → ℕ → Option Sign
double c d =
    cond (c == 94 && d == 94) (Some Carets) (
    cond (c == 38 && d == 38) (Some And) (
    cond (c == 124 && d == 124) (Some Or) (
    cond (c == 95 && d == 58) (Some BlankMark) (
    cond (c == 33 && d == 61) (Some Differs) (
    cond (c == 60 && d == 61) (Some AtMost) (
    cond (c == 62 && d == 61) (Some AtLeast) None))))))

-- a sign of one character, and what is left
abbrev pub single_front : ℕ → List ℕ → Option (Token × List ℕ)
single_front c rest = option_map (λ sign. (Mark sign, rest)) (single c)

-- a sign
abbrev pub sign_front : List ℕ → Option (Token × List ℕ)
sign_front [] = None
sign_front (c ∷ []) = single_front c []
sign_front (c ∷ d ∷ rest) = or_else (option_map (λ sign. (Mark sign, rest)) (double c d)) (single_front c (d ∷ rest))

-- a token of any kind
abbrev pub found : List ℕ → Option (Token × List ℕ)
found text =
    or_else (string_front text)
    (or_else (iri_front text)
    (or_else (tag_front text)
    (or_else (variable_front text)
    (or_else (number_front text)
    (or_else (plain_front text)
    (sign_front text))))))

-- a token, or a bad one of the character that stands there
abbrev pub found_or_bad : ℕ → List ℕ → Option (Token × List ℕ) → Token × List ℕ
found_or_bad c rest None = (Bad c, rest)
found_or_bad c rest (Some r) = r

-- the first token of the rest of a document of so many bytes, with its place, and what is left after it
abbrev pub first_of : ℕ → ℕ → List ℕ → Placed × List ℕ
first_of total c cs = (record { place = place total (c ∷ cs); token = (found_or_bad c cs (found (c ∷ cs))).0 }, (found_or_bad c cs (found (c ∷ cs))).1)

-- where neither a space nor a comment stands at the front: the first token, and what comes of what is left
abbrev pub with_first : ℕ → (List ℕ → List Placed) → List ℕ → List Placed
with_first total go [] = []
with_first total go (c ∷ cs) = (first_of total c cs).0 ∷ go (first_of total c cs).1

-- the tokens of the rest of a document of so many bytes, where they are no more than so many
abbrev pub tokens_within : ℕ → ℕ → List ℕ → List Placed
tokens_within zero total text = []
tokens_within (suc n) total text = with_first total (tokens_within n total) (skip false text)

-- the tokens of the rest of a document of so many bytes
abbrev pub tokens_of : ℕ → List ℕ → List Placed
tokens_of total text = tokens_within (length text) total text

-- The machines of words and of fields.
use Rattle.std.specs.Prelude.{ℕ, Bool, true, false, cond, ◌==◌, ◌||◌, List, [], ◌∷◌, ◌++◌, Option, Some, None, option_map, option_and_then}
use Rattle.bye_terms.specs.Literals.{is_lang_string}
use Rattle.bye_terms.specs.declared.term.Term.{Term}
use Rattle.bye_terms.specs.declared.term.Term.TheVariants as terms
use Rattle.bye_lex.specs.Embedding.{in_open}
use Rattle.bye_lex.specs.IriSteps as iri
use Rattle.bye_lex.specs.LabelSteps as label
use Rattle.bye_lex.specs.NumberSteps as number
use Rattle.bye_lex.specs.StringSteps as string
use Rattle.bye_lex.specs.TagSteps as tag
use Rattle.bye_lex.specs.declared.iri.IriAt.{IriAt}
use Rattle.bye_lex.specs.declared.iri.IriAt.TheVariants as iris
use Rattle.bye_lex.specs.declared.label.LabelAt.TheVariants as labels
use Rattle.bye_lex.specs.declared.number.NumberAt.{NumberAt}
use Rattle.bye_lex.specs.declared.number.NumberAt.TheVariants as numbers
use Rattle.bye_lex.specs.declared.string.StringAt.{StringAt}
use Rattle.bye_lex.specs.declared.string.StringAt.TheVariants as strings
use Rattle.bye_lex.specs.declared.style.Style.TheVariants.{Tsv}
use Rattle.bye_lex.specs.declared.tag.TagAt.TheVariants as tags
use Rattle.bye_tsv.specs.Fields.{string_of, tagged_of, typed_of, boolean_of}
use Rattle.bye_tsv.specs.Numbers.{number_of}
use Rattle.bye_tsv.specs.declared.field.FieldAt.{FieldAt}
use Rattle.bye_tsv.specs.declared.field.FieldAt.TheVariants.{Empty, Iri, Label, String, Tag, Caret, Datatype, Number, Word}
use Rattle.bye_tsv.specs.declared.word.WordAt.{WordAt}
use Rattle.bye_tsv.specs.declared.word.WordAt.TheVariants.{T, Tr, Tru, True, F, Fa, Fal, Fals, False}

-- one character more of a word
abbrev pub word_step : WordAt → ℕ → Option WordAt
word_step T c = cond (c == 114) (Some Tr) None
word_step Tr c = cond (c == 117) (Some Tru) None
word_step Tru c = cond (c == 101) (Some True) None
word_step True c = None
word_step F c = cond (c == 97) (Some Fa) None
word_step Fa c = cond (c == 108) (Some Fal) None
word_step Fal c = cond (c == 115) (Some Fals) None
word_step Fals c = cond (c == 101) (Some False) None
word_step False c = None

-- the value of what was read, where it is a word
abbrev pub word_value : WordAt → Option Bool
word_value T = None
word_value Tr = None
word_value Tru = None
word_value True = Some true
word_value F = None
word_value Fa = None
word_value Fal = None
word_value Fals = None
word_value False = Some false

-- one character more of each kind of term
abbrev pub in_iri : IriAt → ℕ → Option FieldAt
in_iri at c = option_map Iri (iri.step Tsv at c)

abbrev pub in_number : NumberAt → List ℕ → ℕ → Option FieldAt
in_number at text c = option_map (λ n. Number n (text ++ c ∷ [])) (number.step at c)

-- after a string
abbrev pub after_string : List ℕ → ℕ → Option FieldAt
after_string lexical c = cond (c == 94) (Some (Caret lexical)) (option_map (Tag lexical) (tag.step tags.Start c))

-- after a string that is whole, where it does not go on
abbrev pub in_string : StringAt → ℕ → Option FieldAt
in_string at c = in_open (string.step Tsv) string.final String after_string at c

-- a datatype that is read to its end is not rdf:langString
abbrev pub datatype_at : List ℕ → IriAt → Option (List ℕ) → Option FieldAt
datatype_at lexical at None = Some (Datatype lexical at)
datatype_at lexical at (Some datatype) = cond (is_lang_string datatype) None (Some (Datatype lexical at))

abbrev pub in_datatype : List ℕ → IriAt → ℕ → Option FieldAt
in_datatype lexical at c = option_and_then (λ n. datatype_at lexical n (iri.final n)) (iri.step Tsv at c)

-- the first character of a field
abbrev pub begin : ℕ → Option FieldAt
begin c =
    cond (c == 60) (Some (Iri iris.Opened)) (cond (c == 95) (Some (Label labels.Underscore)) (cond (c == 34 || c == 39) (in_string strings.Start c)
    (cond (c == 116) (Some (Word T)) (cond (c == 102) (Some (Word F)) (in_number numbers.Start [] c)))))

-- one character more of a field
abbrev pub step : FieldAt → ℕ → Option FieldAt
step Empty c = begin c
step (Iri at) c = in_iri at c
step (Label at) c = option_map Label (label.step at c)
step (String at) c = in_string at c
step (Tag lexical at) c = option_map (Tag lexical) (tag.step at c)
step (Caret lexical) c = cond (c == 94) (Some (Datatype lexical iris.Start)) None
step (Datatype lexical at) c = in_datatype lexical at c
step (Number at text) c = in_number at text c
step (Word at) c = option_map Word (word_step at c)

-- a datatype that is whole
abbrev pub typed : List ℕ → List ℕ → Option (Option Term)
typed lexical datatype = cond (is_lang_string datatype) None (Some (Some (typed_of lexical datatype)))

-- what stands in the cell, where the field ends there
abbrev pub final : FieldAt → Option (Option Term)
final Empty = Some None
final (Iri at) = option_map (λ v. Some (terms.Iri v)) (iri.final at)
final (Label at) = option_map (λ v. Some (terms.Blank v)) (label.final at)
final (String at) = option_map (λ v. Some (string_of v)) (string.final at)
final (Tag lexical at) = option_map (λ v. Some (tagged_of lexical v)) (tag.final at)
final (Caret lexical) = None
final (Datatype lexical at) = option_and_then (typed lexical) (iri.final at)
final (Number at text) = option_map (λ kind. Some (number_of kind text)) (number.form at)
final (Word at) = option_map (λ value. Some (boolean_of value)) (word_value at)

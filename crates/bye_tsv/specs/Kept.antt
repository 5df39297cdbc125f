-- How much of the line that is not ended a reader keeps besides the rows that are complete, in bytes of UTF-8: the texts that it
-- read of the line, without the marks around them.
use Rattle.std.specs.Prelude.{ℕ, ◌+◌, Bool, cond, ◌==◌, ◌||◌, List, [], ◌∷◌, length, Option, Some, None}
use Rattle.std.specs.List.{list_any, sum_by}
use Rattle.std.specs.Str.{bytes_eq}
use Rattle.bye_terms.specs.Literals.{is_xsd_string}
use Rattle.bye_terms.specs.declared.term.Term.{Term}
use Rattle.bye_terms.specs.declared.term.Term.TheVariants as terms
use Rattle.bye_lex.specs.Kept.{size, iri_kept, label_kept, name_kept, string_kept, tag_kept}
use Rattle.bye_table.specs.Mappings.{Name, Pairs}
use Rattle.bye_tsv.specs.DocSteps.{DocAt}
use Rattle.bye_tsv.specs.Fields.{xsd_boolean}
use Rattle.bye_tsv.specs.Numbers.{datatype_of}
use Rattle.bye_tsv.specs.Reading.{ReadingAt}
use Rattle.bye_tsv.specs.declared.field.FieldAt.{FieldAt}
use Rattle.bye_tsv.specs.declared.field.FieldAt.TheVariants as fields
use Rattle.bye_lex.specs.declared.number.Number.TheVariants.{Integer, Decimal, Double}
use Rattle.bye_tsv.specs.declared.pieces.State.{State}
use Rattle.bye_tsv.specs.declared.pieces.State.TheVariants as states
use Rattle.bye_tsv.specs.declared.place.Place.{Place}
use Rattle.bye_tsv.specs.declared.place.Place.TheVariants as places
use Rattle.bye_tsv.specs.declared.word.WordAt.{WordAt}
use Rattle.bye_tsv.specs.declared.word.WordAt.TheVariants.{T, Tr, Tru, True, F, Fa, Fal, Fals, False}

-- the datatypes that the reader adds where the line does not spell them: of strings, of numbers and of booleans
abbrev pub is_added : List ℕ → Bool
is_added datatype =
    is_xsd_string datatype || (bytes_eq datatype (datatype_of Integer) || (bytes_eq datatype (datatype_of Decimal)
    || (bytes_eq datatype (datatype_of Double) || bytes_eq datatype xsd_boolean)))

-- what stands after a string: its tag, or else its datatype; a datatype of those counts as nothing, also where the line spells it,
-- and so does rdf:langString, which comes with a tag
abbrev pub suffix_kept : Option (List ℕ) → List ℕ → ℕ
suffix_kept (Some tag) datatype = size tag
suffix_kept None datatype = cond (is_added datatype) 0 (size datatype)

-- a term: the text of an IRI, a label, or a lexical form and what stands after it
abbrev pub term_kept : Term → ℕ
term_kept (terms.Iri text) = size text
term_kept (terms.Blank label) = size label
term_kept (terms.Lit literal) = size literal.lexical + suffix_kept literal.tag literal.datatype

-- the terms of the cells that are complete; the names of their variables do not stand in the line
abbrev pub row_kept : Pairs → ℕ
row_kept row = sum_by (λ pair. term_kept pair.1) row

abbrev pub names_kept : List Name → ℕ
names_kept names = sum_by size names

-- the letters of a word
abbrev pub word_kept : WordAt → ℕ
word_kept T = 1
word_kept Tr = 2
word_kept Tru = 3
word_kept True = 4
word_kept F = 1
word_kept Fa = 2
word_kept Fal = 3
word_kept Fals = 4
word_kept False = 5

-- the present field
abbrev pub field_kept : FieldAt → ℕ
field_kept fields.Empty = 0
field_kept (fields.Iri at) = iri_kept at
field_kept (fields.Label at) = label_kept at
field_kept (fields.String at) = string_kept at
field_kept (fields.Tag lexical at) = size lexical + tag_kept at
field_kept (fields.Caret lexical) = size lexical
field_kept (fields.Datatype lexical at) = size lexical + iri_kept at
field_kept (fields.Number at text) = size text
field_kept (fields.Word at) = word_kept at

-- the present name or field; the names before it, these, count while the header's line is not ended
abbrev pub place_kept : List Name → Place → ℕ
place_kept names places.Start = names_kept names
place_kept names places.Mark = names_kept names
place_kept names (places.Name at) = names_kept names + name_kept at
place_kept names places.HeaderReturn = names_kept names
place_kept names places.Begin = 0
place_kept names (places.Field at) = field_kept at
place_kept names places.Return = 0

abbrev pub doc_kept : DocAt → ℕ
doc_kept d = row_kept d.row + place_kept d.vars d.at

-- with the bytes of a character that has not come whole
abbrev pub reading_kept : ReadingAt → ℕ
reading_kept reading = doc_kept reading.doc + length reading.left

-- a reader that refuses keeps nothing
abbrev pub kept : State → ℕ
kept (states.Reading reading) = reading_kept reading
kept (states.Refused fault) = 0

-- an LF is among the bytes
abbrev pub has_lf : List ℕ → Bool
has_lf bytes = list_any (λ b. b == 10) bytes

-- what stands after the last LF: all, where there is none
abbrev pub unfinished : List ℕ → List ℕ
unfinished [] = []
unfinished (b ∷ bytes) = cond (has_lf (b ∷ bytes)) (unfinished bytes) (b ∷ bytes)

-- How much of the text that it read a machine keeps, in bytes of UTF-8. A character that a state only stands for, as the mark
-- before a token, counts where the machine may still put it into the text, and else as nothing.
use Rattle.std.specs.Prelude.{ℕ, ◌+◌, ◌-◌, cond, nat_lt, List, length}
use Rattle.std.specs.Char.{encode_utf8}
use Rattle.std.specs.Str.{encode_utf8_all}
use Rattle.bye_lex.specs.declared.escape.EscapeAt.{EscapeAt}
use Rattle.bye_lex.specs.declared.iri.IriAt.{IriAt}
use Rattle.bye_lex.specs.declared.iri.IriAt.TheVariants as iris
use Rattle.bye_lex.specs.declared.label.LabelAt.{LabelAt}
use Rattle.bye_lex.specs.declared.label.LabelAt.TheVariants as labels
use Rattle.bye_lex.specs.declared.name.NameAt.{NameAt}
use Rattle.bye_lex.specs.declared.name.NameAt.TheVariants as names
use Rattle.bye_lex.specs.declared.string.StringAt.{StringAt}
use Rattle.bye_lex.specs.declared.string.StringAt.TheVariants as strings
use Rattle.bye_lex.specs.declared.tag.TagAt.{TagAt}
use Rattle.bye_lex.specs.declared.tag.TagAt.TheVariants as tags

-- the bytes of a character, by their number
abbrev pub width : ℕ → ℕ
width c = length (encode_utf8 c)

-- the bytes of a text, by their number
abbrev pub size : List ℕ → ℕ
size text = length (encode_utf8_all text)

-- an escape by number: its backslash, its mark and the digits that were read; the state does not tell `\u` from `\U` where three
-- digits or fewer follow the next one, and then it counts as `\u`, the shorter
abbrev pub escape_kept : EscapeAt → ℕ
escape_kept e = cond (nat_lt 3 e.left) (9 - e.left) (5 - e.left)

-- an IRI: what was read of it
abbrev pub iri_kept : IriAt → ℕ
iri_kept iris.Start = 0
iri_kept iris.Opened = 0
iri_kept (iris.Scheme text) = size text
iri_kept (iris.Body text) = size text
iri_kept (iris.Backslash text) = size text + 1
iri_kept (iris.Escape e text) = size text + escape_kept e
iri_kept (iris.Done text) = size text

-- a label, and the dots after it
abbrev pub label_kept : LabelAt → ℕ
label_kept labels.Start = 0
label_kept labels.Underscore = 0
label_kept labels.Colon = 0
label_kept (labels.In label) = size label
label_kept (labels.Dotted label dots) = size label + size dots

-- a language tag, and the hyphen after it
abbrev pub tag_kept : TagAt → ℕ
tag_kept tags.Start = 0
tag_kept tags.Sign = 0
tag_kept (tags.Letters tag) = size tag
tag_kept (tags.Hyphen tag) = size tag + 1
tag_kept (tags.Subtag tag) = size tag

-- the name of a variable
abbrev pub name_kept : NameAt → ℕ
name_kept names.Start = 0
name_kept (names.In name) = size name

-- what a string stands for, the escape at its end, and the quotes that may close it
abbrev pub string_kept : StringAt → ℕ
string_kept strings.Start = 0
string_kept (strings.Opened q) = 0
string_kept (strings.Empty q) = 0
string_kept (strings.In k text) = size text
string_kept (strings.Backslash k text) = size text + 1
string_kept (strings.Escape k e text) = size text + escape_kept e
string_kept (strings.OneQuote q text) = size text + 1
string_kept (strings.TwoQuotes q text) = size text + 2
string_kept (strings.Done text) = size text

-- What `convert` is asked and what it writes.
use Rattle.std.specs.Prelude.{◌≡◌, ℕ, List, Option, ◌⊎◌}
use Rattle.std.specs.Str.{encode_utf8_all}
use Rattle.bye_terms.specs.Terms.{Statement}
use Rattle.bye_ntriples.specs.Canonical.{IsCanonical}
use Rattle.bye_table.specs.Tables.{TableValue}
use Rattle.bye_tsv.specs.Written.{tsv_text, csv_text}
use Rattle.bye_json.specs.Written.{json_text}
use Rattle.bye_words.specs.Pairs.{Word}
use Rattle.bye_cli.specs.Words.{IsConvert, IsConvertTable}
use Rattle.bye_cli.specs.Documents.{Files, OfGraph, OfTable, Triples, Rows, Good, HasVerdict}
use Rattle.bye_cli.specs.Statuses.{Sends}
use Rattle.bye_cli.specs.declared.table_form.TableForm.{TableForm}
use Rattle.bye_cli.specs.declared.table_form.WrittenForm.{WrittenForm}
use Rattle.bye_cli.specs.declared.table_form.WrittenForm.TheVariants.{Tsv, Json, Csv}
use Rattle.bye_words.specs.declared.role.Role.TheVariants.{Table}
use Rattle.bye_words.specs.declared.status.Status.{Status}
use Rattle.bye_words.specs.declared.status.Status.TheVariants.{Done, Refused, Example}

-- the words name a graph, which the document of this name says, within its limits
pub record IsConvertible (files : Files) (words : List Word) (graph : List Statement) : Type 0 where
  pub graph_name : Word
  pub convert : IsConvert words graph_name
  pub graph_held : HasVerdict files (OfGraph, graph_name) (Good (Triples graph))

-- the canonical document of the triples of the graph
pub record IsConverted (files : Files) (words : List Word) (bytes : List ℕ) : Type 0 where
  pub graph : List Statement
  pub asked : IsConvertible files words graph
  pub canonical : IsCanonical graph bytes

-- the words name a table, which the document of this name says in the form that they name, within its limits, and this form to write it in
pub record IsTableConvertible (files : Files) (words : List Word) (table : TableValue) (to : WrittenForm) : Type 0 where
  pub table_name : Word
  pub from : TableForm
  pub convert : IsConvertTable words table_name from to
  pub table_held : HasVerdict files (OfTable Table from, table_name) (Good (Rows table))

-- the document of the table in the form
abbrev pub table_bytes : WrittenForm → TableValue → List ℕ
table_bytes Tsv table = encode_utf8_all (tsv_text table)
table_bytes Json table = json_text table
table_bytes Csv table = encode_utf8_all (csv_text table)

-- the document of the table in the form that the words name
pub record IsTableConverted (files : Files) (words : List Word) (bytes : List ℕ) : Type 0 where
  pub table : TableValue
  pub to : WrittenForm
  pub asked : IsTableConvertible files words table to
  pub written : bytes ≡ table_bytes to table

-- how a call of `convert` ends: on Done that document was appended, and it is never Refused nor Example
pub record IsConversion (files : Files) (words : List Word) (before now : Option (List ℕ)) (status : Status) : Type 0 where
  pub done : status ≡ Done → Sends (λ bytes. IsConverted files words bytes ⊎ IsTableConverted files words bytes) before now
  pub refused : status ≡ Refused → ⊥
  pub example : status ≡ Example → ⊥

-- What `run` is asked and what it writes.
use Rattle.std.specs.Prelude.{◌≡◌, ℕ, List, Option, ◌↔◌}
use Rattle.bye_terms.specs.Terms.{Statement}
use Rattle.bye_terms.specs.Members.{In}
use Rattle.bye_table.specs.Mappings.{Mapping}
use Rattle.bye_table.specs.Sorted.{mappings}
use Rattle.bye_table.specs.Tables.{TableValue}
use Rattle.bye_pattern.specs.Gathered.{IsWrittenAnswer}
use Rattle.bye_pattern.specs.Trees.{Select}
use Rattle.bye_pattern.specs.Written.{Written}
use Rattle.bye_grammar.specs.Documents.{QueryText}
use Rattle.bye_member.specs.Answers.{HasMore}
use Rattle.bye_words.specs.Pairs.{Word}
use Rattle.bye_cli.specs.Answering.{IsAnswerTable}
use Rattle.bye_cli.specs.Words.{IsRun}
use Rattle.bye_cli.specs.Documents.{Files, OfGraph, OfQuery, Triples, Asks, Good, HasVerdict}
use Rattle.bye_cli.specs.Converting.{table_bytes}
use Rattle.bye_cli.specs.Statuses.{Sends}
use Rattle.bye_cli.specs.declared.table_form.WrittenForm.{WrittenForm}
use Rattle.bye_words.specs.declared.status.Status.{Status}
use Rattle.bye_words.specs.declared.status.Status.TheVariants.{Done, Refused, Example}

-- the words name a graph and a query, which the documents of these names say, within their limits, and this form to write the answers in
pub record IsRunnable (files : Files) (words : List Word) (graph : List Statement) (query : Select) (form : WrittenForm) : Type 0 where
  pub graph_name : Word
  pub query_name : Word
  pub run : IsRun words graph_name query_name form
  pub graph_held : HasVerdict files (OfGraph, graph_name) (Good (Triples graph))
  pub query_held : HasVerdict files (OfQuery, query_name) (Good (Asks query))

-- They are the answers of what is written in the query's document, in the order of its text.
abbrev pub AreAsWritten : List Statement → List ℕ → TableValue → Type 0
AreAsWritten graph bytes table = (w : Written) → QueryText bytes w → (m : Mapping) → In (mappings table) m ↔ IsWrittenAnswer graph w m

-- the document of the sorted set of the answers, in the form that the words name
pub record IsRan (files : Files) (words : List Word) (bytes : List ℕ) : Type 0 where
  pub graph : List Statement
  pub query : Select
  pub form : WrittenForm
  pub asked : IsRunnable files words graph query form
  pub table : TableValue
  pub answers : IsAnswerTable graph query table
  pub as_written : AreAsWritten graph asked.query_held.bytes table
  pub written : bytes ≡ table_bytes form table

-- the words and the files ask for the answers of a query that has no more than may be
abbrev pub IsAnswerable : Files → List Word → Type 0
IsAnswerable files words = (graph : List Statement) × (query : Select) × (form : WrittenForm) × IsRunnable files words graph query form × (HasMore graph query → ⊥)

-- or of one that has more
abbrev pub IsCrowded : Files → List Word → Type 0
IsCrowded files words = (graph : List Statement) × (query : Select) × (form : WrittenForm) × IsRunnable files words graph query form × HasMore graph query

-- how a call of `run` ends: on Done that document was appended, and it is never Refused nor Example
pub record IsRunning (files : Files) (words : List Word) (before now : Option (List ℕ)) (status : Status) : Type 0 where
  pub done : status ≡ Done → Sends (IsRan files words) before now
  pub refused : status ≡ Refused → ⊥
  pub example : status ≡ Example → ⊥

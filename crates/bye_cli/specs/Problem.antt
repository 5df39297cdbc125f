-- What `learn` is asked and what it writes, and what a command writes.
use Rattle.std.specs.Prelude.{◌≡◌, ℕ, ◌<◌, List, ◌++◌, ◌⊎◌, length, codes}
use Rattle.std.specs.Fmt.{decimal}
use Rattle.std.specs.Str.{encode_utf8_all}
use Rattle.bye_terms.specs.Terms.{Statement}
use Rattle.bye_pattern.specs.Trees.{Select}
use Rattle.bye_pattern.specs.Printed.{query_text}
use Rattle.bye_table.specs.Tables.{TableValue}
use Rattle.bye_pattern.specs.Certificates.{Claim, Domains, NoRoot, Uncovered}
use Rattle.bye_pattern.specs.Learning.{IsLearnedQuery, IsJustRefused}
use Rattle.bye_grammar.specs.Documents.{QueryDoc}
use Rattle.bye_words.specs.Pairs.{Word}
use Rattle.bye_cli.specs.Words.{IsLearn}
use Rattle.bye_cli.specs.Documents.{Files, OfGraph, OfTable, Triples, Rows, Good, HasVerdict}
use Rattle.bye_cli.specs.Converting.{IsConverted, IsTableConverted}
use Rattle.bye_cli.specs.Running.{IsRan}
use Rattle.bye_cli.specs.Statuses.{InUtf8}
use Rattle.bye_words.specs.declared.role.Role.TheVariants.{Wanted}
use Rattle.bye_cli.specs.declared.table_form.TableForm.{TableForm}
use Rattle.bye_cli.specs.declared.ending.Ending.TheVariants as endings
use Rattle.bye_cli.specs.declared.answer.Answer.{Answer}
use Rattle.bye_cli.specs.declared.ending.Ending.{Ending}

-- the words name a graph and a table, which the documents of these names say, within their limits
pub record IsGiven (files : Files) (words : List Word) (graph : List Statement) (wanted : TableValue) : Type 0 where
  pub graph_name : Word
  pub wanted_name : Word
  pub tables : TableForm
  pub learn : IsLearn words graph_name wanted_name tables
  pub graph_held : HasVerdict files (OfGraph, graph_name) (Good (Triples graph))
  pub wanted_held : HasVerdict files (OfTable Wanted tables, wanted_name) (Good (Rows wanted))

-- and the table has a row
pub record IsAsked (files : Files) (words : List Word) (graph : List Statement) (wanted : TableValue) : Type 0 where
  pub given : IsGiven files words graph wanted
  pub some_row : 0 < length wanted.rows

-- the written text of the query that is learned; as a document, in UTF-8, it is read as this query
pub record IsQueryText (graph : List Statement) (wanted : TableValue) (text : List ℕ) : Type 0 where
  pub query : Select
  pub learned : IsLearnedQuery graph wanted query
  pub written : text ≡ query_text query
  pub read : QueryDoc (encode_utf8_all text) query

-- the line of a claim of the class of one conjunction
abbrev pub IsClaimLine : Claim → List ℕ → Type 0
IsClaimLine (Domains i j x) text = text ≡ codes "domains " ++ decimal i ++ codes " " ++ decimal j ++ codes " ?" ++ x ++ codes "\n"
IsClaimLine NoRoot text = text ≡ codes "noroot\n"
IsClaimLine (Uncovered x) text = text ≡ codes "uncovered ?" ++ x ++ codes "\n"
IsClaimLine _ text = ⊥

-- the line of the first claim, where no query of the class fits
pub record IsRefusalLine (graph : List Statement) (wanted : TableValue) (text : List ℕ) : Type 0 where
  pub claim : Claim
  pub refused : IsJustRefused graph wanted claim
  pub written : IsClaimLine claim text

-- what is written where the words and the files ask for a query
pub record IsLearnedText (files : Files) (words : List Word) (text : List ℕ) : Type 0 where
  pub graph : List Statement
  pub wanted : TableValue
  pub asked : IsAsked files words graph wanted
  pub query : IsQueryText graph wanted text

-- what is written where the words and the files ask for a query, and none of the class fits
pub record IsRefusalText (files : Files) (words : List Word) (text : List ℕ) : Type 0 where
  pub graph : List Statement
  pub wanted : TableValue
  pub asked : IsAsked files words graph wanted
  pub refusal : IsRefusalLine graph wanted text

-- what is written on Done: the text of the learned query, the converted document, or the answers of the query
abbrev pub IsDoneOutput : Files → List Word → List ℕ → Type 0
IsDoneOutput files words bytes = InUtf8 (IsLearnedText files words) bytes ⊎ (IsConverted files words bytes ⊎ (IsTableConverted files words bytes ⊎ IsRan files words bytes))

-- what is written on Refused
abbrev pub IsRefusedOutput : Files → List Word → List ℕ → Type 0
IsRefusedOutput files words bytes = InUtf8 (IsRefusalText files words) bytes

-- one of the two
abbrev pub IsOutput : Files → List Word → List ℕ → Type 0
IsOutput files words bytes = IsDoneOutput files words bytes ⊎ IsRefusedOutput files words bytes

-- what is to be written of a graph and a table, where the command ends so
abbrev pub IsWritten : List Statement → TableValue → Ending → List ℕ → Type 0
IsWritten graph wanted endings.Done bytes = InUtf8 (IsQueryText graph wanted) bytes
IsWritten graph wanted endings.Refused bytes = InUtf8 (IsRefusalLine graph wanted) bytes

-- what is to be written, where the command ends so
abbrev pub IsWrittenOf : Files → List Word → Ending → List ℕ → Type 0
IsWrittenOf files words endings.Done bytes = IsDoneOutput files words bytes
IsWrittenOf files words endings.Refused bytes = IsRefusedOutput files words bytes

-- what is to be written, and how the command then ends
abbrev pub IsAnswer : Files → List Word → Answer → Type 0
IsAnswer files words answer = IsWrittenOf files words answer.ending answer.bytes.items

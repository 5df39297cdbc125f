-- The documents of a command, and what is to be said of their bytes.
use Rattle.std.specs.Prelude.{◌≡◌, ℕ, ◌<◌, ◌≤◌, List, [], ◌∷◌, Option, Some, None, Result, Ok, Err, ⊤, length, ◌⊎◌, IsSomeAnd}
use Rattle.bye_terms.specs.Terms.{Statement}
use Rattle.bye_ntriples.specs.Answers.{NtAnswer}
use Rattle.bye_ntriples.specs.declared.fault.NtErr.{NtErr}
use Rattle.bye_ntriples.specs.declared.fault.NtErr.TheVariants as graph_errors
use Rattle.bye_table.specs.Tables.{TableValue}
use Rattle.bye_tsv.specs.OneAnswer.{TsvAnswer}
use Rattle.bye_tsv.specs.declared.fault.Bounds.{Bounds}
use Rattle.bye_tsv.specs.declared.fault.TsvErr.{TsvErr}
use Rattle.bye_tsv.specs.declared.fault.TsvErr.TheVariants as tsv_errors
use Rattle.bye_json.specs.Answers.{JsonAnswer}
use Rattle.bye_json.specs.declared.json_err.JsonErr.{JsonErr}
use Rattle.bye_json.specs.declared.json_err.JsonErr.TheVariants as json_errors
use Rattle.bye_pattern.specs.Trees.{Select}
use Rattle.bye_pattern.specs.declared.rule.Rule.{Rule as PatternRule}
use Rattle.bye_pattern.specs.declared.rule.Rule.TheVariants as pattern_rules
use Rattle.bye_descent.specs.Features.{feature_text}
use Rattle.bye_query.specs.Answers.{QueryAnswer}
use Rattle.bye_query.specs.declared.query_err.QueryErr.{QueryErr}
use Rattle.bye_query.specs.declared.query_err.QueryErr.TheVariants as query_errors
use Rattle.bye_words.specs.Pairs.{Word}
use Rattle.bye_cli.specs.Words.{Command, Learn, Convert, ConvertTable, Run}
use Rattle.bye_cli.specs.declared.table_form.TableForm.{TableForm}
use Rattle.bye_cli.specs.declared.table_form.TableForm.TheVariants.{Tsv, Json}
use Rattle.bye_words.specs.declared.role.Role.{Role}
use Rattle.bye_words.specs.declared.role.Role.TheVariants as roles
use Rattle.bye_words.specs.declared.rule.Rule.{Rule}
use Rattle.bye_words.specs.declared.rule.Rule.TheVariants as rules
use Rattle.bye_words.specs.declared.fault.Fault.{Fault}
use Rattle.bye_words.specs.declared.fault.Fault.TheVariants as faults
use Rattle.bye_words.specs.declared.count.Count.{Count}
use Rattle.bye_words.specs.declared.count.Count.TheVariants as counts

-- what a folder tells of its files: the bytes of each name
abbrev pub Files : Type 0
Files = Option (List ℕ → Option (List ℕ))

-- where the folder tells its files, the one of that name has these bytes
abbrev pub Holds : Files → Word → List ℕ → Type 0
Holds None name bytes = ⊤
Holds (Some files) name bytes = files name ≡ Some bytes

-- where the folder tells its files, the one of that name has more than so many bytes
abbrev pub HoldsLonger : Files → Word → ℕ → Type 0
HoldsLonger None name limit = ⊤
HoldsLonger (Some files) name limit = IsSomeAnd (files name) (λ bytes. limit < length bytes)

-- the folder tells its files
abbrev pub IsTold : Files → Type 0
IsTold None = ⊥
IsTold (Some files) = ⊤

-- what a document is read as: a graph, a query, or a table in a role and a form
pub data Kind : Type 0 where
  OfGraph : Kind
  OfQuery : Kind
  OfTable : Role → TableForm → Kind

-- its role
abbrev pub role_of : Kind → Role
role_of OfGraph = roles.Graph
role_of OfQuery = roles.Query
role_of (OfTable role form) = role

-- a document: what it is read as, and its name
abbrev pub Document : Type 0
Document = Kind × Word

-- the documents of a command, in the order in which they are read
abbrev pub due : Command → List Document
due (Learn graph wanted tables) = (OfGraph, graph) ∷ (OfTable roles.Wanted tables, wanted) ∷ []
due (Convert graph) = (OfGraph, graph) ∷ []
due (ConvertTable table from to) = (OfTable roles.Table from, table) ∷ []
due (Run graph query form) = (OfGraph, graph) ∷ (OfQuery, query) ∷ []

-- the greatest number of bytes of a document
abbrev pub limit_of : Kind → ℕ
limit_of OfGraph = 268435456
limit_of OfQuery = 16777216
limit_of (OfTable role form) = 67108864

-- the greatest number of variables of a table: of one that is converted, and of examples
abbrev pub most_vars : Role → ℕ
most_vars roles.Table = 1024
most_vars _ = 32

-- the greatest number of its rows
abbrev pub most_rows : Role → ℕ
most_rows roles.Table = 1048576
most_rows _ = 10000

-- both
abbrev pub bounds_of : Role → Bounds
bounds_of role = record { vars = most_vars role; rows = most_rows role }

-- what a document says
pub data Value : Type 0 where
  Triples : List Statement → Value
  Rows : TableValue → Value
  Asks : Select → Value

-- the verdict on a document's bytes: they have too many of something, they are not of the form, or they say a value
pub data Verdict : Type 0 where
  TooMany : Count → Verdict
  Faulty : Fault → Verdict
  Good : Value → Verdict

-- the verdict on what is read as a graph; there is none where memory was refused
abbrev pub graph_verdict : Result (List Statement) NtErr → Option Verdict
graph_verdict (Ok triples) = Some (Good (Triples triples))
graph_verdict (Err (graph_errors.Syntax place)) = Some (Faulty (faults.Syntax place))
graph_verdict (Err (graph_errors.NotUtf8 place)) = Some (Faulty (faults.NotUtf8 place))
graph_verdict (Err graph_errors.TooMany) = Some (TooMany counts.Triples)
graph_verdict (Err graph_errors.Memory) = None

-- the verdict on what is read as a table in TSV
abbrev pub tsv_verdict : Result TableValue TsvErr → Option Verdict
tsv_verdict (Ok table) = Some (Good (Rows table))
tsv_verdict (Err (tsv_errors.NotUtf8 place)) = Some (Faulty (faults.NotUtf8 place))
tsv_verdict (Err (tsv_errors.Header place)) = Some (Faulty (faults.Header place))
tsv_verdict (Err (tsv_errors.Term place)) = Some (Faulty (faults.Term place))
tsv_verdict (Err (tsv_errors.Fields line)) = Some (Faulty (faults.Fields line))
tsv_verdict (Err tsv_errors.TooManyVars) = Some (TooMany counts.Variables)
tsv_verdict (Err tsv_errors.TooManyRows) = Some (TooMany counts.Rows)
tsv_verdict (Err tsv_errors.Memory) = None

-- the verdict on what is read as a table in JSON
abbrev pub json_verdict : Result TableValue JsonErr → Option Verdict
json_verdict (Ok table) = Some (Good (Rows table))
json_verdict (Err json_errors.NotJson) = Some (Faulty faults.NotJson)
json_verdict (Err json_errors.NotBindings) = Some (Faulty faults.NotBindings)
json_verdict (Err (json_errors.BadVariable number)) = Some (Faulty (faults.BadVariable number))
json_verdict (Err (json_errors.Unlisted row)) = Some (Faulty (faults.Unlisted row))
json_verdict (Err (json_errors.BadTerm row number)) = Some (Faulty (faults.BadTerm row number))
json_verdict (Err json_errors.TooManyVars) = Some (TooMany counts.Variables)
json_verdict (Err json_errors.TooManyRows) = Some (TooMany counts.Rows)
json_verdict (Err json_errors.Memory) = None

-- a rule that a query breaks, as a line tells it
abbrev pub rule_of : PatternRule → Rule
rule_of pattern_rules.NoTriples = rules.NoTriples
rule_of pattern_rules.NoNewVariable = rules.NoNewVariable
rule_of pattern_rules.NotWellDesigned = rules.NotWellDesigned
rule_of pattern_rules.UnsafeCondition = rules.UnsafeCondition

-- the verdict on what is read as a query
abbrev pub query_verdict : Result Select QueryErr → Option Verdict
query_verdict (Ok query) = Some (Good (Asks query))
query_verdict (Err query_errors.TooLong) = Some (TooMany counts.Bytes)
query_verdict (Err (query_errors.NotUtf8 place)) = Some (Faulty (faults.NotUtf8 place))
query_verdict (Err (query_errors.Syntax place)) = Some (Faulty (faults.Syntax place))
query_verdict (Err (query_errors.LeftOut place feature)) = Some (Faulty (faults.LeftOut place (feature_text feature)))
query_verdict (Err (query_errors.UnknownPrefix place)) = Some (Faulty (faults.UnknownPrefix place))
query_verdict (Err (query_errors.TooDeep place)) = Some (TooMany counts.Brackets)
query_verdict (Err (query_errors.Broken shape)) = Some (Faulty (faults.Broken (rule_of shape.rule) shape.path))
query_verdict (Err query_errors.Projected) = Some (Faulty faults.Projected)
query_verdict (Err query_errors.Memory) = None

-- some answer of a reader has this verdict
abbrev pub Reads : {A : Type 0} → (A → Type 0) → (A → Option Verdict) → Verdict → Type 0
Reads {A} IsAnswer verdict_of verdict = (answer : A) × IsAnswer answer × (verdict_of answer ≡ Some verdict)

-- the bytes are read so in the form of the document
abbrev pub IsRead : Kind → List ℕ → Verdict → Type 0
IsRead OfGraph bytes verdict = Reads (NtAnswer bytes) graph_verdict verdict
IsRead OfQuery bytes verdict = Reads (QueryAnswer bytes) query_verdict verdict
IsRead (OfTable role Tsv) bytes verdict = Reads (TsvAnswer (bounds_of role) bytes) tsv_verdict verdict
IsRead (OfTable role Json) bytes verdict = Reads (JsonAnswer bytes (most_vars role) (most_rows role)) json_verdict verdict

-- the bytes are more than the limit; or they are not, and are read so
abbrev pub IsVerdict : Kind → List ℕ → Verdict → Type 0
IsVerdict kind bytes verdict = ((limit_of kind < length bytes) × (verdict ≡ TooMany counts.Bytes)) ⊎ ((length bytes ≤ limit_of kind) × IsRead kind bytes verdict)

-- the verdict on the bytes that the document has
pub record HasVerdict (files : Files) (d : Document) (verdict : Verdict) : Type 0 where
  pub bytes : List ℕ
  pub held : Holds files d.1 bytes
  pub judged : IsVerdict d.0 bytes verdict

-- the document is one of these, and each one before it says a value
abbrev pub Reaches : Files → List Document → Document → Type 0
Reaches files [] e = ⊥
Reaches files (d ∷ ds) e = (d ≡ e) ⊎ ((value : Value) × HasVerdict files d (Good value) × Reaches files ds e)

-- some document of these in the role is reached, and has this verdict
pub record Stops (files : Files) (ds : List Document) (role : Role) (verdict : Verdict) : Type 0 where
  pub document : Document
  pub in_role : role_of document.0 ≡ role
  pub reached : Reaches files ds document
  pub has : HasVerdict files document verdict

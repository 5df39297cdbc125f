-- The commands that the words of the command line give.
use Rattle.std.specs.Prelude.{◌≡◌, List, codes, ◌⊎◌}
use Rattle.bye_terms.specs.Members.{In}
use Rattle.bye_words.specs.Pairs.{Word, Setting}
use Rattle.bye_words.specs.Forms.{learn, convert, convert_table, run, IsLine, names_in}
use Rattle.bye_cli.specs.declared.table_form.TableForm.{TableForm}
use Rattle.bye_cli.specs.declared.table_form.TableForm.TheVariants as read
use Rattle.bye_cli.specs.declared.table_form.WrittenForm.{WrittenForm}
use Rattle.bye_cli.specs.declared.table_form.WrittenForm.TheVariants as written

-- a command, with the names of its documents and the forms of its tables
pub data Command : Type 0 where
  Learn : Word → Word → TableForm → Command
  Convert : Word → Command
  ConvertTable : Word → TableForm → WrittenForm → Command
  Run : Word → Word → WrittenForm → Command

-- the word that names a form in which tables are read
abbrev pub read_word : TableForm → Word
read_word read.Tsv = codes "tsv"
read_word read.Json = codes "json"

-- the word that names a form in which tables are written
abbrev pub written_word : WrittenForm → Word
written_word written.Tsv = codes "tsv"
written_word written.Json = codes "json"
written_word written.Csv = codes "csv"

-- the form of the tables of examples: TSV where none is named
abbrev pub HasTables : List Setting → TableForm → Type 0
HasTables settings form = In settings (codes "--tables", read_word form) ⊎ ((In (names_in settings) (codes "--tables") → ⊥) × (form ≡ read.Tsv))

-- the form of the answers: TSV where none is named
abbrev pub HasForm : List Setting → WrittenForm → Type 0
HasForm settings form = In settings (codes "--as", written_word form) ⊎ ((In (names_in settings) (codes "--as") → ⊥) × (form ≡ written.Tsv))

-- `learn` with `--graph FILE` and `--wanted FILE`, and maybe `--tables FORM`, in any order
pub record IsLearn (words : List Word) (graph wanted : Word) (tables : TableForm) : Type 0 where
  pub settings : List Setting
  pub line : IsLine words learn settings
  pub graph_named : In settings (codes "--graph", graph)
  pub wanted_named : In settings (codes "--wanted", wanted)
  pub tables_named : HasTables settings tables

-- `convert` with `--graph FILE`
pub record IsConvert (words : List Word) (graph : Word) : Type 0 where
  pub settings : List Setting
  pub line : IsLine words convert settings
  pub graph_named : In settings (codes "--graph", graph)

-- `convert` with `--table FILE`, `--from FORM` and `--to FORM`, in any order
pub record IsConvertTable (words : List Word) (table : Word) (from : TableForm) (to : WrittenForm) : Type 0 where
  pub settings : List Setting
  pub line : IsLine words convert_table settings
  pub table_named : In settings (codes "--table", table)
  pub from_named : In settings (codes "--from", read_word from)
  pub to_named : In settings (codes "--to", written_word to)

-- `run` with `--graph FILE` and `--query FILE`, and maybe `--as FORM`, in any order
pub record IsRun (words : List Word) (graph query : Word) (form : WrittenForm) : Type 0 where
  pub settings : List Setting
  pub line : IsLine words run settings
  pub graph_named : In settings (codes "--graph", graph)
  pub query_named : In settings (codes "--query", query)
  pub form_named : HasForm settings form

-- the words are those of the command
abbrev pub IsCommand : List Word → Command → Type 0
IsCommand words (Learn graph wanted tables) = IsLearn words graph wanted tables
IsCommand words (Convert graph) = IsConvert words graph
IsCommand words (ConvertTable table from to) = IsConvertTable words table from to
IsCommand words (Run graph query form) = IsRun words graph query form

-- no command has these words
abbrev pub IsNoCommand : List Word → Type 0
IsNoCommand words = (command : Command) → IsCommand words command → ⊥

-- some command has these words
abbrev pub IsSomeCommand : List Word → Type 0
IsSomeCommand words = (command : Command) × IsCommand words command

-- the words are those of some `convert`
abbrev pub IsSomeConvert : List Word → Type 0
IsSomeConvert words = ((graph : Word) × IsConvert words graph) ⊎ ((table : Word) × (from : TableForm) × (to : WrittenForm) × IsConvertTable words table from to)

-- the words are those of some `run`
abbrev pub IsSomeRun : List Word → Type 0
IsSomeRun words = (graph : Word) × (query : Word) × (form : WrittenForm) × IsRun words graph query form

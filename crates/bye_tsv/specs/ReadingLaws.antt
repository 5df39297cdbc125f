-- A document of tables has one meaning.
use Rattle.std.specs.Prelude.{◌≡◌, ℕ, List}
use Rattle.bye_table.specs.Tables.{IsTable, TableValue}
use Rattle.bye_tsv.specs.Documents.{TsvDoc}

-- bytes are a document of one table at most
abbrev pub OneTable : Type 0
OneTable = (bytes : List ℕ) (table other : TableValue) → TsvDoc bytes table → TsvDoc bytes other → table ≡ other

-- what they are a document of is a table: no variable stands twice, and rows bind of its variables alone
abbrev pub DocumentsAreTables : Type 0
DocumentsAreTables = (bytes : List ℕ) (table : TableValue) → TsvDoc bytes table → IsTable table

-- That the written document of a table is a document of it.
use Rattle.std.specs.Prelude.{◌≡◌, true, List, [], ◌∷◌, ◌++◌, map, Option, Some, None}
use Rattle.std.specs.List.{AllByRecursion}
use Rattle.std.specs.Str.{all_scalars}
use Rattle.bye_terms.specs.Names.{is_name}
use Rattle.bye_terms.specs.Valid.{IsRdfTerm}
use Rattle.bye_terms.specs.declared.term.Term.{Term}
use Rattle.bye_table.specs.Mappings.{Name, Pairs, row_mapping}
use Rattle.bye_table.specs.Tables.{IsTable, TableValue}
use Rattle.bye_json.specs.Documents.{JsonDoc}
use Rattle.bye_json.specs.Written.{json_text}

-- the name of a variable, as a text of Unicode
pub record IsVariable (v : Name) : Type 0 where
  pub name : is_name v ≡ true
  pub scalars : all_scalars v ≡ true

-- the terms of a row are terms of RDF
abbrev pub HasTerms : Pairs → Type 0
HasTerms row = AllByRecursion (λ e. IsRdfTerm e.1) row

-- a table of variables and terms of RDF
pub record IsRdfTable (table : TableValue) : Type 0 where
  pub is : IsTable table
  pub names : AllByRecursion IsVariable table.vars
  pub terms : AllByRecursion HasTerms table.rows

-- the variable with its term, where there is one
abbrev pub pair_of : Name → Option Term → Pairs
pair_of v None = []
pair_of v (Some t) = (v, t) ∷ []

-- the row in the order of the variables
abbrev pub row_in_order : List Name → Pairs → Pairs
row_in_order [] row = []
row_in_order (v ∷ vars) row = pair_of v (row_mapping row v) ++ row_in_order vars row

-- the table with each row in the order of its variables
abbrev pub in_order : TableValue → TableValue
in_order table = record { vars = table.vars; rows = map (row_in_order table.vars) table.rows }

-- row by row, the same mappings
abbrev pub AreSameRows : List Pairs → List Pairs → Type 0
AreSameRows [] [] = Unit {0}
AreSameRows [] (s ∷ ss) = ⊥
AreSameRows (r ∷ rs) [] = ⊥
AreSameRows (r ∷ rs) (s ∷ ss) = (row_mapping r ≡ row_mapping s) × AreSameRows rs ss

-- the same variables in the same order, and the same mappings
abbrev pub IsSameTable : TableValue → TableValue → Type 0
IsSameTable one other = (one.vars ≡ other.vars) × AreSameRows one.rows other.rows

-- the written document of a table is a document of it, and of the same mappings
abbrev pub ReadsBack : Type 0
ReadsBack = (table : TableValue) → IsRdfTable table → JsonDoc (json_text table) (in_order table) × IsSameTable table (in_order table)

-- The cells of rows (SPARQL 1.1 Query Results CSV and TSV Formats, section 3): a term or none for each variable of a table.
use Rattle.std.specs.Borrow.{Bor}
use Rattle.std.specs.Prelude.{◌≡◌, List, map, Option, Some, None, option_map}
use Rattle.std.specs.List.{AllByRecursion}
use Rattle.bye_terms.specs.declared.term.Term.{Term}
use Rattle.bye_terms.specs.Valid.{IsRdfTerm}
use Rattle.bye_table.specs.Mappings.{Mapping, Name, Pairs, row_mapping}

-- a term, or none where the variable is not bound
abbrev pub Cells : Type 0
Cells = List (Option Term)

-- the cells of a mapping, in the order of the variables
abbrev pub cells_of : List Name → Mapping → Cells
cells_of vars m = map m vars

-- the cells that the program refers to
abbrev pub found : List (Option (Bor Term)) → Cells
found cells = map (option_map (λ t. t.now)) cells

-- a cell has a term of RDF, or none
abbrev pub IsRdfCell : Option Term → Type 0
IsRdfCell None = Unit {0}
IsRdfCell (Some t) = IsRdfTerm t

-- these are the cells of the row, and their terms are terms of RDF
pub record HasCells (vars : List Name) (row : Pairs) (cells : Cells) : Type 0 where
  pub are : cells ≡ cells_of vars (row_mapping row)
  pub valid : AllByRecursion IsRdfCell cells
